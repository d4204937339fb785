-- A computed run: a tool writes three bad lines and ends.
use Rattle.std.proofs.Common.{◌≡◌, ℕ, ◌≤◌, ◌++◌, List, [], ◌∷◌, inl, inr, replicate, take, refl, ap, sym, ◌∙◌, subst, arith, codes, false, true, rules, Option, Some, None, Bool}
use Rattle.std.specs.Prelude.{map}
use Rattle.std.specs.Fmt.{digits}
use Rattle.tb_terms.specs.declared.expr.Expr.{the_lemmas as expr_lemmas}
use Rattle.tb_terms.specs.declared.term.Term.{Term, the_lemmas as term_lemmas}
use Rattle.tb_terms.specs.declared.term.Term.TheVariants as term
use Rattle.tb_terms.specs.declared.sort.Sort.{the_lemmas as sort_lemmas}
use Rattle.tb_terms.specs.declared.sort.Sort.TheVariants as sort
use Rattle.tb_terms.specs.Sizes.{is_within_limits, term_size}
use Rattle.tb_terms.specs.Sorts.{has_sort, initial_value}
use Rattle.tb_terms.specs.Texts.{term_text}
use Rattle.tb_read.specs.declared.fault.TermFault.TheVariants as fault
use Rattle.tb_read.specs.Tokens.{appl_tokens}
use Rattle.tb_read.specs.Spelling.{Reads}
use Rattle.tb_read.proofs.Written.{written_reads}
use Rattle.tb_tool_line.specs.ToolLines.{line_of, IsToolLine}
use Rattle.tb_tool_line.specs.Sending.{taken_of}
use Rattle.tb_tool_line.proofs.Lines.{read-line, faulty-line}
use Rattle.tb_body.specs.declared.tree.Tree.{the_lemmas as tree_lemmas}
use Rattle.tb_body.specs.declared.tree.Tree.TheVariants as tree
use Rattle.tb_body.specs.declared.act.Act.TheVariants as act
use Rattle.tb_body.specs.declared.atom.Atom.{Atom}
use Rattle.tb_body.specs.declared.body.Body.{Body}
use Rattle.tb_body.specs.declared.program.Tool.{Tool}
use Rattle.tb_body.specs.InRange.{is_body_in_range}
use Rattle.tb_body.specs.Programs.{is_program_in_range}
use Rattle.tb_process_steps.specs.Processes.{Process, At, Seq, Let, fresh}
use Rattle.tb_process_steps.specs.Settings.{with_settings}
use Rattle.tb_notes.specs.Inboxes.{nothing}
use Rattle.tb_tools.specs.Lanes.{Lane, unused, new_tool}
use Rattle.tb_tools.specs.declared.stage.Stage.TheVariants as stage
use Rattle.tb_bus.specs.declared.origin.Origin.{Origin}
use Rattle.tb_bus.specs.Buses.{Bus, Proc, start}
use Rattle.tb_bus.specs.Traces.{IsTrace, replay}
use Rattle.tb_bus.proofs.TraceLemmas.{trace-rest}
use Rattle.tb_core.specs.Cores.{CoreState}
use Rattle.tb_bus.specs.Steps.{steps, moves, moves_of_all, moves_of, handshakes, handshakes_with, advance, first}
use Rattle.tb_edge.specs.declared.given.Given.{Given}
use Rattle.tb_edge.specs.declared.given.Given.TheVariants as given
use Rattle.tb_edge.specs.declared.given.Taken.{Taken}
use Rattle.tb_edge.specs.declared.given.Taken.TheVariants as taken
use Rattle.tb_edge.specs.Ends.{ClockView}
use Rattle.tb_log.specs.declared.entry.Input.TheVariants as input
use Rattle.tb_log.specs.declared.entry.ToolLine.TheVariants as line
use Rattle.tb_log.specs.declared.entry.Reply.TheVariants.{Took, Dropped}
use Rattle.tb_log.specs.declared.entry.Why.TheVariants as why
use Rattle.tb_log.specs.declared.entry.Out.{Out}
use Rattle.tb_log.specs.declared.entry.Out.TheVariants as out
use Rattle.tb_log.specs.declared.entry.Entry.{Entry}
use Rattle.tb_log.specs.declared.entry.Entry.TheVariants.{Did, Quiet, Fed, Gave}
use Rattle.tb_log.specs.declared.entry.Label.{Label}
use Rattle.tb_log.specs.declared.entry.LabelKind.TheVariants as kind
use Rattle.tb_log.specs.Lanes.{inputs, sent}
use Rattle.tb_terms.specs.Names.{is_string}
use Rattle.tb_terms.specs.Proper.{is_proper}
use Rattle.tb_log.specs.Proper.{is_proper_entry}
use Rattle.std.specs.List.{list_all}
use Rattle.tb_log.specs.LogText.{log_text}
use Rattle.tb_log.specs.Limits.{log_size}
use Rattle.tb_edge.specs.Faults.{Rose}
use Rattle.tb_lock.specs.Histories.{IsSparse}
use Rattle.tb_run.specs.Workers.{AreLines}
use Rattle.tb_run.specs.Clocks.{ClockRan, ClockStopped, TimeIs}
use Rattle.tb_run.specs.declared.ends.RunWhy.{RunWhy}
use Rattle.tb_run.specs.declared.ends.RunWhy.TheVariants.{Ended, Crew, Clock, Events, NoMemory}
use Rattle.tb_run.specs.Outcomes.{LaneRan, LaneStopped, IsDone, Runs}
use Rattle.tb_run.specs.Refusals.{LaneRefused}
use Rattle.tb_run.specs.Views.{LaneView, EachLane, outside_of, OutsideView}
use Rattle.tb_run.proofs.Examples.{letter-string, plain, root, seen, finish, tool, holding, Leads, stays, did, quiet, came, gave, sparse, from_start, empty-lane, idle, at_end, silent-lanes, one_lane, clock_of, before, afterwards, core_of, no-ticks, not-twice, not-behind, not-quiet, not-made, gave-all, gave-most, unmoved-lanes}

-- the name of the tool, and its command
abbrev pub t : List ℕ
t = codes "t"

-- `execute(t, T?)` and `rec-disconnect(T?)`
abbrev pub departing_atoms : List Atom
departing_atoms = plain (act.Execute 0 0) ∷ plain (act.RecDisconnectAny 0 0) ∷ []

pub body-in_range : is_body_in_range (tree.Let from_start (tree.Seq (tree.At 1) (tree.At 2))) departing_atoms (sort.Tool t ∷ []) 0 ≡ true
unfolding is_body_in_range
body-in_range = search (rules, tree_lemmas, expr_lemmas)

abbrev pub departing_body : Body
departing_body = record { tree = tree.Let from_start (tree.Seq (tree.At 1) (tree.At 2)); atoms = departing_atoms; sorts = sort.Tool t ∷ []; formals = 0; in_range = body-in_range }

abbrev pub kinds : List Tool
kinds = record { name = t; command = Some t } ∷ []

pub program-in_range : is_program_in_range (departing_body ∷ []) (root 0 ∷ []) kinds ≡ true
unfolding is_program_in_range
program-in_range = refl

-- `tool t is { command = "t" } process P is let T : t in execute(t, T?) . rec-disconnect(T?) endlet toolbus(P)`
abbrev pub departing : Origin
departing = record { program = record { bodies = departing_body ∷ []; roots = root 0 ∷ []; tools = kinds; in_range = program-in_range }; connects = []; limit = 1000000 }

fresh-body : fresh departing_body.tree ≡ Let from_start (Seq (At 1 0) (At 2 0))
fresh-body = search (rules, tree_lemmas)

begins-none : initial_value (sort.Tool t) ≡ tool t 0
begins-none = search (rules, sort_lemmas)

is-tool : (number : ℕ) → has_sort (tool t number) (sort.Tool t) ≡ true
is-tool number = search (rules, sort_lemmas, term_lemmas)

is-within : (number : ℕ) → is_within_limits (tool t number) ≡ true
unfolding is_within_limits
is-within number = search (rules, term_lemmas)

let-starts : with_settings (holding t 0 ∷ []) from_start ≡ Some (holding t 0 ∷ [])
let-starts = search (rules, begins-none, is-tool)

abbrev proc : Process → ℕ → Proc
proc term number = record { number = 1; body = 0; term = term; store = holding t number ∷ []; inbox = nothing }

-- the bus with these processes and this first lane
abbrev bus_of : List Proc → ℕ → Bool → ℕ → Lane → Bus
bus_of procs last down next lane = record {
  program = departing.program;
  procs = procs;
  now = 0;
  last_starter = last;
  next_number = 2;
  no_ticks = false;
  down = down;
  bench = record { lanes = lane ∷ replicate 15 unused; next_tool = next };
}

abbrev opened : Bus
opened = bus_of (proc (Let from_start (Seq (At 1 0) (At 2 0))) 0 ∷ []) 0 false 1 unused

-- the lane with its tool, where this is queued for sending
abbrev live : List Out → Lane
live outs = record { up = true; ended = false; tool = Some (new_tool t 1 stage.Live); outs = outs }

abbrev leaving : List Out → Lane
leaving outs = record { up = false; ended = true; tool = Some (new_tool t 1 stage.Leaving); outs = outs }

abbrev free : Lane
free = record { up = false; ended = true; tool = None; outs = [] }

abbrev waits : Lane → Bus
waits lane = bus_of (proc (At 2 0) 1 ∷ []) 1 false 2 lane

abbrev over : Bool → Bus
over down = bus_of [] 1 down 2 free

abbrev pub bad : Entry
bad = Fed (input.Line 1 line.Bad) (Dropped why.Bad)

abbrev pub departing_log : List Entry
departing_log =
    Did (seen kind.Execute 1 1 (tool t 1 ∷ []))
    ∷ Gave 1 (out.Start t)
    ∷ Quiet
    ∷ bad ∷ bad ∷ bad
    ∷ Fed (input.Gone 1) Took
    ∷ Gave 1 out.End
    ∷ Did (seen kind.RecDisconnect 1 2 (tool t 1 ∷ []))
    ∷ Did finish
    ∷ Fed input.NoTicks (Dropped why.Down)
    ∷ []

leads : Leads opened departing_log (over true)
unfolding steps moves moves_of_all moves_of handshakes handshakes_with advance
leads =
    did opened (waits (live (out.Start t ∷ []))) (over true) _ _ (simp (let-starts, is-tool, is-within))
    (gave (waits (live (out.Start t ∷ []))) (waits (live [])) (over true) 1 (out.Start t) _ (omega arith, omega arith) refl refl
    (quiet (waits (live [])) (over true) _ refl refl
    (came (waits (live [])) (waits (live [])) (over true) (input.Line 1 line.Bad) (Dropped why.Bad) _ ((omega arith, omega arith), tt) refl refl
    (came (waits (live [])) (waits (live [])) (over true) (input.Line 1 line.Bad) (Dropped why.Bad) _ ((omega arith, omega arith), tt) refl refl
    (came (waits (live [])) (waits (live [])) (over true) (input.Line 1 line.Bad) (Dropped why.Bad) _ ((omega arith, omega arith), tt) refl refl
    (came (waits (live [])) (waits (leaving (out.End ∷ []))) (over true) (input.Gone 1) Took _ (omega arith, omega arith) refl refl
    (gave (waits (leaving (out.End ∷ []))) (waits (leaving [])) (over true) 1 out.End _ (omega arith, omega arith) refl refl
    (did (waits (leaving [])) (over false) (over true) _ _ (simp (is-tool, is-within))
    (did (over false) (over true) (over true) finish _ refl
    (came (over true) (over true) (over true) input.NoTicks (Dropped why.Down) [] tt refl refl (stays (over true))))))))))))

-- the bus that the program opens with
opens : (P : Bus → Type 0) → P opened → P (start departing)
opens P p =
    subst (λ (term : Process). P (bus_of (record (proc term 0) { store = record { sort = sort.Tool t; value = initial_value (sort.Tool t) } ∷ [] } ∷ []) 0 false 1 unused)) (sym fresh-body)
    (subst (λ (value : Term). P (bus_of (record (proc (Let from_start (Seq (At 1 0) (At 2 0))) 0) { store = record { sort = sort.Tool t; value = value } ∷ [] } ∷ []) 0 false 1 unused)) (sym begins-none) p)

pub departing-leads : Leads (start departing) departing_log (over true)
departing-leads = opens (λ bus. Leads bus departing_log (over true)) leads

pub departing-sparse : IsSparse departing_log
departing-sparse = sparse departing_log refl

is-done : IsDone (over true)
is-done = record { down = refl; empty = λ lane l. empty-lane (over true).bench lane refl }

pub departing-done : IsDone (replay (start departing) departing_log)
departing-done = subst IsDone (sym departing-leads.is) is-done

tool-text : term_text (tool t 1) ≡ codes "t(1)"
unfolding digits
tool-text = search (rules, term_lemmas)

abbrev pub departing_text : List ℕ
departing_text = codes "1 execute 1.1 t(1)\n2 out 1 start \"t\"\n3 quiet\n4 drop bad line 1 ?\n5 drop bad line 1 ?\n6 drop bad line 1 ?\n7 gone 1\n8 out 1 end\n9 rec-disconnect 1.2 t(1)\n10 finish\n11 drop down noticks\n"

pub tool-proper : is_proper (tool t 1) ≡ true
tool-proper = search (rules, term_lemmas)

name-string : is_string t ≡ true
name-string = letter-string 116 (omega arith) refl

departing-proper : list_all is_proper_entry departing_log ≡ true
departing-proper = simp (tool-proper, name-string)

departing-text : log_text departing_log ≡ departing_text
unfolding digits
departing-text = simp tool-text

-- what the tool writes: too long a line, what is no term, a term that is no line, and its end
open-bracket : IsToolLine (codes "foo(") line.Bad
open-bracket = faulty-line (codes "foo(") (fault.Syntax 4) (omega arith) (λ e. cc) (take 2 (appl_tokens (codes "foo") ([] ∷ [])), (_, refl, (_, refl, refl)))

word : Term
word = term.Appl (codes "snd-val") []

word-read : Reads (codes "snd-val") word
unfolding word
word-read =
    let text : term_text word ≡ codes "snd-val" = search (rules, term_lemmas) in
    subst (λ (bytes : List ℕ). Reads bytes word) text (written_reads word (search (rules, term_lemmas)))

other-word : IsToolLine (codes "snd-val") line.Bad
unfolding word
other-word =
    let bad : line_of word ≡ line.Bad = search (rules, term_lemmas) in
    subst (IsToolLine (codes "snd-val")) bad (read-line (codes "snd-val") word (omega arith) word-read)

abbrev pub put_by_tool : List Given
put_by_tool = given.Long ∷ given.Line (codes "foo(") ∷ given.Line (codes "snd-val") ∷ given.End ∷ []

pub put-lines : AreLines 1 put_by_tool (inputs departing_log 1)
put-lines = ((refl, refl), ((refl, open-bracket), ((refl, other-word), (refl, tt))))

pub taken-all : map taken_of (sent departing_log 1) ≡ taken.Start t ∷ taken.End ∷ []
taken-all = refl

tool-ran : LaneRan departing_log 1 idle (at_end put_by_tool (taken.Start t ∷ taken.End ∷ []) 0)
tool-ran = record {
  given = put_by_tool;
  over = true;
  gave = refl;
  lines = put-lines;
  end = inl refl;
  took = refl;
  cuts = inl (omega arith);
}

pub lanes-ran : EachLane (LaneRan departing_log) 1 (one_lane idle idle) (one_lane (at_end put_by_tool (taken.Start t ∷ taken.End ∷ []) 0) (at_end [] [] 0))
lanes-ran = (tool-ran, silent-lanes departing_log 2 15 refl)

pub clock-ran : ClockRan departing_log 36000 (clock_of false) (clock_of true) ⊥
clock-ran = record {
  ended = true;
  told = refl;
  within = omega arith;
  time = no-ticks departing_log (Dropped why.Down) refl;
  why = inr (inl refl);
  end = inl (inl refl);
  word = inl (Dropped why.Down, refl);
}

-- the lanes after the run, where the first has these ends
abbrev pub lanes_of : List Given → List Taken → List LaneView
lanes_of gives takes = one_lane (at_end gives takes 0) (at_end [] [] 0)

abbrev pub departed : OutsideView
departed = afterwards (lanes_of put_by_tool (taken.Start t ∷ taken.End ∷ [])) departing_text

abbrev pub back : CoreState
back = core_of departing departing_log

-- such a run went to its end
pub departing-run : Runs 36000 before departed departing back Ended
departing-run = record {
  origin_is = refl;
  history = record { trace = departing-leads.trace; sparse = departing-sparse };
  proper = departing-proper;
  within = omega arith;
  outcome = (ap (λ (text : List ℕ). Some text) (sym departing-text), lanes-ran, clock-ran, departing-done);
  first = (refl, refl, refl);
}

-- the outlet took one item less than the log sends
pub none-lacks : (text : List ℕ) → Runs 36000 before (afterwards (lanes_of put_by_tool (taken.Start t ∷ [])) text) departing back Ended → ⊥
none-lacks text runs = let e : ◌≡◌ {A = Option (List Taken)} (Some (taken.Start t ∷ [])) (Some (taken.Start t ∷ taken.End ∷ [])) = runs.outcome.1.0.took in cc

-- or another one
pub none-differs : (text : List ℕ) → Runs 36000 before (afterwards (lanes_of put_by_tool (taken.Start t ∷ taken.Line (codes "x") ∷ [])) text) departing back Ended → ⊥
none-differs text runs =
    let e : ◌≡◌ {A = Option (List Taken)} (Some (taken.Start t ∷ taken.Line (codes "x") ∷ [])) (Some (taken.Start t ∷ taken.End ∷ [])) = runs.outcome.1.0.took in
    let same : ◌≡◌ {A = Taken} (taken.Line (codes "x")) taken.End = cc in cc

-- the inlet gave a line that the log lacks
pub none-unheard : (text : List ℕ) (takes : List Taken) → Runs 36000 before (afterwards (lanes_of (given.Line (codes "x") ∷ put_by_tool) takes) text) departing back Ended → ⊥
none-unheard text takes runs = let lines = gave-all departing_log 1 (given.Line (codes "x") ∷ put_by_tool) takes 0 runs.outcome.1.0 in lines.1.1.1.1

-- the log has a line that the inlet didn't give
pub none-made_up : (text : List ℕ) (takes : List Taken) → Runs 36000 before (afterwards (lanes_of (given.Long ∷ given.End ∷ []) takes) text) departing back Ended → ⊥
none-made_up text takes runs = let lines = gave-all departing_log 1 (given.Long ∷ given.End ∷ []) takes 0 runs.outcome.1.0 in lines.1.0

-- other bytes were written
pub none-unwritten : (lanes : List LaneView) → Runs 36000 before (afterwards lanes []) departing back Ended → ⊥
none-unwritten lanes runs =
    let e : ◌≡◌ {A = Option (List ℕ)} (Some []) (Some (log_text departing_log)) = runs.outcome.0 in
    let same : ◌≡◌ {A = Option (List ℕ)} (Some []) (Some departing_text) = e ∙ ap (λ (text : List ℕ). Some text) departing-text in cc

-- the clock didn't fail, the crew didn't
pub none-clock : (lanes : List LaneView) (text : List ℕ) → Runs 36000 before (afterwards lanes text) departing back Clock → ⊥
none-clock lanes text runs = elim runs.outcome.4 [ inl less ↦ absurd (omega (arith, less)) | inr last ↦ absurd (omega (arith, last)) ]

pub none-crew : (new : OutsideView) → Runs 36000 before new departing back Crew → ⊥
none-crew new runs = let e : ◌≡◌ {A = List Entry} departing_log [] = runs.outcome.3 in cc

-- the sink failed though it took all, and this is reported before the failure of the clock, and before the log's limit
pub none-hidden : (lanes : List LaneView) (text : List ℕ) (clock_faults : ℕ) → Runs 36000 before (record (afterwards lanes text) { clock_faults = clock_faults; out_faults = 1 }) departing back Clock → ⊥
none-hidden lanes text clock_faults runs = absurd (omega (arith, runs.first.1))

pub none-hidden_full : (lanes : List LaneView) (text : List ℕ) → Runs 36000 before (record (afterwards lanes text) { out_faults = 1 }) departing back Events → ⊥
none-hidden_full lanes text runs = absurd (omega (arith, runs.first.1))

-- a run that was stopped lacks one item of an inlet at most
pub none-forgotten : (text : List ℕ) (takes : List Taken) → Runs 36000 before (afterwards (lanes_of (given.Long ∷ given.Long ∷ put_by_tool) takes) text) departing back NoMemory → ⊥
none-forgotten text takes runs =
    let most : 6 ≤ 5 = gave-most departing_log 1 (given.Long ∷ given.Long ∷ put_by_tool) takes 0 runs.outcome.1.0 in absurd (omega (arith, most))

-- a log that says quiet twice, however it goes on and whatever the environment shows
pub none-quiet_twice : (old new : OutsideView) (label : Label) (rest : List Entry) (it : RunWhy) → Runs 36000 old new departing (core_of departing (Did label ∷ Quiet ∷ Quiet ∷ rest)) it → ⊥
none-quiet_twice old new label rest it runs = let e : ◌≡◌ {A = Bool} true false = runs.history.sparse 1 refl in cc

-- or that says so where a step is possible
first-step : first (steps opened) ≡ Some (record { label = seen kind.Execute 1 1 (tool t 1 ∷ []); bus = waits (live (out.Start t ∷ [])) })
unfolding steps moves moves_of_all moves_of handshakes handshakes_with advance
first-step = simp (let-starts, is-tool, is-within)

pub none-quiet_early : (old new : OutsideView) (rest : List Entry) (it : RunWhy) → Runs 36000 old new departing (core_of departing (Quiet ∷ rest)) it → ⊥
none-quiet_early old new rest it runs =
    opens (λ bus. IsTrace bus (Quiet ∷ rest) → ⊥) (not-quiet opened (record { label = seen kind.Execute 1 1 (tool t 1 ∷ []); bus = waits (live (out.Start t ∷ [])) }) rest first-step) runs.history.trace

-- or where the tool leaves that is still there
abbrev early : List Entry
early = Did (seen kind.Execute 1 1 (tool t 1 ∷ [])) ∷ Gave 1 (out.Start t) ∷ []

starts : Leads opened early (waits (live []))
unfolding steps moves moves_of_all moves_of handshakes handshakes_with advance
starts =
    did opened (waits (live (out.Start t ∷ []))) (waits (live [])) _ _ (simp (let-starts, is-tool, is-within))
    (gave (waits (live (out.Start t ∷ []))) (waits (live [])) (waits (live [])) 1 (out.Start t) _ (omega arith, omega arith) refl refl (stays (waits (live []))))

none-left : steps (waits (live [])) ≡ []
unfolding steps moves moves_of_all moves_of handshakes handshakes_with advance
none-left = refl

pub none-left_early : (old new : OutsideView) (label : Label) (rest : List Entry) (it : RunWhy) → Runs 36000 old new departing (core_of departing (early ++ Did label ∷ rest)) it → ⊥
none-left_early old new label rest it runs =
    let leads : Leads (start departing) early (waits (live [])) = opens (λ bus. Leads bus early (waits (live []))) starts in
    let trace = trace-rest (start departing) early (Did label ∷ rest) runs.history.trace in
    not-made (waits (live [])) label rest none-left (subst (λ bus. IsTrace bus (Did label ∷ rest)) leads.is trace)

-- the clock gave a tick that the log lacks
abbrev ticks_of : Option ClockView → ℕ
ticks_of None = 0
ticks_of (Some view) = view.ticks

pub none-untold : ClockRan departing_log 36000 (clock_of false) (Some (record { ticks = 1; ended = true })) ⊥ → ⊥
none-untold ran =
    let same : ◌≡◌ {A = ℕ} 1 0 = ap ticks_of ran.told in
    absurd (omega (arith, same))

-- that no more ticks come is said twice, or a tick comes after it
pub none-twice : TimeIs (departing_log ++ Fed input.NoTicks (Dropped why.Down) ∷ []) → ⊥
none-twice = not-twice (departing_log ++ Fed input.NoTicks (Dropped why.Down) ∷ []) (Dropped why.Down) (Dropped why.Down) refl

pub none-behind : TimeIs (departing_log ++ Fed input.Tick (Dropped why.Down) ∷ []) → ⊥
none-behind = not-behind (departing_log ++ Fed input.Tick (Dropped why.Down) ∷ []) (Dropped why.Down) (Dropped why.Down) refl

-- the log isn't full
tool-size : term_size (tool t 1) ≡ 3
tool-size = search (rules, term_lemmas)

log-size : log_size departing_log ≡ 8
log-size = simp tool-size

pub none-full : (new : OutsideView) → Runs 36000 before new departing back Events → ⊥
none-full new runs = elim runs.outcome.3 [ inl count ↦ absurd (omega (arith, count)) | inr size ↦ absurd (omega (arith, size, log-size)) ]

-- a run of the same program whose log may have two entries, and is full: the inlet gave a line that it lacks
abbrev pub short : Origin
short = record departing { limit = 2 }

abbrev pub stopped : OutsideView
stopped = outside_of
    (one_lane (record { gave = Some (record { gave = given.Long ∷ []; over = false }); inlet_faults = 0; took = Some (taken.Start t ∷ []); outlet_faults = 0 }) idle)
    (clock_of false) 0 0 (Some (codes "1 execute 1.1 t(1)\n2 out 1 start \"t\"\n")) 0

early-text : log_text early ≡ codes "1 execute 1.1 t(1)\n2 out 1 start \"t\"\n"
unfolding digits
early-text = simp tool-text

tool-stopped : LaneStopped early 1 idle (record { gave = Some (record { gave = given.Long ∷ []; over = false }); inlet_faults = 0; took = Some (taken.Start t ∷ []); outlet_faults = 0 })
tool-stopped = record {
  fed = [];
  last = given.Long ∷ [];
  over = false;
  gave = refl;
  lines = tt;
  one = omega arith;
  whole = λ over. cc;
  put = out.Start t ∷ [];
  lost = [];
  handed = refl;
  took = refl;
  one_lost = omega arith;
  failed = inl refl;
  cuts = inl (omega arith);
}

clock-stopped : ClockStopped early 36000 (clock_of false) (clock_of false) (Rose 0 0)
clock-stopped = record {
  last = 0;
  ended = false;
  told = refl;
  one = omega arith;
  whole = λ e. refl;
  within = omega arith;
  time = record { first = []; tail = []; is = refl; ticks = tt; last = inl refl };
  why = inl refl;
}

early-proper : list_all is_proper_entry early ≡ true
early-proper = simp (tool-proper, name-string)

-- the call that delivers the line was refused
line-refused : LaneRefused short early 1 idle (record { gave = Some (record { gave = given.Long ∷ []; over = false }); inlet_faults = 0; took = Some (taken.Start t ∷ []); outlet_faults = 0 })
line-refused = inl (record {
  fed = [];
  last = given.Long;
  gave = refl;
  lines = tt;
  input = input.Line 1 line.Bad;
  stands = (refl, refl);
  no_room = record { core = core_of short early; may = ((omega arith, omega arith), tt); origin_is = refl; rest = []; is = refl; full = refl };
})

pub stopped-run : Runs 36000 before stopped short (core_of short early) Events
stopped-run = record {
  origin_is = refl;
  history = record { trace = (opens (λ bus. Leads bus early (waits (live []))) starts).trace; sparse = sparse early refl };
  proper = early-proper;
  within = omega arith;
  outcome = (ap (λ (text : List ℕ). Some text) (sym early-text), (tool-stopped, unmoved-lanes early 2 15 refl), clock-stopped, inl refl, inl (inl line-refused));
  first = (refl, refl);
}
