-- A computed run: the third call of an outlet fails, and its item is cut off.
use Rattle.std.proofs.Common.{length, length-append, ◌+◌, ◌≡◌, ℕ, ◌++◌, List, [], ◌∷◌, inl, inr, replicate, refl, ap, sym, ◌∙◌, subst, arith, codes, false, true, rules, Option, Some, None, Bool}
use Rattle.std.specs.Prelude.{map}
use Rattle.std.proofs.lemmas.List.{length-map}
use Rattle.std.specs.Fmt.{digits}
use Rattle.tb_terms.specs.declared.expr.Expr.{the_lemmas as expr_lemmas}
use Rattle.tb_terms.specs.declared.expr.Expr.TheVariants as expr
use Rattle.tb_terms.specs.contracts.term.Term as term_row
use Rattle.tb_terms.specs.Same.{is_same_term}
use Rattle.tb_terms.proofs.SameLemmas.{is_same-refl}
use Rattle.tb_terms.specs.declared.term.Term.{Term, the_lemmas as term_lemmas}
use Rattle.tb_terms.specs.declared.term.Term.TheVariants as term
use Rattle.tb_terms.specs.declared.sort.Sort.{the_lemmas as sort_lemmas}
use Rattle.tb_terms.specs.declared.sort.Sort.TheVariants as sort
use Rattle.tb_terms.specs.Sizes.{is_within_limits}
use Rattle.tb_terms.specs.Sorts.{has_sort, initial_value}
use Rattle.tb_terms.specs.Texts.{term_text}
use Rattle.tb_tool_line.specs.Sending.{taken_of}
use Rattle.tb_body.specs.declared.tree.Tree.{Tree, the_lemmas as tree_lemmas}
use Rattle.tb_body.specs.declared.tree.Tree.TheVariants as tree
use Rattle.tb_body.specs.declared.act.Act.TheVariants as act
use Rattle.tb_body.specs.declared.atom.Atom.{Atom}
use Rattle.tb_body.specs.declared.body.Body.{Body}
use Rattle.tb_body.specs.declared.program.Tool.{Tool}
use Rattle.tb_body.specs.InRange.{is_body_in_range}
use Rattle.tb_body.specs.Programs.{is_program_in_range}
use Rattle.tb_process_steps.specs.Processes.{Process, At, Seq, Let, fresh}
use Rattle.tb_process_steps.specs.Atoms.{values_together}
use Rattle.tb_process_steps.specs.Settings.{with_settings}
use Rattle.tb_notes.specs.Inboxes.{nothing}
use Rattle.tb_tools.specs.Lanes.{Lane, unused, new_tool}
use Rattle.tb_tools.specs.declared.stage.Stage.TheVariants as stage
use Rattle.tb_bus.specs.declared.origin.Origin.{Origin}
use Rattle.tb_bus.specs.Buses.{Bus, Proc, start}
use Rattle.tb_bus.specs.Traces.{replay}
use Rattle.tb_bus.specs.Steps.{steps, moves, moves_of_all, moves_of, handshakes, handshakes_with, advance}
use Rattle.tb_edge.specs.declared.given.Given.{Given}
use Rattle.tb_edge.specs.declared.given.Given.TheVariants as given
use Rattle.tb_edge.specs.declared.given.Taken.{Taken}
use Rattle.tb_edge.specs.declared.given.Taken.TheVariants as taken
use Rattle.tb_log.specs.declared.entry.Input.TheVariants as input
use Rattle.tb_log.specs.declared.entry.Reply.TheVariants.{Took, Dropped}
use Rattle.tb_log.specs.declared.entry.Why.TheVariants as why
use Rattle.tb_log.specs.declared.entry.Out.{Out}
use Rattle.tb_log.specs.declared.entry.Out.TheVariants as out
use Rattle.tb_log.specs.declared.entry.Entry.{Entry}
use Rattle.tb_log.specs.declared.entry.Entry.TheVariants.{Did, Fed, Gave}
use Rattle.tb_log.specs.declared.entry.LabelKind.TheVariants as kind
use Rattle.tb_log.specs.Lanes.{handed, sent, is_cut_off}
use Rattle.tb_terms.specs.Names.{is_string}
use Rattle.tb_terms.specs.Proper.{is_proper}
use Rattle.tb_log.specs.Proper.{is_proper_entry}
use Rattle.std.specs.List.{list_all}
use Rattle.tb_log.specs.LogText.{log_text}
use Rattle.tb_lock.specs.Histories.{IsSparse}
use Rattle.tb_run.specs.Clocks.{ClockRan}
use Rattle.tb_run.specs.declared.ends.RunWhy.TheVariants.{Ended}
use Rattle.tb_core.specs.Cores.{CoreState}
use Rattle.tb_run.specs.Outcomes.{LaneRan, LaneStopped, IsDone, Runs}
use Rattle.tb_run.specs.Views.{LaneView, EachLane, OutsideView}
use Rattle.tb_run.proofs.Examples.{letter-string, plain, root, seen, finish, tool, holding, Leads, stays, did, came, gave, sparse, from_start, empty-lane, idle, at_end, silent-lanes, one_lane, clock_of, before, afterwards, core_of, no-ticks, not-over}

-- the name of the tool, and its command
abbrev pub t : List ℕ
t = codes "t"

-- a name without arguments
abbrev pub word : List ℕ → Term
word name = term.Appl name []

-- `execute(t, T?)`, `snd-do(T, a)`, `snd-do(T, b)` and `rec-disconnect(T?)`
abbrev pub cutting_atoms : List Atom
cutting_atoms =
    plain (act.Execute 0 0)
    ∷ plain (act.SndDo (expr.Var 0) (expr.Appl (codes "a") []))
    ∷ plain (act.SndDo (expr.Var 0) (expr.Appl (codes "b") []))
    ∷ plain (act.RecDisconnectAny 0 0)
    ∷ []

abbrev pub cutting_tree : Tree
cutting_tree = tree.Let from_start (tree.Seq (tree.At 1) (tree.Seq (tree.At 2) (tree.Seq (tree.At 3) (tree.At 4))))

pub body-in_range : is_body_in_range cutting_tree cutting_atoms (sort.Tool t ∷ []) 0 ≡ true
unfolding is_body_in_range
body-in_range = search (rules, tree_lemmas, expr_lemmas)

abbrev pub cutting_body : Body
cutting_body = record { tree = cutting_tree; atoms = cutting_atoms; sorts = sort.Tool t ∷ []; formals = 0; in_range = body-in_range }

abbrev pub kinds : List Tool
kinds = record { name = t; command = Some t } ∷ []

pub program-in_range : is_program_in_range (cutting_body ∷ []) (root 0 ∷ []) kinds ≡ true
unfolding is_program_in_range
program-in_range = refl

-- `tool t is { command = "t" } process P is let T : t in execute(t, T?) . snd-do(T, a) . snd-do(T, b) . rec-disconnect(T?) endlet toolbus(P)`
abbrev pub cutting : Origin
cutting = record { program = record { bodies = cutting_body ∷ []; roots = root 0 ∷ []; tools = kinds; in_range = program-in_range }; connects = []; limit = 1000000 }

fresh-body : fresh cutting_tree ≡ Let from_start (Seq (At 1 0) (Seq (At 2 0) (Seq (At 3 0) (At 4 0))))
fresh-body = search (rules, tree_lemmas)

begins-none : initial_value (sort.Tool t) ≡ tool t 0
begins-none = search (rules, sort_lemmas)

is-tool : (number : ℕ) → has_sort (tool t number) (sort.Tool t) ≡ true
is-tool number = search (rules, sort_lemmas, term_lemmas)

is-within : (number : ℕ) → is_within_limits (tool t number) ≡ true
unfolding is_within_limits
is-within number = search (rules, term_lemmas)

let-starts : with_settings (holding t 0 ∷ []) from_start ≡ Some (holding t 0 ∷ [])
let-starts = search (rules, begins-none, is-tool)

a-sent : values_together (holding t 1 ∷ []) (expr.Var 0 ∷ expr.Appl (codes "a") [] ∷ []) ≡ Some (tool t 1 ∷ word (codes "a") ∷ [])
unfolding is_within_limits
a-sent = search (rules, expr_lemmas, term_lemmas)

b-sent : values_together (holding t 1 ∷ []) (expr.Var 0 ∷ expr.Appl (codes "b") [] ∷ []) ≡ Some (tool t 1 ∷ word (codes "b") ∷ [])
unfolding is_within_limits
b-sent = search (rules, expr_lemmas, term_lemmas)

same-tool : is_same_term (tool t 1) (tool t 1) ≡ true
same-tool = is_same-refl term_row.the_row.coded (tool t 1)

abbrev proc : Process → ℕ → Proc
proc term number = record { number = 1; body = 0; term = term; store = holding t number ∷ []; inbox = nothing }

-- the bus with these processes and this first lane
abbrev bus_of : List Proc → ℕ → Bool → ℕ → Lane → Bus
bus_of procs last down next lane = record {
  program = cutting.program;
  procs = procs;
  now = 0;
  last_starter = last;
  next_number = 2;
  no_ticks = false;
  down = down;
  bench = record { lanes = lane ∷ replicate 15 unused; next_tool = next };
}

abbrev opened : Bus
opened = bus_of (proc (Let from_start (Seq (At 1 0) (Seq (At 2 0) (Seq (At 3 0) (At 4 0))))) 0 ∷ []) 0 false 1 unused

-- the line that the tool is sent
abbrev pub do_line : List ℕ → Out
do_line name = out.Line (term.Appl (codes "rec-do") (word name ∷ []))

-- the lane with its tool and these queued items
abbrev live : List Out → Lane
live outs = record { up = true; ended = false; tool = Some (new_tool t 1 stage.Live); outs = outs }

abbrev cut_off : List Out → Lane
cut_off outs = record { up = true; ended = true; tool = Some (new_tool t 1 stage.Leaving); outs = outs }

abbrev left : Lane
left = record { up = true; ended = true; tool = None; outs = [] }

abbrev going : Process → Lane → Bus
going term lane = bus_of (proc term 1 ∷ []) 1 false 2 lane

abbrev over : Bool → Bus
over down = bus_of [] 1 down 2 left

abbrev pub before_gone : List Entry
before_gone =
    Did (seen kind.Execute 1 1 (tool t 1 ∷ []))
    ∷ Gave 1 (out.Start t)
    ∷ Did (seen kind.SndDo 1 2 (tool t 1 ∷ word (codes "a") ∷ []))
    ∷ Gave 1 (do_line (codes "a"))
    ∷ Did (seen kind.SndDo 1 3 (tool t 1 ∷ word (codes "b") ∷ []))
    ∷ Gave 1 (do_line (codes "b"))
    ∷ Fed (input.Cut 1) Took
    ∷ Gave 1 out.End
    ∷ Did (seen kind.RecDisconnect 1 4 (tool t 1 ∷ []))
    ∷ Did finish
    ∷ []

abbrev pub cutting_log : List Entry
cutting_log = before_gone ++ Fed (input.Gone 1) (Dropped why.Down) ∷ Fed input.NoTicks (Dropped why.Down) ∷ []

leads : Leads opened cutting_log (over true)
unfolding steps moves moves_of_all moves_of handshakes handshakes_with advance
leads =
    did opened (going (Seq (At 2 0) (Seq (At 3 0) (At 4 0))) (live (out.Start t ∷ []))) (over true) _ _ (simp (let-starts, is-tool, is-within))
    (gave (going (Seq (At 2 0) (Seq (At 3 0) (At 4 0))) (live (out.Start t ∷ []))) (going (Seq (At 2 0) (Seq (At 3 0) (At 4 0))) (live [])) (over true) 1 (out.Start t) _ (omega arith, omega arith) refl refl
    (did (going (Seq (At 2 0) (Seq (At 3 0) (At 4 0))) (live [])) (going (Seq (At 3 0) (At 4 0)) (live (do_line (codes "a") ∷ []))) (over true) _ _ (simp (a-sent, same-tool))
    (gave (going (Seq (At 3 0) (At 4 0)) (live (do_line (codes "a") ∷ []))) (going (Seq (At 3 0) (At 4 0)) (live [])) (over true) 1 (do_line (codes "a")) _ (omega arith, omega arith) refl refl
    (did (going (Seq (At 3 0) (At 4 0)) (live [])) (going (At 4 0) (live (do_line (codes "b") ∷ []))) (over true) _ _ (simp (b-sent, same-tool))
    (gave (going (At 4 0) (live (do_line (codes "b") ∷ []))) (going (At 4 0) (live [])) (over true) 1 (do_line (codes "b")) _ (omega arith, omega arith) refl refl
    (came (going (At 4 0) (live [])) (going (At 4 0) (cut_off (out.End ∷ []))) (over true) (input.Cut 1) Took _ (omega arith, omega arith) refl refl
    (gave (going (At 4 0) (cut_off (out.End ∷ []))) (going (At 4 0) (cut_off [])) (over true) 1 out.End _ (omega arith, omega arith) refl refl
    (did (going (At 4 0) (cut_off [])) (over false) (over true) _ _ (simp (is-tool, is-within))
    (did (over false) (over true) (over true) finish _ refl
    (came (over true) (over true) (over true) (input.Gone 1) (Dropped why.Down) _ (omega arith, omega arith) refl refl
    (came (over true) (over true) (over true) input.NoTicks (Dropped why.Down) [] tt refl refl (stays (over true)))))))))))))

pub cutting-leads : Leads (start cutting) cutting_log (over true)
cutting-leads =
    subst (λ (term : Process). Leads (bus_of (record (proc term 0) { store = record { sort = sort.Tool t; value = initial_value (sort.Tool t) } ∷ [] } ∷ []) 0 false 1 unused) cutting_log (over true)) (sym fresh-body)
    (subst (λ (value : Term). Leads (bus_of (record (proc (Let from_start (Seq (At 1 0) (Seq (At 2 0) (Seq (At 3 0) (At 4 0))))) 0) { store = record { sort = sort.Tool t; value = value } ∷ [] } ∷ []) 0 false 1 unused) cutting_log (over true)) (sym begins-none) leads)

pub cutting-sparse : IsSparse cutting_log
cutting-sparse = sparse cutting_log refl

is-done : IsDone (over true)
is-done = record { down = refl; empty = λ lane l. empty-lane (over true).bench lane refl }

pub cutting-done : IsDone (replay (start cutting) cutting_log)
cutting-done = subst IsDone (sym cutting-leads.is) is-done

-- all items that were sent, and those that were written
handed-all : handed cutting_log 1 ≡ out.Start t ∷ do_line (codes "a") ∷ do_line (codes "b") ∷ out.End ∷ []
handed-all = refl

sent-all : sent cutting_log 1 ≡ out.Start t ∷ do_line (codes "a") ∷ out.End ∷ []
sent-all = refl

-- the last line was cut off
pub b-cut : is_cut_off (Fed (input.Cut 1) Took ∷ Gave 1 out.End ∷ []) 1 ≡ true
b-cut = refl

-- and the one before wasn't
pub a-put : is_cut_off (Gave 1 (do_line (codes "b")) ∷ Fed (input.Cut 1) Took ∷ Gave 1 out.End ∷ []) 1 ≡ false
a-put = refl

do-text : term_text (term.Appl (codes "rec-do") (word (codes "a") ∷ [])) ≡ codes "rec-do(a)"
do-text = search (rules, term_lemmas)

abbrev pub taken_by_tool : List Taken
taken_by_tool = taken.Start t ∷ taken.Line (codes "rec-do(a)") ∷ taken.End ∷ []

pub taken-all : map taken_of (sent cutting_log 1) ≡ taken_by_tool
taken-all = ap (λ (text : List ℕ). taken.Start t ∷ taken.Line text ∷ taken.End ∷ []) do-text

-- the inlet gave its end, and wasn't read to the end, because the bus had shut down; the outlet failed once
abbrev pub tool_end : LaneView
tool_end = record { gave = Some (record { gave = given.End ∷ []; over = false }); inlet_faults = 0; took = Some taken_by_tool; outlet_faults = 1 }

pub tool-ran : LaneRan cutting_log 1 idle tool_end
tool-ran = record {
  given = given.End ∷ [];
  over = false;
  gave = refl;
  lines = (refl, tt);
  end = inr (before_gone, input.Gone 1, Fed input.NoTicks (Dropped why.Down) ∷ [], refl, refl);
  took = ap (λ (takes : List Taken). Some takes) (sym taken-all);
  cuts = inl (omega arith);
}

pub lanes-ran : EachLane (LaneRan cutting_log) 1 (one_lane idle idle) (one_lane tool_end (at_end [] [] 0))
lanes-ran = (tool-ran, silent-lanes cutting_log 2 15 refl)

pub clock-ran : ClockRan cutting_log 36000 (clock_of false) (clock_of true) ⊥
clock-ran = record {
  ended = true;
  told = refl;
  within = omega arith;
  time = no-ticks cutting_log (Dropped why.Down) refl;
  why = inr (inl refl);
  end = inl (inl refl);
  word = inl (Dropped why.Down, refl);
}

abbrev pub cutting_text : List ℕ
cutting_text = codes "1 execute 1.1 t(1)\n2 out 1 start \"t\"\n3 snd-do 1.2 t(1),a\n4 out 1 rec-do(a)\n5 snd-do 1.3 t(1),b\n6 out 1 rec-do(b)\n7 cut 1\n8 out 1 end\n9 rec-disconnect 1.4 t(1)\n10 finish\n11 drop down gone 1\n12 drop down noticks\n"

tool-proper : is_proper (tool t 1) ≡ true
tool-proper = search (rules, term_lemmas)

a-proper : is_proper (word (codes "a")) ≡ true
a-proper = search (rules, term_lemmas)

b-proper : is_proper (word (codes "b")) ≡ true
b-proper = search (rules, term_lemmas)

do-proper : is_proper (term.Appl (codes "rec-do") (word (codes "a") ∷ [])) ≡ true
do-proper = search (rules, term_lemmas)

other-proper : is_proper (term.Appl (codes "rec-do") (word (codes "b") ∷ [])) ≡ true
other-proper = search (rules, term_lemmas)

name-string : is_string t ≡ true
name-string = letter-string 116 (omega arith) refl

cutting-proper : list_all is_proper_entry cutting_log ≡ true
cutting-proper = simp (tool-proper, a-proper, b-proper, do-proper, other-proper, name-string)

tool-text : term_text (tool t 1) ≡ codes "t(1)"
unfolding digits
tool-text = search (rules, term_lemmas)

a-text : term_text (word (codes "a")) ≡ codes "a"
a-text = search (rules, term_lemmas)

b-text : term_text (word (codes "b")) ≡ codes "b"
b-text = search (rules, term_lemmas)

other-text : term_text (term.Appl (codes "rec-do") (word (codes "b") ∷ [])) ≡ codes "rec-do(b)"
other-text = search (rules, term_lemmas)

put-text : log_text cutting_log ≡ cutting_text
unfolding digits
put-text = simp (tool-text, a-text, b-text, do-text, other-text)

-- the environment after the run, where the tool's lane shows this
abbrev pub after_cut : LaneView → OutsideView
after_cut lane = afterwards (one_lane lane (at_end [] [] 0)) cutting_text

abbrev pub back : CoreState
back = core_of cutting cutting_log

-- such a run went to its end
pub cutting-run : Runs 36000 before (after_cut tool_end) cutting back Ended
cutting-run = record {
  origin_is = refl;
  history = record { trace = cutting-leads.trace; sparse = cutting-sparse };
  proper = cutting-proper;
  within = omega arith;
  outcome = (ap (λ (text : List ℕ). Some text) (sym put-text), lanes-ran, clock-ran, cutting-done);
  first = (refl, refl, refl);
}

abbrev uncut : List Taken
uncut = taken.Start t ∷ taken.Line (codes "rec-do(a)") ∷ taken.Line (codes "rec-do(b)") ∷ taken.End ∷ []

-- the outlet took what was cut off
pub none-uncut : Runs 36000 before (after_cut (record tool_end { took = Some uncut })) cutting back Ended → ⊥
none-uncut runs =
    let e : ◌≡◌ {A = Option (List Taken)} (Some uncut) (Some taken_by_tool) = runs.outcome.1.0.took ∙ ap (λ (takes : List Taken). Some takes) taken-all in
    let same : ◌≡◌ {A = Taken} (taken.Line (codes "rec-do(b)")) taken.End = cc in cc

-- its count of faults didn't rise
pub none-unfailed : Runs 36000 before (after_cut (record tool_end { outlet_faults = 0 })) cutting back Ended → ⊥
none-unfailed runs = elim runs.outcome.1.0.cuts [ inl rose ↦ absurd (omega (arith, rose)) | inr last ↦ absurd (omega (arith, last)) ]

-- the log doesn't say that the line was cut off
abbrev unsaid : List Entry
unsaid =
    Gave 1 (out.Start t)
    ∷ Gave 1 (do_line (codes "a"))
    ∷ Gave 1 (do_line (codes "b"))
    ∷ Gave 1 out.End
    ∷ Fed (input.Gone 1) (Dropped why.Down)
    ∷ []

unsaid-taken : map taken_of (sent unsaid 1) ≡ uncut
unsaid-taken =
    ap (λ (text : List ℕ). taken.Start t ∷ taken.Line text ∷ taken.Line (term_text (term.Appl (codes "rec-do") (word (codes "b") ∷ []))) ∷ taken.End ∷ []) do-text
    ∙ ap (λ (text : List ℕ). taken.Start t ∷ taken.Line (codes "rec-do(a)") ∷ taken.Line text ∷ taken.End ∷ []) other-text

pub none-unsaid : LaneRan unsaid 1 idle tool_end → ⊥
none-unsaid ran =
    let e : ◌≡◌ {A = Option (List Taken)} (Some taken_by_tool) (Some uncut) = ran.took ∙ ap (λ (takes : List Taken). Some takes) unsaid-taken in
    let same : ◌≡◌ {A = Taken} taken.End (taken.Line (codes "rec-do(b)")) = cc in cc

-- the inlet isn't over, and the log has nothing of it that was dropped because the bus had shut down
pub none-unread : (gives : List Given) (takes : List Taken) (faults : ℕ) → LaneRan before_gone 1 idle (record { gave = Some (record { gave = gives; over = false }); inlet_faults = 0; took = Some takes; outlet_faults = faults }) → ⊥
none-unread gives takes faults = not-over before_gone 1 gives takes faults refl

-- a run that was stopped before it was said that the line was cut off: the outlet lacks the line
abbrev cut_short : List Entry
cut_short = Gave 1 (out.Start t) ∷ Gave 1 (do_line (codes "a")) ∷ Gave 1 (do_line (codes "b")) ∷ []

abbrev short_end : List Taken → ℕ → LaneView
short_end takes faults = record { gave = Some (record { gave = []; over = false }); inlet_faults = 0; took = Some takes; outlet_faults = faults }

tool-stopped : LaneStopped cut_short 1 idle (short_end (taken.Start t ∷ taken.Line (codes "rec-do(a)") ∷ []) 1)
tool-stopped = record {
  fed = [];
  last = [];
  over = false;
  gave = refl;
  lines = tt;
  one = omega arith;
  whole = λ over. refl;
  put = out.Start t ∷ do_line (codes "a") ∷ [];
  lost = do_line (codes "b") ∷ [];
  handed = refl;
  took = ap (λ (text : List ℕ). Some (taken.Start t ∷ taken.Line text ∷ [])) (sym do-text);
  one_lost = omega arith;
  failed = inr (inl (omega arith));
  cuts = inl (omega arith);
}

abbrev took_of : Option (List Taken) → List Taken
took_of None = []
took_of (Some takes) = takes

-- how many items an outlet lacks
lacked : (log : List Entry) (takes : List Taken) (faults : ℕ) (ran : LaneStopped log 1 idle (short_end takes faults)) → length (sent log 1) ≡ length takes + length ran.lost
lacked log takes faults ran =
    let put : length takes ≡ length (map taken_of ran.put) = ap (λ (o : Option (List Taken)). length (took_of o)) ran.took in
    let as_many : length (map taken_of ran.put) ≡ length ran.put = length-map ran.put taken_of in
    let all : length (sent log 1) ≡ length ran.put + length ran.lost = ap length ran.handed ∙ length-append ran.put ran.lost in
    omega (arith, put, as_many, all)

-- two items are lacking
none-two : (faults : ℕ) → LaneStopped cut_short 1 idle (short_end (taken.Start t ∷ []) faults) → ⊥
none-two faults ran =
    let all : 3 ≡ 1 + length ran.lost = lacked cut_short (taken.Start t ∷ []) faults ran in
    absurd (omega (arith, all, ran.one_lost))

-- one is, though the outlet didn't fail
none-unfailing : (takes : List Taken) → length takes ≡ 2 → LaneStopped cut_short 1 idle (short_end takes 0) → ⊥
none-unfailing takes two ran = elim ran.failed [
  | inl none ↦
      let all : 3 ≡ length takes + length ran.lost = lacked cut_short takes 0 ran in
      let nothing : length ran.lost ≡ 0 = ap length none in
      absurd (omega (arith, all, two, nothing))
  | inr (inl less) ↦ absurd (omega (arith, less))
  | inr (inr last) ↦ absurd (omega (arith, last))
]
