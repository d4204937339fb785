-- A computed run: two tools get requests concurrently, and answer.
use Rattle.std.proofs.Common.{◌≡◌, ℕ, ℤ, pos, List, [], ◌∷◌, inl, inr, replicate, refl, ap, sym, ◌∙◌, subst, arith, codes, false, true, rules, Option, Some, None, Bool}
use Rattle.std.specs.Prelude.{map}
use Rattle.std.specs.Fmt.{digits}
use Rattle.tb_terms.specs.declared.expr.Expr.{the_lemmas as expr_lemmas}
use Rattle.tb_terms.specs.declared.expr.Expr.TheVariants as expr
use Rattle.tb_terms.specs.contracts.term.Term as term_row
use Rattle.tb_terms.specs.Same.{is_same_term}
use Rattle.tb_terms.proofs.SameLemmas.{is_same-refl, is_same-sound}
use Rattle.tb_terms.specs.declared.term.Term.{Term, the_lemmas as term_lemmas}
use Rattle.tb_terms.specs.declared.term.Term.TheVariants as term
use Rattle.tb_terms.specs.declared.sort.Sort.{the_lemmas as sort_lemmas}
use Rattle.tb_terms.specs.declared.sort.Sort.TheVariants as sort
use Rattle.tb_terms.specs.Sizes.{IsWithinLimits, is_within_limits, term_size, term_levels}
use Rattle.tb_terms.specs.Sorts.{has_sort, initial_value}
use Rattle.tb_terms.specs.Texts.{term_text}
use Rattle.tb_read.specs.Spelling.{Reads}
use Rattle.tb_read.proofs.Written.{written_reads}
use Rattle.tb_tool_line.specs.ToolLines.{line_of, IsToolLine}
use Rattle.tb_tool_line.specs.Sending.{taken_of}
use Rattle.tb_tool_line.proofs.Lines.{read-line, lines-same}
use Rattle.tb_func.specs.declared.slot.Slot.{Slot}
use Rattle.tb_body.specs.declared.tree.Tree.{Tree, the_lemmas as tree_lemmas}
use Rattle.tb_body.specs.declared.tree.Tree.TheVariants as tree
use Rattle.tb_body.specs.declared.tree.Setting.{Setting}
use Rattle.tb_body.specs.declared.act.Act.TheVariants as act
use Rattle.tb_body.specs.declared.atom.Atom.{Atom}
use Rattle.tb_body.specs.declared.body.Body.{Body}
use Rattle.tb_body.specs.declared.program.Tool.{Tool}
use Rattle.tb_body.specs.InRange.{is_body_in_range}
use Rattle.tb_body.specs.Programs.{is_program_in_range}
use Rattle.tb_process_steps.specs.Processes.{Process, At, Seq, Let, fresh}
use Rattle.tb_process_steps.specs.Atoms.{values_together, patterns_of}
use Rattle.tb_match.specs.Matches.{match_list, match_term}
use Rattle.tb_terms.specs.declared.pattern.Pattern.{the_lemmas as pattern_lemmas}
use Rattle.tb_terms.specs.declared.pattern.Pattern.TheVariants as pattern
use Rattle.std.proofs.lemmas.Bool.{false_from_ne_true}
use Rattle.tb_process_steps.specs.Settings.{with_settings}
use Rattle.tb_notes.specs.Inboxes.{nothing}
use Rattle.tb_tools.specs.Lanes.{Lane, unused, new_tool}
use Rattle.tb_tools.specs.declared.stage.Stage.TheVariants as stage
use Rattle.tb_tools.specs.declared.stage.Eval.{Eval}
use Rattle.tb_tools.specs.declared.stage.Eval.TheVariants as eval
use Rattle.tb_bus.specs.declared.origin.Origin.{Origin}
use Rattle.tb_bus.specs.Buses.{Bus, Proc, start}
use Rattle.tb_bus.specs.Traces.{replay}
use Rattle.tb_bus.specs.Steps.{steps, moves, moves_of_all, moves_of, handshakes, handshakes_with, advance}
use Rattle.tb_edge.specs.declared.given.Given.{Given}
use Rattle.tb_edge.specs.declared.given.Given.TheVariants as given
use Rattle.tb_edge.specs.declared.given.Taken.{Taken}
use Rattle.tb_edge.specs.declared.given.Taken.TheVariants as taken
use Rattle.tb_log.specs.declared.entry.Input.TheVariants as input
use Rattle.tb_log.specs.declared.entry.ToolLine.TheVariants as line
use Rattle.tb_log.specs.declared.entry.Reply.TheVariants.{Took, Dropped}
use Rattle.tb_log.specs.declared.entry.Why.TheVariants as why
use Rattle.tb_log.specs.declared.entry.Out.{Out}
use Rattle.tb_log.specs.declared.entry.Out.TheVariants as out
use Rattle.tb_log.specs.declared.entry.Entry.{Entry}
use Rattle.tb_log.specs.declared.entry.Entry.TheVariants.{Did, Quiet, Fed, Gave}
use Rattle.tb_log.specs.declared.entry.LabelKind.TheVariants as kind
use Rattle.tb_log.specs.Lanes.{sent}
use Rattle.tb_terms.specs.Names.{is_string}
use Rattle.tb_terms.specs.Proper.{is_proper}
use Rattle.tb_log.specs.Proper.{is_proper_entry}
use Rattle.std.specs.List.{list_all}
use Rattle.tb_log.specs.LogText.{log_text}
use Rattle.tb_lock.specs.Histories.{IsSparse}
use Rattle.tb_run.specs.Clocks.{ClockRan}
use Rattle.tb_run.specs.declared.ends.RunWhy.TheVariants.{Ended}
use Rattle.tb_core.specs.Cores.{CoreState}
use Rattle.tb_run.specs.Outcomes.{LaneRan, IsDone, Runs}
use Rattle.tb_run.specs.Views.{LaneView, EachLane}
use Rattle.tb_run.proofs.Examples.{letter-string, plain, root, seen, finish, tool, holding, Leads, stays, did, quiet, came, gave, sparse, empty-lane, idle, at_end, silent-lanes, clock_of, before, afterwards, core_of, no-ticks, gave-all}

-- the names of the tools, which are their commands
abbrev pub a : List ℕ
a = codes "a"

abbrev pub b : List ℕ
b = codes "b"

-- a name without arguments
abbrev pub word : List ℕ → Term
word name = term.Appl name []

-- both variables begin as their sorts do
abbrev pub both_start : List Setting
both_start = record { slot = 0; start = None } ∷ record { slot = 1; start = None } ∷ []

-- `execute(a, T?)`, `snd-eval(T, one)` and `rec-value(T, V?)`, of this tool and question
abbrev pub asking_atoms : ℕ → List ℕ → List Atom
asking_atoms kind question =
    plain (act.Execute kind 0)
    ∷ plain (act.SndEval (expr.Var 0) (expr.Appl question []))
    ∷ plain (act.RecValue (expr.Var 0) (expr.Result 1))
    ∷ []

abbrev pub asking_tree : Tree
asking_tree = tree.Let both_start (tree.Seq (tree.At 1) (tree.Seq (tree.At 2) (tree.At 3)))

pub one-in_range : is_body_in_range asking_tree (asking_atoms 0 (codes "one")) (sort.Tool a ∷ sort.Any ∷ []) 0 ≡ true
unfolding is_body_in_range
one-in_range = search (rules, tree_lemmas, expr_lemmas)

pub two-in_range : is_body_in_range asking_tree (asking_atoms 1 (codes "two")) (sort.Tool b ∷ sort.Any ∷ []) 0 ≡ true
unfolding is_body_in_range
two-in_range = search (rules, tree_lemmas, expr_lemmas)

abbrev pub one_body : Body
one_body = record { tree = asking_tree; atoms = asking_atoms 0 (codes "one"); sorts = sort.Tool a ∷ sort.Any ∷ []; formals = 0; in_range = one-in_range }

abbrev pub two_body : Body
two_body = record { tree = asking_tree; atoms = asking_atoms 1 (codes "two"); sorts = sort.Tool b ∷ sort.Any ∷ []; formals = 0; in_range = two-in_range }

abbrev pub kinds : List Tool
kinds = record { name = a; command = Some a } ∷ record { name = b; command = Some b } ∷ []

pub program-in_range : is_program_in_range (one_body ∷ two_body ∷ []) (root 0 ∷ root 1 ∷ []) kinds ≡ true
unfolding is_program_in_range
program-in_range = refl

-- `tool a is { command = "a" } tool b is { command = "b" }`
-- `process P is let T : a, V : term in execute(a, T?) . snd-eval(T, one) . rec-value(T, V?) endlet`
-- `process Q is let T : b, V : term in execute(b, T?) . snd-eval(T, two) . rec-value(T, V?) endlet toolbus(P, Q)`
abbrev pub asking : Origin
asking = record { program = record { bodies = one_body ∷ two_body ∷ []; roots = root 0 ∷ root 1 ∷ []; tools = kinds; in_range = program-in_range }; connects = []; limit = 1000000 }

fresh-body : fresh asking_tree ≡ Let both_start (Seq (At 1 0) (Seq (At 2 0) (At 3 0)))
fresh-body = search (rules, tree_lemmas)

a-begins : initial_value (sort.Tool a) ≡ tool a 0
a-begins = search (rules, sort_lemmas)

b-begins : initial_value (sort.Tool b) ≡ tool b 0
b-begins = search (rules, sort_lemmas)

any-begins : initial_value sort.Any ≡ word (codes "none")
any-begins = search (rules, sort_lemmas)

is-any : (value : Term) → has_sort value sort.Any ≡ true
is-any value = search (rules, sort_lemmas)

is-a : (number : ℕ) → has_sort (tool a number) (sort.Tool a) ≡ true
is-a number = search (rules, sort_lemmas, term_lemmas)

is-b : (number : ℕ) → has_sort (tool b number) (sort.Tool b) ≡ true
is-b number = search (rules, sort_lemmas, term_lemmas)

a-within : (number : ℕ) → is_within_limits (tool a number) ≡ true
unfolding is_within_limits
a-within number = search (rules, term_lemmas)

b-within : (number : ℕ) → is_within_limits (tool b number) ≡ true
unfolding is_within_limits
b-within number = search (rules, term_lemmas)

-- the variables of a process: its tool, and any term
abbrev pub store_of : List ℕ → ℕ → List Slot
store_of name number = holding name number ∷ record { sort = sort.Any; value = word (codes "none") } ∷ []

a-starts : with_settings (store_of a 0) both_start ≡ Some (store_of a 0)
a-starts = search (rules, a-begins, any-begins, is-a, is-any)

b-starts : with_settings (store_of b 0) both_start ≡ Some (store_of b 0)
b-starts = search (rules, b-begins, any-begins, is-b, is-any)

one-sent : values_together (store_of a 1) (expr.Var 0 ∷ expr.Appl (codes "one") [] ∷ []) ≡ Some (tool a 1 ∷ word (codes "one") ∷ [])
unfolding is_within_limits
one-sent = search (rules, expr_lemmas, term_lemmas)

two-sent : values_together (store_of b 2) (expr.Var 0 ∷ expr.Appl (codes "two") [] ∷ []) ≡ Some (tool b 2 ∷ word (codes "two") ∷ [])
unfolding is_within_limits
two-sent = search (rules, expr_lemmas, term_lemmas)

a-named : values_together (store_of a 1) (expr.Var 0 ∷ []) ≡ Some (tool a 1 ∷ [])
unfolding is_within_limits
a-named = search (rules, expr_lemmas, term_lemmas)

b-named : values_together (store_of b 2) (expr.Var 0 ∷ []) ≡ Some (tool b 2 ∷ [])
unfolding is_within_limits
b-named = search (rules, expr_lemmas, term_lemmas)

a-wanted : patterns_of (store_of a 1) (expr.Result 1 ∷ []) ≡ Some (pattern.Result 1 sort.Any ∷ [])
a-wanted = search (rules, expr_lemmas)

b-wanted : patterns_of (store_of b 2) (expr.Result 1 ∷ []) ≡ Some (pattern.Result 1 sort.Any ∷ [])
b-wanted = search (rules, expr_lemmas)

any-bound : (value : Term) → match_list (pattern.Result 1 sort.Any ∷ []) (value ∷ []) ≡ Some (record { slot = 1; value = value } ∷ [])
any-bound value =
    let one : match_term (pattern.Result 1 sort.Any) value ≡ Some (record { slot = 1; value = value } ∷ []) = search (rules, pattern_lemmas, sort_lemmas) in
    rw one refl

same-a : is_same_term (tool a 1) (tool a 1) ≡ true
same-a = is_same-refl term_row.the_row.coded (tool a 1)

same-b : is_same_term (tool b 2) (tool b 2) ≡ true
same-b = is_same-refl term_row.the_row.coded (tool b 2)

one-name : (n m : ℕ) (ns ms : List Term) → term.Appl (n ∷ []) ns ≡ term.Appl (m ∷ []) ms → n ≡ m
one-name n m ns ms e = search (rules, term_lemmas)

b-no_a : is_same_term (tool b 2) (tool a 1) ≡ false
b-no_a = false_from_ne_true (is_same_term (tool b 2) (tool a 1))
    (λ e. let same = is_same-sound term_row.the_row.coded (tool b 2) (tool a 1) e in
    let code : ◌≡◌ {A = ℕ} 98 97 = one-name 98 97 (term.Int (pos 2) ∷ []) (term.Int (pos 1) ∷ []) same in absurd (omega arith))

abbrev proc_a : Process → ℕ → Proc
proc_a term number = record { number = 1; body = 0; term = term; store = store_of a number; inbox = nothing }

abbrev proc_b : Process → ℕ → Proc
proc_b term number = record { number = 2; body = 1; term = term; store = store_of b number; inbox = nothing }

abbrev begins : Process
begins = Let both_start (Seq (At 1 0) (Seq (At 2 0) (At 3 0)))

abbrev asks : Process
asks = Seq (At 2 0) (At 3 0)

abbrev waits : Process
waits = At 3 0

-- the bus with these processes and these first two lanes
abbrev bus_of : List Proc → ℕ → Bool → ℕ → Lane → Lane → Bus
bus_of procs last down next one two = record {
  program = asking.program;
  procs = procs;
  now = 0;
  last_starter = last;
  next_number = 3;
  no_ticks = false;
  down = down;
  bench = record { lanes = one ∷ two ∷ replicate 14 unused; next_tool = next };
}

abbrev opened : Bus
opened = bus_of (proc_a begins 0 ∷ proc_b begins 0 ∷ []) 0 false 1 unused unused

-- the lane of a tool with this number, asked so, where this is queued for sending
abbrev lane_of : List ℕ → ℕ → Eval → List Out → Lane
lane_of name number asked outs = record { up = true; ended = false; tool = Some (record (new_tool name number stage.Live) { eval = asked }); outs = outs }

abbrev lane_at_end : List ℕ → ℕ → List Out → Lane
lane_at_end name number outs = record { up = true; ended = true; tool = Some (new_tool name number stage.Live); outs = outs }

abbrev pub eval_line : List ℕ → Out
eval_line name = out.Line (term.Appl (codes "rec-eval") (word name ∷ []))

abbrev pub last_line : Out
last_line = out.Line (term.Appl (codes "rec-terminate") (word (codes "finish") ∷ []))

abbrev value : ℕ → Term
value number = term.Int (pos number)

-- the lanes as the tools are started, asked, and have answered
abbrev outs_a : List Out
outs_a = out.Start a ∷ eval_line (codes "one") ∷ []

abbrev outs_b : List Out
outs_b = out.Start b ∷ eval_line (codes "two") ∷ []

abbrev one_up : Bus
one_up = bus_of (proc_a asks 1 ∷ proc_b begins 0 ∷ []) 1 false 2 (lane_of a 1 eval.Closed (out.Start a ∷ [])) unused

abbrev two_up : Bus
two_up = bus_of (proc_a asks 1 ∷ proc_b asks 2 ∷ []) 2 false 3 (lane_of a 1 eval.Closed (out.Start a ∷ [])) (lane_of b 2 eval.Closed (out.Start b ∷ []))

abbrev one_asked : Bus
one_asked = bus_of (proc_a waits 1 ∷ proc_b asks 2 ∷ []) 1 false 3 (lane_of a 1 eval.Asked outs_a) (lane_of b 2 eval.Closed (out.Start b ∷ []))

abbrev two_asked : List Out → List Out → Bus
two_asked one two = bus_of (proc_a waits 1 ∷ proc_b waits 2 ∷ []) 2 false 3 (lane_of a 1 eval.Asked one) (lane_of b 2 eval.Asked two)

abbrev one_answered : Bus
one_answered = bus_of (proc_a waits 1 ∷ proc_b waits 2 ∷ []) 2 false 3 (lane_of a 1 (eval.Answered (value 1)) []) (lane_of b 2 eval.Asked [])

abbrev one_gone : Eval → Bus
one_gone asked = bus_of (proc_b waits 2 ∷ []) 1 false 3 (lane_of a 1 eval.Closed []) (lane_of b 2 asked [])

abbrev both_gone : Bus
both_gone = bus_of [] 2 false 3 (lane_of a 1 eval.Closed []) (lane_of b 2 eval.Closed [])

abbrev over : List Out → List Out → Bus
over one two = bus_of [] 2 true 3 (lane_at_end a 1 one) (lane_at_end b 2 two)

abbrev pub asking_log : List Entry
asking_log =
    Did (seen kind.Execute 1 1 (tool a 1 ∷ []))
    ∷ Did (seen kind.Execute 2 1 (tool b 2 ∷ []))
    ∷ Did (seen kind.SndEval 1 2 (tool a 1 ∷ word (codes "one") ∷ []))
    ∷ Did (seen kind.SndEval 2 2 (tool b 2 ∷ word (codes "two") ∷ []))
    ∷ Quiet
    ∷ Gave 1 (out.Start a)
    ∷ Gave 2 (out.Start b)
    ∷ Gave 1 (eval_line (codes "one"))
    ∷ Gave 2 (eval_line (codes "two"))
    ∷ Fed (input.Line 1 (line.Value (value 1))) Took
    ∷ Did (seen kind.RecValue 1 3 (tool a 1 ∷ value 1 ∷ []))
    ∷ Fed (input.Line 2 (line.Value (value 2))) Took
    ∷ Did (seen kind.RecValue 2 3 (tool b 2 ∷ value 2 ∷ []))
    ∷ Did finish
    ∷ Gave 1 last_line
    ∷ Gave 1 out.End
    ∷ Gave 2 last_line
    ∷ Gave 2 out.End
    ∷ Fed input.NoTicks (Dropped why.Down)
    ∷ []

value-within : (number : ℕ) → IsWithinLimits (value number)
value-within number =
    let size : term_size (value number) ≡ 1 = search (rules, term_lemmas) in
    let levels : term_levels (value number) ≡ 1 = search (rules, term_lemmas) in
    record { size = omega (arith, size); levels = omega (arith, levels) }

abbrev ends : List Out
ends = last_line ∷ out.End ∷ []

leads : Leads opened asking_log (over [] [])
unfolding steps moves moves_of_all moves_of handshakes handshakes_with advance
leads =
    did opened one_up (over [] []) _ _ (simp (a-starts, b-starts, is-a, is-b, a-within, b-within))
    (did one_up two_up (over [] []) _ _ (simp (one-sent, same-a, b-starts, is-b, b-within))
    (did two_up one_asked (over [] []) _ _ (simp (one-sent, two-sent, same-a, same-b, b-no_a))
    (did one_asked (two_asked outs_a outs_b) (over [] []) _ _ (simp (two-sent, a-named, a-wanted, same-a, same-b, b-no_a))
    (quiet (two_asked outs_a outs_b) (over [] []) _ (simp (a-named, b-named, a-wanted, b-wanted, same-a, same-b, b-no_a)) refl
    (gave (two_asked outs_a outs_b) (two_asked (eval_line (codes "one") ∷ []) outs_b) (over [] []) 1 (out.Start a) _ (omega arith, omega arith) refl refl
    (gave (two_asked (eval_line (codes "one") ∷ []) outs_b) (two_asked (eval_line (codes "one") ∷ []) (eval_line (codes "two") ∷ [])) (over [] []) 2 (out.Start b) _ (omega arith, omega arith) refl refl
    (gave (two_asked (eval_line (codes "one") ∷ []) (eval_line (codes "two") ∷ [])) (two_asked [] (eval_line (codes "two") ∷ [])) (over [] []) 1 (eval_line (codes "one")) _ (omega arith, omega arith) refl refl
    (gave (two_asked [] (eval_line (codes "two") ∷ [])) (two_asked [] []) (over [] []) 2 (eval_line (codes "two")) _ (omega arith, omega arith) refl refl
    (came (two_asked [] []) one_answered (over [] []) (input.Line 1 (line.Value (value 1))) Took _ ((omega arith, omega arith), value-within 1) refl refl
    (did one_answered (one_gone eval.Asked) (over [] []) _ _ (simp (a-named, b-named, a-wanted, b-wanted, any-bound, same-a, same-b, b-no_a))
    (came (one_gone eval.Asked) (one_gone (eval.Answered (value 2))) (over [] []) (input.Line 2 (line.Value (value 2))) Took _ ((omega arith, omega arith), value-within 2) refl refl
    (did (one_gone (eval.Answered (value 2))) both_gone (over [] []) _ _ (simp (b-named, b-wanted, any-bound, same-b, b-no_a))
    (did both_gone (over ends ends) (over [] []) finish _ refl
    (gave (over ends ends) (over (out.End ∷ []) ends) (over [] []) 1 last_line _ (omega arith, omega arith) refl refl
    (gave (over (out.End ∷ []) ends) (over [] ends) (over [] []) 1 out.End _ (omega arith, omega arith) refl refl
    (gave (over [] ends) (over [] (out.End ∷ [])) (over [] []) 2 last_line _ (omega arith, omega arith) refl refl
    (gave (over [] (out.End ∷ [])) (over [] []) (over [] []) 2 out.End _ (omega arith, omega arith) refl refl
    (came (over [] []) (over [] []) (over [] []) input.NoTicks (Dropped why.Down) [] tt refl refl (stays (over [] []))))))))))))))))))))

-- the bus that the program opens with, where both bodies are entered so and the variables begin with these
abbrev with_terms : Process → Term → Term → Term → Bus
with_terms term one two any = bus_of (
    record { number = 1; body = 0; term = term; store = record { sort = sort.Tool a; value = one } ∷ record { sort = sort.Any; value = any } ∷ []; inbox = nothing }
    ∷ record { number = 2; body = 1; term = term; store = record { sort = sort.Tool b; value = two } ∷ record { sort = sort.Any; value = any } ∷ []; inbox = nothing }
    ∷ []
    ) 0 false 1 unused unused

pub asking-leads : Leads (start asking) asking_log (over [] [])
asking-leads =
    subst (λ (term : Process). Leads (with_terms term (initial_value (sort.Tool a)) (initial_value (sort.Tool b)) (initial_value sort.Any)) asking_log (over [] [])) (sym fresh-body)
    (subst (λ (one : Term). Leads (with_terms begins one (initial_value (sort.Tool b)) (initial_value sort.Any)) asking_log (over [] [])) (sym a-begins)
    (subst (λ (two : Term). Leads (with_terms begins (tool a 0) two (initial_value sort.Any)) asking_log (over [] [])) (sym b-begins)
    (subst (λ (any : Term). Leads (with_terms begins (tool a 0) (tool b 0) any) asking_log (over [] [])) (sym any-begins) leads)))

pub asking-sparse : IsSparse asking_log
asking-sparse = sparse asking_log refl

is-done : IsDone (over [] [])
is-done = record { down = refl; empty = λ lane l. empty-lane (over [] []).bench lane refl }

pub asking-done : IsDone (replay (start asking) asking_log)
asking-done = subst IsDone (sym asking-leads.is) is-done

-- the lines of the tools
abbrev answer : ℕ → Term
answer number = term.Appl (codes "snd-value") (value number ∷ [])

one-read : Reads (codes "snd-value(1)") (answer 1)
unfolding digits
one-read =
    let text : term_text (answer 1) ≡ codes "snd-value(1)" = search (rules, term_lemmas) in
    subst (λ (bytes : List ℕ). Reads bytes (answer 1)) text (written_reads (answer 1) (search (rules, term_lemmas)))

two-read : Reads (codes "snd-value(2)") (answer 2)
unfolding digits
two-read =
    let text : term_text (answer 2) ≡ codes "snd-value(2)" = search (rules, term_lemmas) in
    subst (λ (bytes : List ℕ). Reads bytes (answer 2)) text (written_reads (answer 2) (search (rules, term_lemmas)))

answer-line : (number : ℕ) → line_of (answer number) ≡ line.Value (value number)
unfolding is_within_limits
answer-line number = search (rules, term_lemmas)

one-no_two : line.Value (value 1) ≡ line.Value (value 2) → ⊥
one-no_two e =
    let same : value 1 ≡ value 2 = cc in
    let numbers : ◌≡◌ {A = ℤ} (pos 1) (pos 2) = search (rules, term_lemmas) in cc

one-put : IsToolLine (codes "snd-value(1)") (line.Value (value 1))
one-put = subst (IsToolLine (codes "snd-value(1)")) (answer-line 1) (read-line (codes "snd-value(1)") (answer 1) (omega arith) one-read)

two-put : IsToolLine (codes "snd-value(2)") (line.Value (value 2))
two-put = subst (IsToolLine (codes "snd-value(2)")) (answer-line 2) (read-line (codes "snd-value(2)") (answer 2) (omega arith) two-read)

one-text : term_text (term.Appl (codes "rec-eval") (word (codes "one") ∷ [])) ≡ codes "rec-eval(one)"
one-text = search (rules, term_lemmas)

two-text : term_text (term.Appl (codes "rec-eval") (word (codes "two") ∷ [])) ≡ codes "rec-eval(two)"
two-text = search (rules, term_lemmas)

last-text : term_text (term.Appl (codes "rec-terminate") (word (codes "finish") ∷ [])) ≡ codes "rec-terminate(finish)"
last-text = search (rules, term_lemmas)

-- what the outlet of a tool took
abbrev pub taken_by : List ℕ → List ℕ → List Taken
taken_by name question = taken.Start name ∷ taken.Line question ∷ taken.Line (codes "rec-terminate(finish)") ∷ taken.End ∷ []

one-taken : map taken_of (sent asking_log 1) ≡ taken_by a (codes "rec-eval(one)")
one-taken =
    ap (λ (text : List ℕ). taken.Start a ∷ taken.Line text ∷ taken.Line (term_text (term.Appl (codes "rec-terminate") (word (codes "finish") ∷ []))) ∷ taken.End ∷ []) one-text
    ∙ ap (λ (text : List ℕ). taken.Start a ∷ taken.Line (codes "rec-eval(one)") ∷ taken.Line text ∷ taken.End ∷ []) last-text

two-taken : map taken_of (sent asking_log 2) ≡ taken_by b (codes "rec-eval(two)")
two-taken =
    ap (λ (text : List ℕ). taken.Start b ∷ taken.Line text ∷ taken.Line (term_text (term.Appl (codes "rec-terminate") (word (codes "finish") ∷ []))) ∷ taken.End ∷ []) two-text
    ∙ ap (λ (text : List ℕ). taken.Start b ∷ taken.Line (codes "rec-eval(two)") ∷ taken.Line text ∷ taken.End ∷ []) last-text

one-ran : LaneRan asking_log 1 idle (at_end (given.Line (codes "snd-value(1)") ∷ []) (taken_by a (codes "rec-eval(one)")) 0)
one-ran = record {
  given = given.Line (codes "snd-value(1)") ∷ [];
  over = true;
  gave = refl;
  lines = ((refl, one-put), tt);
  end = inl refl;
  took = ap (λ (takes : List Taken). Some takes) (sym one-taken);
  cuts = inl (omega arith);
}

two-ran : LaneRan asking_log 2 idle (at_end (given.Line (codes "snd-value(2)") ∷ []) (taken_by b (codes "rec-eval(two)")) 0)
two-ran = record {
  given = given.Line (codes "snd-value(2)") ∷ [];
  over = true;
  gave = refl;
  lines = ((refl, two-put), tt);
  end = inl refl;
  took = ap (λ (takes : List Taken). Some takes) (sym two-taken);
  cuts = inl (omega arith);
}

abbrev pub lanes_after : List LaneView
lanes_after =
    at_end (given.Line (codes "snd-value(1)") ∷ []) (taken_by a (codes "rec-eval(one)")) 0
    ∷ at_end (given.Line (codes "snd-value(2)") ∷ []) (taken_by b (codes "rec-eval(two)")) 0
    ∷ replicate 14 (at_end [] [] 0)

pub lanes-ran : EachLane (LaneRan asking_log) 1 (replicate 16 idle) lanes_after
lanes-ran = (one-ran, (two-ran, silent-lanes asking_log 3 14 refl))

pub clock-ran : ClockRan asking_log 36000 (clock_of false) (clock_of true) ⊥
clock-ran = record {
  ended = true;
  told = refl;
  within = omega arith;
  time = no-ticks asking_log (Dropped why.Down) refl;
  why = inr (inl refl);
  end = inl (inl refl);
  word = inl (Dropped why.Down, refl);
}

abbrev pub asking_text : List ℕ
asking_text = codes "1 execute 1.1 a(1)\n2 execute 2.1 b(2)\n3 snd-eval 1.2 a(1),one\n4 snd-eval 2.2 b(2),two\n5 quiet\n6 out 1 start \"a\"\n7 out 2 start \"b\"\n8 out 1 rec-eval(one)\n9 out 2 rec-eval(two)\n10 line 1 snd-value(1)\n11 rec-value 1.3 a(1),1\n12 line 2 snd-value(2)\n13 rec-value 2.3 b(2),2\n14 finish\n15 out 1 rec-terminate(finish)\n16 out 1 end\n17 out 2 rec-terminate(finish)\n18 out 2 end\n19 drop down noticks\n"

a-proper : is_proper (tool a 1) ≡ true
a-proper = search (rules, term_lemmas)

b-proper : is_proper (tool b 2) ≡ true
b-proper = search (rules, term_lemmas)

one-proper : is_proper (word (codes "one")) ≡ true
one-proper = search (rules, term_lemmas)

two-proper : is_proper (word (codes "two")) ≡ true
two-proper = search (rules, term_lemmas)

first-proper : is_proper (value 1) ≡ true
first-proper = search (rules, term_lemmas)

second-proper : is_proper (value 2) ≡ true
second-proper = search (rules, term_lemmas)

one-line_proper : is_proper (term.Appl (codes "rec-eval") (word (codes "one") ∷ [])) ≡ true
one-line_proper = search (rules, term_lemmas)

two-line_proper : is_proper (term.Appl (codes "rec-eval") (word (codes "two") ∷ [])) ≡ true
two-line_proper = search (rules, term_lemmas)

last-line_proper : is_proper (term.Appl (codes "rec-terminate") (word (codes "finish") ∷ [])) ≡ true
last-line_proper = search (rules, term_lemmas)

first-string : is_string a ≡ true
first-string = letter-string 97 (omega arith) refl

second-string : is_string b ≡ true
second-string = letter-string 98 (omega arith) refl

asking-proper : list_all is_proper_entry asking_log ≡ true
asking-proper = simp (a-proper, b-proper, one-proper, two-proper, first-proper, second-proper, one-line_proper, two-line_proper, last-line_proper, first-string, second-string)

a-text : term_text (tool a 1) ≡ codes "a(1)"
unfolding digits
a-text = search (rules, term_lemmas)

b-text : term_text (tool b 2) ≡ codes "b(2)"
unfolding digits
b-text = search (rules, term_lemmas)

one-word : term_text (word (codes "one")) ≡ codes "one"
one-word = search (rules, term_lemmas)

two-word : term_text (word (codes "two")) ≡ codes "two"
two-word = search (rules, term_lemmas)

one-value : term_text (value 1) ≡ codes "1"
unfolding digits
one-value = search (rules, term_lemmas)

two-value : term_text (value 2) ≡ codes "2"
unfolding digits
two-value = search (rules, term_lemmas)

put-text : log_text asking_log ≡ asking_text
unfolding digits
put-text = simp (a-text, b-text, one-word, two-word, one-value, two-value, one-text, two-text, last-text)

abbrev pub asked_lanes : List Given → List Taken → List LaneView
asked_lanes gives takes = at_end gives takes 0 ∷ at_end (given.Line (codes "snd-value(2)") ∷ []) (taken_by b (codes "rec-eval(two)")) 0 ∷ replicate 14 (at_end [] [] 0)

abbrev pub back : CoreState
back = core_of asking asking_log

-- such a run went to its end
pub asking-run : Runs 36000 before (afterwards (asked_lanes (given.Line (codes "snd-value(1)") ∷ []) (taken_by a (codes "rec-eval(one)"))) asking_text) asking back Ended
asking-run = record {
  origin_is = refl;
  history = record { trace = asking-leads.trace; sparse = asking-sparse };
  proper = asking-proper;
  within = omega arith;
  outcome = (ap (λ (text : List ℕ). Some text) (sym put-text), lanes-ran, clock-ran, asking-done);
  first = (refl, refl, refl);
}

-- the log has an answer that the first tool's inlet didn't give
pub none-made_up : (takes : List Taken) (text : List ℕ) → Runs 36000 before (afterwards (asked_lanes [] takes) text) asking back Ended → ⊥
none-made_up takes text runs = gave-all asking_log 1 [] takes 0 runs.outcome.1.0

-- the inlet gave another one
pub none-other : (takes : List Taken) (text : List ℕ) → Runs 36000 before (afterwards (asked_lanes (given.Line (codes "snd-value(2)") ∷ []) takes) text) asking back Ended → ⊥
none-other takes text runs =
    let lines = gave-all asking_log 1 (given.Line (codes "snd-value(2)") ∷ []) takes 0 runs.outcome.1.0 in
    let same : line.Value (value 1) ≡ line.Value (value 2) = lines-same (codes "snd-value(2)") (line.Value (value 1)) (line.Value (value 2)) lines.0.1 two-put in
    one-no_two same

-- the first outlet didn't receive that the bus shut down
pub none-undismissed : (gives : List Given) (text : List ℕ) → Runs 36000 before (afterwards (asked_lanes gives (taken.Start a ∷ taken.Line (codes "rec-eval(one)") ∷ taken.End ∷ [])) text) asking back Ended → ⊥
none-undismissed gives text runs =
    let e : ◌≡◌ {A = Option (List Taken)} (Some (taken.Start a ∷ taken.Line (codes "rec-eval(one)") ∷ taken.End ∷ [])) (Some (taken_by a (codes "rec-eval(one)"))) =
    runs.outcome.1.0.took ∙ ap (λ (takes : List Taken). Some takes) one-taken in
    let same : ◌≡◌ {A = Taken} taken.End (taken.Line (codes "rec-terminate(finish)")) = cc in cc
