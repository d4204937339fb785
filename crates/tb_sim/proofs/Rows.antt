-- Worked scripts, computed from the definitions alone.
use Rattle.std.proofs.Common.{◌≡◌, ℕ, ◌+◌, pos, List, [], ◌∷◌, length, refl, sym, subst, arith, codes, false, true, rules, Some, None, Bool}
use Rattle.std.proofs.lemmas.Bool.{false_from_ne_true}
use Rattle.tb_terms.specs.declared.expr.Expr.{Expr, the_lemmas as expr_lemmas}
use Rattle.tb_terms.specs.declared.expr.Expr.TheVariants as expr
use Rattle.tb_terms.specs.declared.term.Term.{Term, the_lemmas as term_lemmas}
use Rattle.tb_terms.specs.declared.term.Term.TheVariants as term
use Rattle.tb_terms.specs.contracts.term.Term as term_row
use Rattle.tb_terms.specs.declared.pattern.Pattern.{Pattern, the_lemmas as pattern_lemmas}
use Rattle.tb_terms.specs.declared.pattern.Pattern.TheVariants as pattern
use Rattle.tb_terms.specs.declared.sort.Sort.{the_lemmas as sort_lemmas}
use Rattle.tb_terms.specs.declared.sort.Sort.TheVariants as sort
use Rattle.tb_terms.specs.Same.{is_same_term}
use Rattle.tb_terms.specs.Sizes.{is_within_limits, term_size}
use Rattle.tb_terms.specs.Sorts.{has_sort, initial_value}
use Rattle.tb_func.specs.declared.slot.Slot.{Slot}
use Rattle.tb_body.specs.declared.tree.Tree.{the_lemmas as tree_lemmas}
use Rattle.tb_body.specs.declared.tree.Tree.TheVariants as tree
use Rattle.tb_body.specs.declared.tree.Setting.{Setting}
use Rattle.tb_body.specs.declared.act.Act.{Act}
use Rattle.tb_body.specs.declared.act.Act.TheVariants as act
use Rattle.tb_body.specs.declared.atom.Atom.{Atom}
use Rattle.tb_body.specs.declared.body.Body.{Body}
use Rattle.tb_body.specs.declared.program.Program.{Program}
use Rattle.tb_body.specs.declared.program.Root.{Root}
use Rattle.tb_body.specs.InRange.{is_body_in_range}
use Rattle.tb_body.specs.Programs.{is_program_in_range}
use Rattle.tb_process_steps.specs.Processes.{Process, At, Seq, Star, Par, Let, fresh}
use Rattle.tb_process_steps.specs.Atoms.{values_together, patterns_of}
use Rattle.tb_process_steps.specs.Settings.{with_settings}
use Rattle.tb_match.specs.Matches.{match_list, match_term}
use Rattle.tb_notes.specs.Inboxes.{nothing}
use Rattle.tb_tools.specs.Lanes.{opening}
use Rattle.tb_bus.specs.declared.origin.Origin.{Origin}
use Rattle.tb_bus.specs.Buses.{Bus, Proc, start}
use Rattle.tb_bus.specs.Steps.{steps, moves, moves_of_all, moves_of, handshakes, handshakes_with, advance}
use Rattle.tb_sim.specs.Simulation.{Limits, Sim, IsSim, limits_of, sim_start}
use Rattle.tb_log.specs.declared.entry.Entry.{Entry}
use Rattle.tb_log.specs.declared.entry.Entry.TheVariants.{Did, Quiet, Fed}
use Rattle.tb_log.specs.declared.entry.Input.TheVariants.{NoTicks}
use Rattle.tb_log.specs.declared.entry.Reply.TheVariants.{Took}
use Rattle.tb_log.specs.declared.entry.LabelKind.TheVariants as kind
use Rattle.tb_sim.specs.declared.ends.SimEnd.{SimEnd}
use Rattle.tb_sim.specs.declared.ends.SimEnd.TheVariants.{Down, Steps, Events}
use Rattle.tb_terms.proofs.SameLemmas.{is_same-refl, is_same-sound}

-- an atom that has no times
abbrev pub plain : Act → Atom
plain a = record { act = a; times = [] }

-- a process that starts without actuals
abbrev pub root : ℕ → Root
root process = record { process = process; actuals = [] }

-- it is at this term, and has no variables
abbrev pub at : ℕ → ℕ → Process → Proc
at number body term = record { number = number; body = body; term = term; store = []; inbox = nothing }

-- a bus that is up, and has created no process
abbrev pub bus_of : Program → List Proc → ℕ → Bool → Bus
bus_of program procs last no_ticks = record {
  program = program;
  procs = procs;
  now = 0;
  last_starter = last;
  next_number = length program.roots + 1;
  no_ticks = no_ticks;
  down = false;
  bench = opening [];
}

-- a simulation that has made this log and so many steps, and has not just said quiet
abbrev pub sim_of : Bus → List Entry → ℕ → Sim
sim_of bus log made = record { bus = bus; log = log; steps_made = made; quiet = false; left = [] }

-- one that has just said quiet
abbrev pub quiet_of : Bus → List Entry → ℕ → Sim
quiet_of bus log made = record { bus = bus; log = log; steps_made = made; quiet = true; left = [] }

-- one whose bus shut down
abbrev pub down_of : Bus → List Entry → ℕ → Sim
down_of bus log made = record { bus = record bus { down = true }; log = log; steps_made = made; quiet = false; left = [] }

abbrev pub finish : Entry
finish = Did (record { kind = kind.Finish; from = record { proc = 0; atom = 0 }; to = record { proc = 0; atom = 0 }; terms = [] })

abbrev pub halt : Entry
halt = Did (record { kind = kind.Halt; from = record { proc = 0; atom = 0 }; to = record { proc = 0; atom = 0 }; terms = [] })

abbrev pub tau_of : ℕ → ℕ → Entry
tau_of proc atom = Did (record { kind = kind.Tau; from = record { proc = proc; atom = atom }; to = record { proc = 0; atom = 0 }; terms = [] })

-- the first process sends by one of its atoms, and the second receives
abbrev pub shake : ℕ → ℕ → List Term → Entry
shake from to terms = Did (record { kind = kind.Msg; from = record { proc = 1; atom = from }; to = record { proc = 2; atom = to }; terms = terms })

-- `toolbus()`
pub empty-in_range : is_program_in_range [] [] [] ≡ true
unfolding is_program_in_range
empty-in_range = refl

abbrev pub empty : Origin
empty = record { program = record { bodies = []; roots = []; tools = []; in_range = empty-in_range }; connects = []; limit = 1000000 }

-- an empty bus finishes at once
pub empty_bus : IsSim (limits_of 1000000 empty) (sim_start (start empty) []) (finish ∷ []) Down
unfolding steps moves moves_of_all moves_of handshakes handshakes_with advance
empty_bus = (_, refl, refl)

-- `tau . tau`
pub two_taus-in_range : is_body_in_range (tree.Seq (tree.At 1) (tree.At 2)) (plain act.Tau ∷ plain act.Tau ∷ []) [] 0 ≡ true
unfolding is_body_in_range
two_taus-in_range = search (rules, tree_lemmas)

abbrev pub two_taus : Body
two_taus = record { tree = tree.Seq (tree.At 1) (tree.At 2); atoms = plain act.Tau ∷ plain act.Tau ∷ []; sorts = []; formals = 0; in_range = two_taus-in_range }

pub two_by_two-in_range : is_program_in_range (two_taus ∷ two_taus ∷ []) (root 0 ∷ root 1 ∷ []) [] ≡ true
unfolding is_program_in_range
two_by_two-in_range = refl

-- `process A is tau . tau process B is tau . tau toolbus(A, B)`
abbrev pub two_by_two : Origin
two_by_two = record { program = record { bodies = two_taus ∷ two_taus ∷ []; roots = root 0 ∷ root 1 ∷ []; tools = []; in_range = two_by_two-in_range }; connects = []; limit = 1000000 }

fresh-two_taus : fresh (tree.Seq (tree.At 1) (tree.At 2)) ≡ Seq (At 1 0) (At 2 0)
fresh-two_taus = search (rules, tree_lemmas)

two_by_two-starts : (limits : Limits) (log : List Entry) (end : SimEnd) →
    IsSim limits (sim_of (bus_of two_by_two.program (at 1 0 (Seq (At 1 0) (At 2 0)) ∷ at 2 1 (Seq (At 1 0) (At 2 0)) ∷ []) 0 false) [] 0) log end → IsSim limits (sim_start (start two_by_two) []) log end
two_by_two-starts limits log end h =
    subst (λ (term : Process). IsSim limits (sim_of (bus_of two_by_two.program (at 1 0 term ∷ at 2 1 term ∷ []) 0 false) [] 0) log end) (sym fresh-two_taus) h

-- the processes take turns
pub in_turns : IsSim (limits_of 1000000 two_by_two) (sim_start (start two_by_two) []) (tau_of 1 1 ∷ tau_of 2 1 ∷ tau_of 1 2 ∷ tau_of 2 2 ∷ finish ∷ []) Down
unfolding steps moves moves_of_all moves_of handshakes handshakes_with advance
in_turns = two_by_two-starts (limits_of 1000000 two_by_two) (tau_of 1 1 ∷ tau_of 2 1 ∷ tau_of 1 2 ∷ tau_of 2 2 ∷ finish ∷ []) Down (_, refl, (_, refl, (_, refl, (_, refl, (_, refl, refl)))))

-- at the limit of four steps it could still finish
pub four_steps : IsSim (limits_of 4 two_by_two) (sim_start (start two_by_two) []) (tau_of 1 1 ∷ tau_of 2 1 ∷ tau_of 1 2 ∷ tau_of 2 2 ∷ []) Steps
unfolding steps moves moves_of_all moves_of handshakes handshakes_with advance
four_steps = two_by_two-starts (limits_of 4 two_by_two) (tau_of 1 1 ∷ tau_of 2 1 ∷ tau_of 1 2 ∷ tau_of 2 2 ∷ []) Steps (_, refl, (_, refl, (_, refl, (_, refl, refl))))

-- a body of one atom
pub fresh-one : fresh (tree.At 1) ≡ At 1 0
fresh-one = search (rules, tree_lemmas)

pub delta-in_range : is_body_in_range (tree.At 1) (plain act.Delta ∷ []) [] 0 ≡ true
unfolding is_body_in_range
delta-in_range = search (rules, tree_lemmas)

abbrev pub delta : Body
delta = record { tree = tree.At 1; atoms = plain act.Delta ∷ []; sorts = []; formals = 0; in_range = delta-in_range }

pub stuck-in_range : is_program_in_range (delta ∷ []) (root 0 ∷ []) [] ≡ true
unfolding is_program_in_range
stuck-in_range = refl

-- `process P is delta toolbus(P)`
abbrev pub stuck : Origin
stuck = record { program = record { bodies = delta ∷ []; roots = root 0 ∷ []; tools = []; in_range = stuck-in_range }; connects = []; limit = 1000000 }

stuck-runs : IsSim (limits_of 1000000 stuck) (sim_of (bus_of stuck.program (at 1 0 (At 1 0) ∷ []) 0 false) [] 0) (Quiet ∷ Fed NoTicks Took ∷ halt ∷ []) Down
unfolding steps moves moves_of_all moves_of handshakes handshakes_with advance
stuck-runs = (_, refl, (_, refl, (_, refl, refl)))

-- what never happens halts the bus once no more ticks come
pub delta_alone : IsSim (limits_of 1000000 stuck) (sim_start (start stuck) []) (Quiet ∷ Fed NoTicks Took ∷ halt ∷ []) Down
delta_alone =
    subst (λ (term : Process). IsSim (limits_of 1000000 stuck) (sim_of (bus_of stuck.program (at 1 0 term ∷ []) 0 false) [] 0) (Quiet ∷ Fed NoTicks Took ∷ halt ∷ []) Down) (sym fresh-one) stuck-runs

stuck-limited : IsSim (limits_of 0 stuck) (sim_of (bus_of stuck.program (at 1 0 (At 1 0) ∷ []) 0 false) [] 0) (Quiet ∷ Fed NoTicks Took ∷ []) Steps
unfolding steps moves moves_of_all moves_of handshakes handshakes_with advance
stuck-limited = (_, refl, (_, refl, refl))

-- with no step allowed, it still says quiet, and ends only where the bus could halt
pub delta_limited : IsSim (limits_of 0 stuck) (sim_start (start stuck) []) (Quiet ∷ Fed NoTicks Took ∷ []) Steps
delta_limited =
    subst (λ (term : Process). IsSim (limits_of 0 stuck) (sim_of (bus_of stuck.program (at 1 0 term ∷ []) 0 false) [] 0) (Quiet ∷ Fed NoTicks Took ∷ []) Steps) (sym fresh-one) stuck-limited

-- `tau * delta`
pub endless-in_range : is_body_in_range (tree.Star (tree.At 1) (tree.At 2)) (plain act.Tau ∷ plain act.Delta ∷ []) [] 0 ≡ true
unfolding is_body_in_range
endless-in_range = search (rules, tree_lemmas)

abbrev pub endless : Body
endless = record { tree = tree.Star (tree.At 1) (tree.At 2); atoms = plain act.Tau ∷ plain act.Delta ∷ []; sorts = []; formals = 0; in_range = endless-in_range }

pub forever-in_range : is_program_in_range (endless ∷ []) (root 0 ∷ []) [] ≡ true
unfolding is_program_in_range
forever-in_range = refl

-- `process P is tau * delta toolbus(P)`, whose log may have five entries
abbrev pub forever : Origin
forever = record { program = record { bodies = endless ∷ []; roots = root 0 ∷ []; tools = []; in_range = forever-in_range }; connects = []; limit = 5 }

-- a star of two atoms
abbrev pub star : Process
star = Star (At 1 0) (At 2 0)

pub fresh-star : fresh (tree.Star (tree.At 1) (tree.At 2)) ≡ star
fresh-star = search (rules, tree_lemmas)

forever-starts : (limits : Limits) (log : List Entry) (end : SimEnd) → IsSim limits (sim_of (bus_of forever.program (at 1 0 star ∷ []) 0 false) [] 0) log end → IsSim limits (sim_start (start forever) []) log end
forever-starts limits log end h = subst (λ (term : Process). IsSim limits (sim_of (bus_of forever.program (at 1 0 term ∷ []) 0 false) [] 0) log end) (sym fresh-star) h

abbrev pub five_taus : List Entry
five_taus = tau_of 1 1 ∷ tau_of 1 1 ∷ tau_of 1 1 ∷ tau_of 1 1 ∷ tau_of 1 1 ∷ []

-- it ends where the log has no capacity for another entry
pub five_entries : IsSim (limits_of 1000000 forever) (sim_start (start forever) []) five_taus Events
unfolding steps moves moves_of_all moves_of handshakes handshakes_with advance
five_entries = forever-starts (limits_of 1000000 forever) five_taus Events (_, refl, (_, refl, (_, refl, (_, refl, (_, refl, refl)))))

-- where the limit of steps is reached too, that is the end
pub both_limits : IsSim (limits_of 5 forever) (sim_start (start forever) []) five_taus Steps
unfolding steps moves moves_of_all moves_of handshakes handshakes_with advance
both_limits = forever-starts (limits_of 5 forever) five_taus Steps (_, refl, (_, refl, (_, refl, (_, refl, (_, refl, refl)))))

-- a name without arguments: as an expression, as a term, and as a pattern
abbrev pub word : List ℕ → List Expr
word name = expr.Appl name [] ∷ []

abbrev pub words : List ℕ → List Term
words name = term.Appl name [] ∷ []

abbrev pub fixed : List ℕ → List Pattern
fixed name = pattern.Fixed (term.Appl name []) ∷ []

a-sent : values_together [] (word (codes "a")) ≡ Some (words (codes "a"))
unfolding is_within_limits
a-sent = search (rules, expr_lemmas, term_lemmas)

pub a-wanted : patterns_of [] (word (codes "a")) ≡ Some (fixed (codes "a"))
unfolding is_within_limits
a-wanted = search (rules, expr_lemmas, term_lemmas, pattern_lemmas)

b-sent : values_together [] (word (codes "b")) ≡ Some (words (codes "b"))
unfolding is_within_limits
b-sent = search (rules, expr_lemmas, term_lemmas)

b-wanted : patterns_of [] (word (codes "b")) ≡ Some (fixed (codes "b"))
unfolding is_within_limits
b-wanted = search (rules, expr_lemmas, term_lemmas, pattern_lemmas)

same-term : (t : Term) → is_same_term t t ≡ true
same-term t = is_same-refl term_row.the_row.coded t

-- one for the node, and its letters
word-size : (name : List ℕ) → term_size (term.Appl name []) ≡ 1 + length name
word-size name = search (rules, term_lemmas)

-- a term matches itself
fixed-matches : (name : List ℕ) → match_list (fixed name) (words name) ≡ Some []
fixed-matches name = search (rules, pattern_lemmas, same-term)

one-code : (n m : ℕ) → term.Appl (n ∷ []) [] ≡ term.Appl (m ∷ []) [] → n ≡ m
one-code n m e = search (rules, term_lemmas)

pub rec_a-in_range : is_body_in_range (tree.At 1) (plain (act.RecMsg (word (codes "a"))) ∷ []) [] 0 ≡ true
unfolding is_body_in_range
rec_a-in_range = search (rules, tree_lemmas, expr_lemmas)

abbrev pub rec_a : Body
rec_a = record { tree = tree.At 1; atoms = plain (act.RecMsg (word (codes "a"))) ∷ []; sorts = []; formals = 0; in_range = rec_a-in_range }

pub alone-in_range : is_program_in_range (rec_a ∷ []) (root 0 ∷ []) [] ≡ true
unfolding is_program_in_range
alone-in_range = refl

-- `process P is rec-msg(a) toolbus(P)`
abbrev pub alone : Origin
alone = record { program = record { bodies = rec_a ∷ []; roots = root 0 ∷ []; tools = []; in_range = alone-in_range }; connects = []; limit = 1000000 }

alone-runs : IsSim (limits_of 1000000 alone) (sim_of (bus_of alone.program (at 1 0 (At 1 0) ∷ []) 0 false) [] 0) (Quiet ∷ Fed NoTicks Took ∷ halt ∷ []) Down
unfolding steps moves moves_of_all moves_of handshakes handshakes_with advance
alone-runs = (
  quiet_of (bus_of alone.program (at 1 0 (At 1 0) ∷ []) 0 false) (Quiet ∷ []) 0,
  simp a-wanted,
  (
    sim_of (bus_of alone.program (at 1 0 (At 1 0) ∷ []) 0 true) (Quiet ∷ Fed NoTicks Took ∷ []) 0,
    simp a-wanted,
    (down_of (bus_of alone.program (at 1 0 (At 1 0) ∷ []) 0 true) (Quiet ∷ Fed NoTicks Took ∷ halt ∷ []) 1, simp a-wanted, refl),
  ),
)

-- one receiver alone: nothing is possible, then no more ticks come, then the bus halts
pub one_receiver_alone : IsSim (limits_of 1000000 alone) (sim_start (start alone) []) (Quiet ∷ Fed NoTicks Took ∷ halt ∷ []) Down
one_receiver_alone =
    subst (λ (term : Process). IsSim (limits_of 1000000 alone) (sim_of (bus_of alone.program (at 1 0 term ∷ []) 0 false) [] 0) (Quiet ∷ Fed NoTicks Took ∷ halt ∷ []) Down) (sym fresh-one) alone-runs

hello-sent : values_together [] (word (codes "hello")) ≡ Some (words (codes "hello"))
unfolding is_within_limits
hello-sent = search (rules, expr_lemmas, term_lemmas)

hello-wanted : patterns_of [] (word (codes "hello")) ≡ Some (fixed (codes "hello"))
unfolding is_within_limits
hello-wanted = search (rules, expr_lemmas, term_lemmas, pattern_lemmas)

pub snd_hello-in_range : is_body_in_range (tree.At 1) (plain (act.SndMsg (word (codes "hello"))) ∷ []) [] 0 ≡ true
unfolding is_body_in_range
snd_hello-in_range = search (rules, tree_lemmas, expr_lemmas)

pub rec_hello-in_range : is_body_in_range (tree.At 1) (plain (act.RecMsg (word (codes "hello"))) ∷ []) [] 0 ≡ true
unfolding is_body_in_range
rec_hello-in_range = search (rules, tree_lemmas, expr_lemmas)

abbrev pub snd_hello : Body
snd_hello = record { tree = tree.At 1; atoms = plain (act.SndMsg (word (codes "hello"))) ∷ []; sorts = []; formals = 0; in_range = snd_hello-in_range }

abbrev pub rec_hello : Body
rec_hello = record { tree = tree.At 1; atoms = plain (act.RecMsg (word (codes "hello"))) ∷ []; sorts = []; formals = 0; in_range = rec_hello-in_range }

pub hello-in_range : is_program_in_range (snd_hello ∷ rec_hello ∷ []) (root 0 ∷ root 1 ∷ []) [] ≡ true
unfolding is_program_in_range
hello-in_range = refl

-- `process A is snd-msg(hello) process B is rec-msg(hello) toolbus(A, B)`
abbrev pub hello : Origin
hello = record { program = record { bodies = snd_hello ∷ rec_hello ∷ []; roots = root 0 ∷ root 1 ∷ []; tools = []; in_range = hello-in_range }; connects = []; limit = 1000000 }

hello-runs : IsSim (limits_of 1000000 hello) (sim_of (bus_of hello.program (at 1 0 (At 1 0) ∷ at 2 1 (At 1 0) ∷ []) 0 false) [] 0) (shake 1 1 (words (codes "hello")) ∷ finish ∷ []) Down
unfolding steps moves moves_of_all moves_of handshakes handshakes_with advance
hello-runs = (
  sim_of (bus_of hello.program [] 1 false) (shake 1 1 (words (codes "hello")) ∷ []) 1,
  simp (hello-sent, hello-wanted, fixed-matches (codes "hello"), word-size),
  (down_of (bus_of hello.program [] 1 false) (shake 1 1 (words (codes "hello")) ∷ finish ∷ []) 2, simp word-size, refl),
)

-- one process sends its terms to the other, and no process is left
pub hello_once : IsSim (limits_of 1000000 hello) (sim_start (start hello) []) (shake 1 1 (words (codes "hello")) ∷ finish ∷ []) Down
hello_once =
    subst (λ (term : Process). IsSim (limits_of 1000000 hello) (sim_of (bus_of hello.program (at 1 0 term ∷ at 2 1 term ∷ []) 0 false) [] 0) (shake 1 1 (words (codes "hello")) ∷ finish ∷ []) Down)
    (sym fresh-one) hello-runs

-- a term matches no other
apart : is_same_term (term.Appl (codes "b") []) (term.Appl (codes "a") []) ≡ false
apart = false_from_ne_true (is_same_term (term.Appl (codes "b") []) (term.Appl (codes "a") []))
    (λ e. let same = is_same-sound term_row.the_row.coded (term.Appl (codes "b") []) (term.Appl (codes "a") []) e in
    let code : ◌≡◌ {A = ℕ} 98 97 = one-code 98 97 same in absurd (omega arith))

b-misses : match_list (fixed (codes "b")) (words (codes "a")) ≡ None
b-misses = search (rules, pattern_lemmas, apart)

-- `snd-msg(a) * snd-msg(b)`
abbrev pub sending : List Atom
sending = plain (act.SndMsg (word (codes "a"))) ∷ plain (act.SndMsg (word (codes "b"))) ∷ []

-- `rec-msg(a) . rec-msg(a) . rec-msg(b)`
abbrev pub receiving : List Atom
receiving = plain (act.RecMsg (word (codes "a"))) ∷ plain (act.RecMsg (word (codes "a"))) ∷ plain (act.RecMsg (word (codes "b"))) ∷ []

pub sender-in_range : is_body_in_range (tree.Star (tree.At 1) (tree.At 2)) sending [] 0 ≡ true
unfolding is_body_in_range
sender-in_range = search (rules, tree_lemmas, expr_lemmas)

pub receiver-in_range : is_body_in_range (tree.Seq (tree.At 1) (tree.Seq (tree.At 2) (tree.At 3))) receiving [] 0 ≡ true
unfolding is_body_in_range
receiver-in_range = search (rules, tree_lemmas, expr_lemmas)

abbrev pub sender : Body
sender = record { tree = tree.Star (tree.At 1) (tree.At 2); atoms = sending; sorts = []; formals = 0; in_range = sender-in_range }

abbrev pub receiver : Body
receiver = record { tree = tree.Seq (tree.At 1) (tree.Seq (tree.At 2) (tree.At 3)); atoms = receiving; sorts = []; formals = 0; in_range = receiver-in_range }

pub twice-in_range : is_program_in_range (sender ∷ receiver ∷ []) (root 0 ∷ root 1 ∷ []) [] ≡ true
unfolding is_program_in_range
twice-in_range = refl

-- `process A is snd-msg(a) * snd-msg(b) process B is rec-msg(a) . rec-msg(a) . rec-msg(b) toolbus(A, B)`
abbrev pub twice : Origin
twice = record { program = record { bodies = sender ∷ receiver ∷ []; roots = root 0 ∷ root 1 ∷ []; tools = []; in_range = twice-in_range }; connects = []; limit = 1000000 }

fresh-receiver : fresh (tree.Seq (tree.At 1) (tree.Seq (tree.At 2) (tree.At 3))) ≡ Seq (At 1 0) (Seq (At 2 0) (At 3 0))
fresh-receiver = search (rules, tree_lemmas)

-- the receiver's atom takes an a, and its last one the b
abbrev pub a_at : ℕ → Entry
a_at to = shake 1 to (words (codes "a"))

abbrev pub b_last : Entry
b_last = shake 2 3 (words (codes "b"))

abbrev pub twice_log : List Entry
twice_log = a_at 1 ∷ a_at 2 ∷ b_last ∷ finish ∷ []

twice-runs : IsSim (limits_of 1000000 twice) (sim_of (bus_of twice.program (at 1 0 star ∷ at 2 1 (Seq (At 1 0) (Seq (At 2 0) (At 3 0))) ∷ []) 0 false) [] 0) twice_log Down
unfolding steps moves moves_of_all moves_of handshakes handshakes_with advance
twice-runs = (
  sim_of (bus_of twice.program (at 1 0 star ∷ at 2 1 (Seq (At 2 0) (At 3 0)) ∷ []) 1 false) (a_at 1 ∷ []) 1,
  simp (a-sent, b-sent, a-wanted, fixed-matches (codes "a"), word-size),
  (
    sim_of (bus_of twice.program (at 1 0 star ∷ at 2 1 (At 3 0) ∷ []) 1 false) (a_at 1 ∷ a_at 2 ∷ []) 2,
    simp (a-sent, b-sent, a-wanted, fixed-matches (codes "a"), word-size),
    (
      sim_of (bus_of twice.program [] 1 false) (a_at 1 ∷ a_at 2 ∷ b_last ∷ []) 3,
      simp (a-sent, b-sent, b-wanted, fixed-matches (codes "b"), b-misses, word-size),
      (down_of (bus_of twice.program [] 1 false) twice_log 4, simp word-size, refl),
    ),
  ),
)

-- a star's first side is taken until the other is wanted
pub star_until : IsSim (limits_of 1000000 twice) (sim_start (start twice) []) twice_log Down
star_until =
    subst (λ (term : Process). IsSim (limits_of 1000000 twice) (sim_of (bus_of twice.program (at 1 0 term ∷ at 2 1 (fresh receiver.tree) ∷ []) 0 false) [] 0) twice_log Down) (sym fresh-star)
    (subst (λ (term : Process). IsSim (limits_of 1000000 twice) (sim_of (bus_of twice.program (at 1 0 star ∷ at 2 1 term ∷ []) 0 false) [] 0) twice_log Down) (sym fresh-receiver) twice-runs)

-- `snd-msg(a) || rec-msg(a)`
abbrev pub both_sides : List Atom
both_sides = plain (act.SndMsg (word (codes "a"))) ∷ plain (act.RecMsg (word (codes "a"))) ∷ []

pub merged-in_range : is_body_in_range (tree.Par (tree.At 1) (tree.At 2)) both_sides [] 0 ≡ true
unfolding is_body_in_range
merged-in_range = search (rules, tree_lemmas, expr_lemmas)

abbrev pub merged : Body
merged = record { tree = tree.Par (tree.At 1) (tree.At 2); atoms = both_sides; sorts = []; formals = 0; in_range = merged-in_range }

pub itself-in_range : is_program_in_range (merged ∷ []) (root 0 ∷ []) [] ≡ true
unfolding is_program_in_range
itself-in_range = refl

-- `process P is snd-msg(a) || rec-msg(a) toolbus(P)`
abbrev pub itself : Origin
itself = record { program = record { bodies = merged ∷ []; roots = root 0 ∷ []; tools = []; in_range = itself-in_range }; connects = []; limit = 1000000 }

fresh-merged : fresh (tree.Par (tree.At 1) (tree.At 2)) ≡ Par (At 1 0) (At 2 0)
fresh-merged = search (rules, tree_lemmas)

itself-runs : IsSim (limits_of 1000000 itself) (sim_of (bus_of itself.program (at 1 0 (Par (At 1 0) (At 2 0)) ∷ []) 0 false) [] 0) (Quiet ∷ Fed NoTicks Took ∷ halt ∷ []) Down
unfolding steps moves moves_of_all moves_of handshakes handshakes_with advance
itself-runs =
    let procs : List Proc = at 1 0 (Par (At 1 0) (At 2 0)) ∷ [] in (
      quiet_of (bus_of itself.program procs 0 false) (Quiet ∷ []) 0,
      simp (a-sent, a-wanted),
      (
        sim_of (bus_of itself.program procs 0 true) (Quiet ∷ Fed NoTicks Took ∷ []) 0,
        simp (a-sent, a-wanted),
        (down_of (bus_of itself.program procs 0 true) (Quiet ∷ Fed NoTicks Took ∷ halt ∷ []) 1, simp (a-sent, a-wanted), refl),
      ),
    )

-- no process shakes hands with itself
pub none_with_itself : IsSim (limits_of 1000000 itself) (sim_start (start itself) []) (Quiet ∷ Fed NoTicks Took ∷ halt ∷ []) Down
none_with_itself =
    subst (λ (term : Process). IsSim (limits_of 1000000 itself) (sim_of (bus_of itself.program (at 1 0 term ∷ []) 0 false) [] 0) (Quiet ∷ Fed NoTicks Took ∷ halt ∷ []) Down) (sym fresh-merged) itself-runs

-- a number: as an expression, and as a term
abbrev pub number : ℕ → Expr
number n = expr.Int (pos n)

abbrev pub worth : ℕ → Term
worth n = term.Int (pos n)

number-size : (n : ℕ) → term_size (worth n) ≡ 1
number-size n = search (rules, term_lemmas)

-- a variable with a number
abbrev pub holding : ℕ → List Slot
holding n = record { sort = sort.Int; value = worth n } ∷ []

abbrev pub from_start : List Setting
from_start = record { slot = 0; start = None } ∷ []

-- `X := 5` and `rec-msg(X, X?)`
abbrev pub setting : List Atom
setting = plain (act.Set 0 (number 5)) ∷ plain (act.RecMsg (expr.Var 0 ∷ expr.Result 0 ∷ [])) ∷ []

pub five_six-in_range : is_body_in_range (tree.At 1) (plain (act.SndMsg (number 5 ∷ number 6 ∷ [])) ∷ []) [] 0 ≡ true
unfolding is_body_in_range
five_six-in_range = search (rules, tree_lemmas, expr_lemmas)

pub variable-in_range : is_body_in_range (tree.Let from_start (tree.Seq (tree.At 1) (tree.At 2))) setting (sort.Int ∷ []) 0 ≡ true
unfolding is_body_in_range
variable-in_range = search (rules, tree_lemmas, expr_lemmas)

abbrev pub five_six : Body
five_six = record { tree = tree.At 1; atoms = plain (act.SndMsg (number 5 ∷ number 6 ∷ [])) ∷ []; sorts = []; formals = 0; in_range = five_six-in_range }

abbrev pub variable : Body
variable = record { tree = tree.Let from_start (tree.Seq (tree.At 1) (tree.At 2)); atoms = setting; sorts = sort.Int ∷ []; formals = 0; in_range = variable-in_range }

pub bound-in_range : is_program_in_range (five_six ∷ variable ∷ []) (root 0 ∷ root 1 ∷ []) [] ≡ true
unfolding is_program_in_range
bound-in_range = refl

-- `process A is snd-msg(5, 6) process B is let X: int in X := 5 . rec-msg(X, X?) endlet toolbus(A, B)`
abbrev pub bound : Origin
bound = record { program = record { bodies = five_six ∷ variable ∷ []; roots = root 0 ∷ root 1 ∷ []; tools = []; in_range = bound-in_range }; connects = []; limit = 1000000 }

fresh-variable : fresh (tree.Let from_start (tree.Seq (tree.At 1) (tree.At 2))) ≡ Let from_start (Seq (At 1 0) (At 2 0))
fresh-variable = search (rules, tree_lemmas)

begins-zero : initial_value sort.Int ≡ worth 0
begins-zero = search (rules, sort_lemmas)

is-int : (n : ℕ) → has_sort (worth n) sort.Int ≡ true
is-int n = search (rules, sort_lemmas, term_lemmas)

let-starts : with_settings (holding 0) from_start ≡ Some (holding 0)
let-starts = search (rules, begins-zero, is-int)

both-sent : values_together [] (number 5 ∷ number 6 ∷ []) ≡ Some (worth 5 ∷ worth 6 ∷ [])
both-sent = search (rules, expr_lemmas, term_lemmas)

five-set : (n : ℕ) → values_together (holding n) (number 5 ∷ []) ≡ Some (worth 5 ∷ [])
five-set n = search (rules, expr_lemmas, term_lemmas)

both-wanted : patterns_of (holding 5) (expr.Var 0 ∷ expr.Result 0 ∷ []) ≡ Some (pattern.Fixed (worth 5) ∷ pattern.Result 0 sort.Int ∷ [])
both-wanted = search (rules, expr_lemmas)

five-matches : match_term (pattern.Fixed (worth 5)) (worth 5) ≡ Some []
five-matches = search (rules, pattern_lemmas, same-term)

six-matches : match_term (pattern.Result 0 sort.Int) (worth 6) ≡ Some (record { slot = 0; value = worth 6 } ∷ [])
six-matches = search (rules, pattern_lemmas, sort_lemmas, term_lemmas)

six-bound : match_list (pattern.Fixed (worth 5) ∷ pattern.Result 0 sort.Int ∷ []) (worth 5 ∷ worth 6 ∷ []) ≡ Some (record { slot = 0; value = worth 6 } ∷ [])
six-bound = rw five-matches (rw six-matches refl)

abbrev pub five_is_set : Entry
five_is_set = Did (record { kind = kind.Set; from = record { proc = 2; atom = 1 }; to = record { proc = 0; atom = 0 }; terms = worth 5 ∷ [] })

abbrev pub bound_log : List Entry
bound_log = five_is_set ∷ shake 1 2 (worth 5 ∷ worth 6 ∷ []) ∷ finish ∷ []

-- the second process, with its variable
abbrev with_variable : Process → Slot → Proc
with_variable term slot = record { number = 2; body = 1; term = term; store = slot ∷ []; inbox = nothing }

abbrev int_slot : Term → Slot
int_slot value = record { sort = sort.Int; value = value }

bound-runs : IsSim (limits_of 1000000 bound) (sim_of (bus_of bound.program (at 1 0 (At 1 0) ∷ with_variable (Let from_start (Seq (At 1 0) (At 2 0))) (int_slot (worth 0)) ∷ []) 0 false) [] 0) bound_log Down
unfolding steps moves moves_of_all moves_of handshakes handshakes_with advance
bound-runs = (
  sim_of (bus_of bound.program (at 1 0 (At 1 0) ∷ with_variable (At 2 0) (int_slot (worth 5)) ∷ []) 2 false) (five_is_set ∷ []) 1,
  simp (both-sent, let-starts, five-set 0, is-int 5, number-size),
  (
    sim_of (bus_of bound.program [] 1 false) (five_is_set ∷ shake 1 2 (worth 5 ∷ worth 6 ∷ []) ∷ []) 2,
    simp (both-sent, both-wanted, six-bound, number-size),
    (down_of (bus_of bound.program [] 1 false) bound_log 3, simp number-size, refl),
  ),
)

-- a variable is set, sent terms are matched with its value, and it takes another
pub variable_bound : IsSim (limits_of 1000000 bound) (sim_start (start bound) []) bound_log Down
variable_bound =
    subst (λ (term : Process). IsSim (limits_of 1000000 bound) (sim_of (bus_of bound.program (at 1 0 term ∷ with_variable (fresh variable.tree) (int_slot (initial_value sort.Int)) ∷ []) 0 false) [] 0) bound_log Down) (sym fresh-one)
    (subst (λ (term : Process). IsSim (limits_of 1000000 bound) (sim_of (bus_of bound.program (at 1 0 (At 1 0) ∷ with_variable term (int_slot (initial_value sort.Int)) ∷ []) 0 false) [] 0) bound_log Down) (sym fresh-variable)
    (subst (λ (value : Term). IsSim (limits_of 1000000 bound) (sim_of (bus_of bound.program (at 1 0 (At 1 0) ∷ with_variable (Let from_start (Seq (At 1 0) (At 2 0))) (int_slot value) ∷ []) 0 false) [] 0) bound_log Down) (sym begins-zero) bound-runs))
