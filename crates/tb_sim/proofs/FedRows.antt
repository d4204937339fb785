-- Worked scripts with feeds of ticks, computed from the definitions alone.
use Rattle.std.proofs.Common.{◌≡◌, ℕ, ◌+◌, length, codes, pos, List, [], ◌∷◌, refl, sym, subst, false, true, rules, Some, option_and_then, Bool}
use Rattle.tb_terms.specs.declared.expr.Expr.{the_lemmas as expr_lemmas}
use Rattle.tb_terms.specs.declared.term.Term.{the_lemmas as term_lemmas}
use Rattle.tb_func.specs.Arguments.{int_of}
use Rattle.tb_func.specs.Values.{value_of}
use Rattle.tb_body.specs.declared.tree.Tree.{the_lemmas as tree_lemmas}
use Rattle.tb_body.specs.declared.tree.Tree.TheVariants as tree
use Rattle.tb_body.specs.declared.act.Act.TheVariants as act
use Rattle.tb_body.specs.declared.atom.Atom.{Atom}
use Rattle.tb_body.specs.declared.atom.Time.{Time}
use Rattle.tb_body.specs.declared.atom.TimeKind.{TimeKind}
use Rattle.tb_body.specs.declared.atom.TimeKind.TheVariants.{Delay, Timeout}
use Rattle.tb_body.specs.declared.body.Body.{Body}
use Rattle.tb_body.specs.declared.program.Program.{Program}
use Rattle.tb_body.specs.InRange.{is_body_in_range}
use Rattle.tb_body.specs.Programs.{is_program_in_range}
use Rattle.tb_process_steps.specs.Processes.{Process, At, Seq, Alt, Par, fresh}
use Rattle.tb_tools.specs.Lanes.{opening}
use Rattle.tb_bus.specs.declared.origin.Origin.{Origin}
use Rattle.tb_bus.specs.Buses.{Bus, Proc, start}
use Rattle.tb_bus.specs.Steps.{steps, moves, moves_of_all, moves_of, handshakes, handshakes_with, advance}
use Rattle.tb_sim.specs.Simulation.{Sim, IsSim, limits_of, sim_start}
use Rattle.tb_log.specs.declared.entry.Entry.{Entry}
use Rattle.tb_log.specs.declared.entry.Entry.TheVariants.{Quiet, Fed}
use Rattle.tb_log.specs.declared.entry.Input.{Input}
use Rattle.tb_log.specs.declared.entry.Input.TheVariants.{Tick, NoTicks}
use Rattle.tb_log.specs.declared.entry.Reply.TheVariants.{Took}
use Rattle.tb_sim.specs.declared.ends.SimEnd.TheVariants.{Down, Events}
use Rattle.tb_sim.proofs.Rows.{a-wanted, at, finish, fresh-one, halt, number, plain, root, star, fresh-star, stuck, tau_of, word}

-- a bus that is up and has seen so many ticks
abbrev bus_at : Program → List Proc → ℕ → ℕ → Bool → Bus
bus_at program procs last now no_ticks = record {
  program = program;
  procs = procs;
  now = now;
  last_starter = last;
  next_number = length program.roots + 1;
  no_ticks = no_ticks;
  down = false;
  bench = opening [];
}

-- a simulation that has not just said quiet, with what is left of its feed, and one that has
abbrev fed_of : Bus → List Entry → ℕ → List Input → Sim
fed_of bus log made left = record { bus = bus; log = log; steps_made = made; quiet = false; left = left }

abbrev said_of : Bus → List Entry → ℕ → List Input → Sim
said_of bus log made left = record { bus = bus; log = log; steps_made = made; quiet = true; left = left }

abbrev tick : Entry
tick = Fed Tick Took

abbrev noticks : Entry
noticks = Fed NoTicks Took

abbrev stuck_log : List Entry
stuck_log = Quiet ∷ tick ∷ Quiet ∷ noticks ∷ halt ∷ []

stuck-fed : IsSim (limits_of 1000000 stuck) (fed_of (bus_at stuck.program (at 1 0 (At 1 0) ∷ []) 0 0 false) [] 0 (Tick ∷ [])) stuck_log Down
unfolding steps moves moves_of_all moves_of handshakes handshakes_with advance
stuck-fed = (_, refl, (_, refl, (_, refl, (_, refl, (_, refl, refl)))))

-- before each input it says quiet
pub delta_fed : IsSim (limits_of 1000000 stuck) (sim_start (start stuck) (Tick ∷ [])) stuck_log Down
delta_fed =
    subst (λ (term : Process). IsSim (limits_of 1000000 stuck) (fed_of (bus_at stuck.program (at 1 0 term ∷ []) 0 0 false) [] 0 (Tick ∷ [])) stuck_log Down) (sym fresh-one) stuck-fed

-- it ends where the log has no capacity for the tick
abbrev short : Origin
short = record { program = stuck.program; connects = []; limit = 1 }

short-fed : IsSim (limits_of 1000000 short) (fed_of (bus_at short.program (at 1 0 (At 1 0) ∷ []) 0 0 false) [] 0 (Tick ∷ [])) (Quiet ∷ []) Events
unfolding steps moves moves_of_all moves_of handshakes handshakes_with advance
short-fed = (_, refl, refl)

pub delta_full : IsSim (limits_of 1000000 short) (sim_start (start short) (Tick ∷ [])) (Quiet ∷ []) Events
delta_full =
    subst (λ (term : Process). IsSim (limits_of 1000000 short) (fed_of (bus_at short.program (at 1 0 term ∷ []) 0 0 false) [] 0 (Tick ∷ [])) (Quiet ∷ []) Events) (sym fresh-one) short-fed

-- a time of so many ticks
abbrev time : TimeKind → ℕ → Time
time kind n = record { kind = kind; value = number n }

time-worth : (n : ℕ) → option_and_then int_of (value_of [] (number n)) ≡ Some (pos n)
time-worth n = search (rules, expr_lemmas, term_lemmas)

-- `tau delay(1) || tau delay(2)`
abbrev delayed : List Atom
delayed = record { act = act.Tau; times = time Delay 1 ∷ [] } ∷ record { act = act.Tau; times = time Delay 2 ∷ [] } ∷ []

pub waiting-in_range : is_body_in_range (tree.Par (tree.At 1) (tree.At 2)) delayed [] 0 ≡ true
unfolding is_body_in_range
waiting-in_range = search (rules, tree_lemmas, expr_lemmas)

abbrev waiting : Body
waiting = record { tree = tree.Par (tree.At 1) (tree.At 2); atoms = delayed; sorts = []; formals = 0; in_range = waiting-in_range }

pub two_waits-in_range : is_program_in_range (waiting ∷ []) (root 0 ∷ []) [] ≡ true
unfolding is_program_in_range
two_waits-in_range = refl

-- `process P is tau delay(1) || tau delay(2) toolbus(P)`
abbrev two_waits : Origin
two_waits = record { program = record { bodies = waiting ∷ []; roots = root 0 ∷ []; tools = []; in_range = two_waits-in_range }; connects = []; limit = 1000000 }

fresh-waiting : fresh (tree.Par (tree.At 1) (tree.At 2)) ≡ Par (At 1 0) (At 2 0)
fresh-waiting = search (rules, tree_lemmas)

-- the state of the one process after so many ticks
abbrev waits_at : Process → ℕ → ℕ → Bus
waits_at term last now = bus_at two_waits.program (at 1 0 term ∷ []) last now false

abbrev waits_log : List Entry
waits_log = Quiet ∷ tick ∷ tau_of 1 1 ∷ Quiet ∷ tick ∷ tau_of 1 2 ∷ finish ∷ []

waits-run : IsSim (limits_of 1000000 two_waits) (fed_of (waits_at (Par (At 1 0) (At 2 0)) 0 0) [] 0 (Tick ∷ Tick ∷ [])) waits_log Down
unfolding steps moves moves_of_all moves_of handshakes handshakes_with advance
waits-run = (
  said_of (waits_at (Par (At 1 0) (At 2 0)) 0 0) (Quiet ∷ []) 0 (Tick ∷ Tick ∷ []),
  simp time-worth,
  (
    fed_of (waits_at (Par (At 1 1) (At 2 1)) 0 1) (Quiet ∷ tick ∷ []) 0 (Tick ∷ []),
    simp time-worth,
    (
      fed_of (waits_at (At 2 1) 1 1) (Quiet ∷ tick ∷ tau_of 1 1 ∷ []) 1 (Tick ∷ []),
      simp time-worth,
      (
        said_of (waits_at (At 2 1) 1 1) (Quiet ∷ tick ∷ tau_of 1 1 ∷ Quiet ∷ []) 1 (Tick ∷ []),
        simp time-worth,
        (
          fed_of (waits_at (At 2 2) 1 2) (Quiet ∷ tick ∷ tau_of 1 1 ∷ Quiet ∷ tick ∷ []) 1 [],
          simp time-worth,
          (
            fed_of (bus_at two_waits.program [] 1 2 false) (Quiet ∷ tick ∷ tau_of 1 1 ∷ Quiet ∷ tick ∷ tau_of 1 2 ∷ []) 2 [],
            simp time-worth,
            (_, refl, refl),
          ),
        ),
      ),
    ),
  ),
)

-- both sides of a merge wait from its entry on
pub waits_together : IsSim (limits_of 1000000 two_waits) (sim_start (start two_waits) (Tick ∷ Tick ∷ [])) waits_log Down
waits_together =
    subst (λ (term : Process). IsSim (limits_of 1000000 two_waits) (fed_of (waits_at term 0 0) [] 0 (Tick ∷ Tick ∷ [])) waits_log Down) (sym fresh-waiting) waits-run

-- `tau delay(2) timeout(2) * delta`
abbrev turns : List Atom
turns = record { act = act.Tau; times = time Delay 2 ∷ time Timeout 2 ∷ [] } ∷ plain act.Delta ∷ []

pub turning-in_range : is_body_in_range (tree.Star (tree.At 1) (tree.At 2)) turns [] 0 ≡ true
unfolding is_body_in_range
turning-in_range = search (rules, tree_lemmas, expr_lemmas)

abbrev turning : Body
turning = record { tree = tree.Star (tree.At 1) (tree.At 2); atoms = turns; sorts = []; formals = 0; in_range = turning-in_range }

pub rounds-in_range : is_program_in_range (turning ∷ []) (root 0 ∷ []) [] ≡ true
unfolding is_program_in_range
rounds-in_range = refl

-- `process P is tau delay(2) timeout(2) * delta toolbus(P)`
abbrev rounds : Origin
rounds = record { program = record { bodies = turning ∷ []; roots = root 0 ∷ []; tools = []; in_range = rounds-in_range }; connects = []; limit = 1000000 }

abbrev turning_at : Process → ℕ → ℕ → Bool → Bus
turning_at term last now no_ticks = bus_at rounds.program (at 1 0 term ∷ []) last now no_ticks

abbrev rounds_log : List Entry
rounds_log = Quiet ∷ tick ∷ Quiet ∷ tick ∷ tau_of 1 1 ∷ Quiet ∷ tick ∷ Quiet ∷ tick ∷ tau_of 1 1 ∷ Quiet ∷ tick ∷ Quiet ∷ noticks ∷ halt ∷ []

abbrev five_ticks : List Input
five_ticks = Tick ∷ Tick ∷ Tick ∷ Tick ∷ Tick ∷ []

rounds-run : IsSim (limits_of 1000000 rounds) (fed_of (turning_at star 0 0 false) [] 0 five_ticks) rounds_log Down
unfolding steps moves moves_of_all moves_of handshakes handshakes_with advance
rounds-run = (said_of (turning_at (star) 0 0 false) (Quiet ∷ []) 0 (Tick ∷ Tick ∷ Tick ∷ Tick ∷ Tick ∷ []), simp time-worth, (fed_of (turning_at (Alt (Seq (At 1 1) star) (At 2 1)) 0 1 false) (Quiet ∷ tick ∷ []) 0 (Tick ∷ Tick ∷ Tick ∷ Tick ∷ []), simp time-worth, (said_of (turning_at (Alt (Seq (At 1 1) star) (At 2 1)) 0 1 false) (Quiet ∷ tick ∷ Quiet ∷ []) 0 (Tick ∷ Tick ∷ Tick ∷ Tick ∷ []), simp time-worth, (fed_of (turning_at (Alt (Seq (At 1 2) star) (At 2 2)) 0 2 false) (Quiet ∷ tick ∷ Quiet ∷ tick ∷ []) 0 (Tick ∷ Tick ∷ Tick ∷ []), simp time-worth, (fed_of (turning_at (star) 1 2 false) (Quiet ∷ tick ∷ Quiet ∷ tick ∷ tau_of 1 1 ∷ []) 1 (Tick ∷ Tick ∷ Tick ∷ []), simp time-worth, (said_of (turning_at (star) 1 2 false) (Quiet ∷ tick ∷ Quiet ∷ tick ∷ tau_of 1 1 ∷ Quiet ∷ []) 1 (Tick ∷ Tick ∷ Tick ∷ []), simp time-worth, (fed_of (turning_at (Alt (Seq (At 1 1) star) (At 2 1)) 1 3 false) (Quiet ∷ tick ∷ Quiet ∷ tick ∷ tau_of 1 1 ∷ Quiet ∷ tick ∷ []) 1 (Tick ∷ Tick ∷ []), simp time-worth, (said_of (turning_at (Alt (Seq (At 1 1) star) (At 2 1)) 1 3 false) (Quiet ∷ tick ∷ Quiet ∷ tick ∷ tau_of 1 1 ∷ Quiet ∷ tick ∷ Quiet ∷ []) 1 (Tick ∷ Tick ∷ []), simp time-worth, (fed_of (turning_at (Alt (Seq (At 1 2) star) (At 2 2)) 1 4 false) (Quiet ∷ tick ∷ Quiet ∷ tick ∷ tau_of 1 1 ∷ Quiet ∷ tick ∷ Quiet ∷ tick ∷ []) 1 (Tick ∷ []), simp time-worth, (fed_of (turning_at (star) 1 4 false) (Quiet ∷ tick ∷ Quiet ∷ tick ∷ tau_of 1 1 ∷ Quiet ∷ tick ∷ Quiet ∷ tick ∷ tau_of 1 1 ∷ []) 2 (Tick ∷ []), simp time-worth, (said_of (turning_at (star) 1 4 false) (Quiet ∷ tick ∷ Quiet ∷ tick ∷ tau_of 1 1 ∷ Quiet ∷ tick ∷ Quiet ∷ tick ∷ tau_of 1 1 ∷ Quiet ∷ []) 2 (Tick ∷ []), simp time-worth, (fed_of (turning_at (Alt (Seq (At 1 1) star) (At 2 1)) 1 5 false) (Quiet ∷ tick ∷ Quiet ∷ tick ∷ tau_of 1 1 ∷ Quiet ∷ tick ∷ Quiet ∷ tick ∷ tau_of 1 1 ∷ Quiet ∷ tick ∷ []) 2 ([]), simp time-worth, (said_of (turning_at (Alt (Seq (At 1 1) star) (At 2 1)) 1 5 false) (Quiet ∷ tick ∷ Quiet ∷ tick ∷ tau_of 1 1 ∷ Quiet ∷ tick ∷ Quiet ∷ tick ∷ tau_of 1 1 ∷ Quiet ∷ tick ∷ Quiet ∷ []) 2 ([]), simp time-worth, (fed_of (turning_at (Alt (Seq (At 1 1) star) (At 2 1)) 1 5 true) (Quiet ∷ tick ∷ Quiet ∷ tick ∷ tau_of 1 1 ∷ Quiet ∷ tick ∷ Quiet ∷ tick ∷ tau_of 1 1 ∷ Quiet ∷ tick ∷ Quiet ∷ noticks ∷ []) 2 ([]), simp time-worth, (fed_of (record (turning_at (Alt (Seq (At 1 1) star) (At 2 1)) 1 5 true) { down = true }) rounds_log 3 [], simp time-worth, refl)))))))))))))))

-- each turn of a star waits anew
pub rounds_wait : IsSim (limits_of 1000000 rounds) (sim_start (start rounds) five_ticks) rounds_log Down
rounds_wait =
    subst (λ (term : Process). IsSim (limits_of 1000000 rounds) (fed_of (turning_at term 0 0 false) [] 0 five_ticks) rounds_log Down) (sym fresh-star) rounds-run

-- `rec-msg(a) timeout(2) + tau delay(3)`
abbrev gives : List Atom
gives = record { act = act.RecMsg (word (codes "a")); times = time Timeout 2 ∷ [] } ∷ record { act = act.Tau; times = time Delay 3 ∷ [] } ∷ []

pub giving-in_range : is_body_in_range (tree.Alt (tree.At 1) (tree.At 2)) gives [] 0 ≡ true
unfolding is_body_in_range
giving-in_range = search (rules, tree_lemmas, expr_lemmas)

abbrev giving : Body
giving = record { tree = tree.Alt (tree.At 1) (tree.At 2); atoms = gives; sorts = []; formals = 0; in_range = giving-in_range }

pub patience-in_range : is_program_in_range (giving ∷ []) (root 0 ∷ []) [] ≡ true
unfolding is_program_in_range
patience-in_range = refl

-- `process P is rec-msg(a) timeout(2) + tau delay(3) toolbus(P)`
abbrev patience : Origin
patience = record { program = record { bodies = giving ∷ []; roots = root 0 ∷ []; tools = []; in_range = patience-in_range }; connects = []; limit = 1000000 }

fresh-giving : fresh (tree.Alt (tree.At 1) (tree.At 2)) ≡ Alt (At 1 0) (At 2 0)
fresh-giving = search (rules, tree_lemmas)

abbrev giving_at : Process → ℕ → ℕ → Bus
giving_at term last now = bus_at patience.program (at 1 0 term ∷ []) last now false

abbrev patience_log : List Entry
patience_log = Quiet ∷ tick ∷ Quiet ∷ tick ∷ Quiet ∷ tick ∷ tau_of 1 2 ∷ finish ∷ []

abbrev three_ticks : List Input
three_ticks = Tick ∷ Tick ∷ Tick ∷ []

patience-run : IsSim (limits_of 1000000 patience) (fed_of (giving_at (Alt (At 1 0) (At 2 0)) 0 0) [] 0 three_ticks) patience_log Down
unfolding steps moves moves_of_all moves_of handshakes handshakes_with advance
patience-run = (said_of (giving_at (Alt (At 1 0) (At 2 0)) 0 0) (Quiet ∷ []) 0 (Tick ∷ Tick ∷ Tick ∷ []), simp (time-worth, a-wanted), (fed_of (giving_at (Alt (At 1 1) (At 2 1)) 0 1) (Quiet ∷ tick ∷ []) 0 (Tick ∷ Tick ∷ []), simp (time-worth, a-wanted), (said_of (giving_at (Alt (At 1 1) (At 2 1)) 0 1) (Quiet ∷ tick ∷ Quiet ∷ []) 0 (Tick ∷ Tick ∷ []), simp (time-worth, a-wanted), (fed_of (giving_at (Alt (At 1 2) (At 2 2)) 0 2) (Quiet ∷ tick ∷ Quiet ∷ tick ∷ []) 0 (Tick ∷ []), simp (time-worth, a-wanted), (said_of (giving_at (Alt (At 1 2) (At 2 2)) 0 2) (Quiet ∷ tick ∷ Quiet ∷ tick ∷ Quiet ∷ []) 0 (Tick ∷ []), simp (time-worth, a-wanted), (fed_of (giving_at (Alt (At 1 3) (At 2 3)) 0 3) (Quiet ∷ tick ∷ Quiet ∷ tick ∷ Quiet ∷ tick ∷ []) 0 ([]), simp (time-worth, a-wanted), (fed_of (bus_at patience.program [] 1 3 false) (Quiet ∷ tick ∷ Quiet ∷ tick ∷ Quiet ∷ tick ∷ tau_of 1 2 ∷ []) 1 ([]), simp (time-worth, a-wanted), (_, refl, refl))))))))

-- what isn't received in time is given up
pub patience_ends : IsSim (limits_of 1000000 patience) (sim_start (start patience) three_ticks) patience_log Down
patience_ends =
    subst (λ (term : Process). IsSim (limits_of 1000000 patience) (fed_of (giving_at term 0 0) [] 0 three_ticks) patience_log Down) (sym fresh-giving) patience-run
