-- What a turn of a simulation does: on a bus that has shut down, at the limit of steps, if a step is possible, and if none is.
use Rattle.std.proofs.Common.{◌≡◌, ℕ, ◌+◌, ◌<◌, ◌≤◌, List, [], ◌∷◌, ◌++◌, map, refl, ap, sym, ◌∙◌, Bool, true, false, nat_le, if◌then◌else◌, Option, Some, None, option_map, option_and_then}
use Rattle.std.proofs.lemmas.Bool.{le-leb, lt-leb, cond-true, cond-false}
use Rattle.tb_bus.specs.Buses.{Bus}
use Rattle.tb_bus.specs.Steps.{Move, Step, moves, moves_while_up, steps, step_of}
use Rattle.tb_bus.specs.Traces.{taken_out}
use Rattle.tb_tools.specs.Finding.{first_out, next_out}
use Rattle.tb_sim.specs.Simulation.{Limits, Sim, Turn, Ends, Makes, Handing, turn, turn_by, up_turn, handing_on, step_turn, quiet_turn, outside_turn, makes}
use Rattle.tb_log.specs.Limits.{has_room}
use Rattle.tb_log.specs.declared.entry.Out.{Out}
use Rattle.tb_log.specs.declared.entry.Entry.{Entry}
use Rattle.tb_log.specs.declared.entry.Entry.TheVariants.{Did, Quiet, Gave}
use Rattle.tb_sim.specs.declared.ends.SimEnd.TheVariants as end

-- a bus with a step is up
up-by : (bus : Bus) (down : Bool) (ms : List Move) (step : Step) (rest : List Step) → map (step_of bus) (if down then [] else ms) ≡ step ∷ rest → down ≡ false
up-by bus true ms step rest e = cc
up-by bus false ms step rest e = refl

pub steps-up : (bus : Bus) (step : Step) (rest : List Step) → steps bus ≡ step ∷ rest → bus.down ≡ false
unfolding steps moves
steps-up bus step rest e = up-by bus bus.down (moves_while_up bus bus.procs) step rest e

-- nothing is queued for sending
abbrev pub IsIdle : Bus → Type 0
IsIdle bus = first_out bus.bench ≡ None

-- then a turn goes on
turn-idle : (limits : Limits) (sim : Sim) → IsIdle sim.bus → turn limits sim ≡ up_turn limits sim
turn-idle limits sim idle = ap (λ (lane : Option ℕ). turn_by limits sim (option_and_then (handing_on sim.bus.bench) lane)) idle

handing-is : (limits : Limits) (sim : Sim) (lane : ℕ) (out : Out) → next_out lane sim.bus.bench ≡ Some out →
    turn_by limits sim (handing_on sim.bus.bench lane) ≡ makes limits sim (Gave lane out) (record sim { bus = taken_out lane sim.bus; quiet = false })
handing-is limits sim lane out e =
    ap (λ (found : Option Out). turn_by limits sim (option_map (λ (x : Out). let h : Handing = record { lane = lane; out = x } in h) found)) e

-- the next item of the lowest lane is sent
pub turn-hands : (limits : Limits) (sim : Sim) (lane : ℕ) (out : Out) → first_out sim.bus.bench ≡ Some lane → next_out lane sim.bus.bench ≡ Some out →
    turn limits sim ≡ makes limits sim (Gave lane out) (record sim { bus = taken_out lane sim.bus; quiet = false })
turn-hands limits sim lane out first next =
    ap (λ (found : Option ℕ). turn_by limits sim (option_and_then (handing_on sim.bus.bench) found)) first ∙ handing-is limits sim lane out next

-- a turn of a bus that has shut down ends the simulation
pub turn-down : (limits : Limits) (sim : Sim) → IsIdle sim.bus → sim.bus.down ≡ true → turn limits sim ≡ Ends end.Down
turn-down limits sim idle e = turn-idle limits sim idle ∙ cond-true sim.bus.down (Ends end.Down) (step_turn limits sim (steps sim.bus)) e

-- a turn of one that is up goes by its steps
pub turn-up : (limits : Limits) (sim : Sim) → IsIdle sim.bus → sim.bus.down ≡ false → turn limits sim ≡ step_turn limits sim (steps sim.bus)
turn-up limits sim idle e = turn-idle limits sim idle ∙ cond-false sim.bus.down (Ends end.Down) (step_turn limits sim (steps sim.bus)) e

turn-first : (limits : Limits) (sim : Sim) (step : Step) (rest : List Step) → IsIdle sim.bus → steps sim.bus ≡ step ∷ rest → turn limits sim ≡ step_turn limits sim (step ∷ rest)
turn-first limits sim step rest idle e = turn-up limits sim idle (steps-up sim.bus step rest e) ∙ ap (step_turn limits sim) e

-- the turn that makes a step
abbrev pub made_turn : Limits → Sim → Step → Turn
made_turn limits sim step = makes limits sim (Did step.label) (record sim { bus = step.bus; steps_made = sim.steps_made + 1; quiet = false })

-- if the log has capacity, the entry is made, and else it ends
pub makes-room : (limits : Limits) (sim : Sim) (entry : Entry) (next : Sim) → has_room limits.entries sim.log entry ≡ true → makes limits sim entry next ≡ Makes entry (record next { log = sim.log ++ entry ∷ [] })
makes-room limits sim entry next e = cond-true (has_room limits.entries sim.log entry) (Makes entry (record next { log = sim.log ++ entry ∷ [] })) (Ends end.Events) e

pub makes-full : (limits : Limits) (sim : Sim) (entry : Entry) (next : Sim) → has_room limits.entries sim.log entry ≡ false → makes limits sim entry next ≡ Ends end.Events
makes-full limits sim entry next e = cond-false (has_room limits.entries sim.log entry) (Makes entry (record next { log = sim.log ++ entry ∷ [] })) (Ends end.Events) e

-- at the limit, with a step possible, it ends
pub turn-limit : (limits : Limits) (sim : Sim) (step : Step) (rest : List Step) → IsIdle sim.bus → limits.steps ≤ sim.steps_made → steps sim.bus ≡ step ∷ rest → turn limits sim ≡ Ends end.Steps
turn-limit limits sim step rest idle within e =
    turn-first limits sim step rest idle e ∙ cond-true (nat_le limits.steps sim.steps_made) (Ends end.Steps) (made_turn limits sim step) (le-leb limits.steps sim.steps_made within)

-- before it, the first step is made
pub turn-made : (limits : Limits) (sim : Sim) (step : Step) (rest : List Step) → IsIdle sim.bus → sim.steps_made < limits.steps → steps sim.bus ≡ step ∷ rest → turn limits sim ≡ made_turn limits sim step
turn-made limits sim step rest idle less e =
    turn-first limits sim step rest idle e ∙ cond-false (nat_le limits.steps sim.steps_made) (Ends end.Steps) (made_turn limits sim step) (lt-leb limits.steps sim.steps_made less)

-- if no step is possible it logs `quiet`, and then delivers the next input
pub turn-quiet : (limits : Limits) (sim : Sim) → IsIdle sim.bus → steps sim.bus ≡ [] → sim.bus.down ≡ false → turn limits sim ≡ quiet_turn limits sim
turn-quiet limits sim idle e f = turn-up limits sim idle f ∙ ap (step_turn limits sim) e

pub turn-says-quiet : (limits : Limits) (sim : Sim) → IsIdle sim.bus → steps sim.bus ≡ [] → sim.bus.down ≡ false → sim.quiet ≡ false → turn limits sim ≡ makes limits sim Quiet (record sim { quiet = true })
turn-says-quiet limits sim idle e f q = turn-quiet limits sim idle e f ∙ cond-false sim.quiet (outside_turn limits sim sim.left) (makes limits sim Quiet (record sim { quiet = true })) q

pub turn-outside : (limits : Limits) (sim : Sim) → IsIdle sim.bus → steps sim.bus ≡ [] → sim.bus.down ≡ false → sim.quiet ≡ true → turn limits sim ≡ outside_turn limits sim sim.left
turn-outside limits sim idle e f q = turn-quiet limits sim idle e f ∙ cond-true sim.quiet (outside_turn limits sim sim.left) (makes limits sim Quiet (record sim { quiet = true })) q
