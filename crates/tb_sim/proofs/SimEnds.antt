-- Each simulation has an end, and each prefix of one goes on to it.
use Rattle.std.proofs.Common.{◌≡◌, ℕ, zero, suc, ◌+◌, ◌-◌, ◌<◌, ◌≤◌, ◌⊎◌, inl, inr, List, [], ◌∷◌, ◌++◌, length, length-append, refl, ap, arith, Bool, true, false, nat_le, if◌then◌else◌, Option, Some, None}
use Rattle.std.proofs.lemmas.Bool.{leb-true}
use Rattle.tb_bus.specs.Steps.{Step, steps}
use Rattle.tb_bus.specs.Traces.{fed, taken_out}
use Rattle.tb_sim.specs.Simulation.{Limits, Sim, Turn, Ends, Makes, Handing, turn, turn_by, up_turn, step_turn, quiet_turn, outside_turn, input_turn, makes, first_handing, IsSim, IsSimPrefix}
use Rattle.tb_log.specs.Limits.{has_room, log_size, entry_size, most_size}
use Rattle.tb_log.specs.declared.entry.Input.{Input}
use Rattle.tb_log.specs.declared.entry.Input.TheVariants.{NoTicks}
use Rattle.tb_log.specs.declared.entry.Entry.{Entry}
use Rattle.tb_log.specs.declared.entry.Entry.TheVariants.{Did, Quiet, Fed, Gave}
use Rattle.tb_sim.specs.declared.ends.SimEnd.{SimEnd}
use Rattle.tb_sim.specs.declared.ends.SimEnd.TheVariants as end
use Rattle.tb_terms.proofs.SameLemmas.{both-true}

-- no more turns than these log an entry
abbrev turns_left : Limits → Sim → ℕ
turns_left limits sim = limits.entries - length sim.log

-- a turn ends the simulation, or leaves fewer turns
abbrev Turns : Limits → Sim → Turn → Type 0
Turns limits sim turn =
    ((end : SimEnd) × (turn ≡ Ends end))
    ⊎ ((entry : Entry) × (next : Sim) × (turn ≡ Makes entry next) × (turns_left limits next < turns_left limits sim))

fewer : (limits : Limits) (sim : Sim) (entry : Entry) → has_room limits.entries sim.log entry ≡ true → limits.entries - length (sim.log ++ entry ∷ []) < turns_left limits sim
fewer limits sim entry room =
    let within : length sim.log + 1 ≤ limits.entries =
    leb-true (length sim.log + 1) limits.entries (both-true (nat_le (length sim.log + 1) limits.entries) (nat_le (log_size sim.log + entry_size entry) most_size) room).0 in
    omega (arith, within, length-append sim.log (entry ∷ []))

room-turns : (limits : Limits) (sim : Sim) (entry : Entry) (next : Sim) (room : Bool) → has_room limits.entries sim.log entry ≡ room →
    Turns limits sim (if room then Makes entry (record next { log = sim.log ++ entry ∷ [] }) else Ends end.Events)
room-turns limits sim entry next true e = inr (entry, record next { log = sim.log ++ entry ∷ [] }, refl, fewer limits sim entry e)
room-turns limits sim entry next false e = inl (end.Events, refl)

-- an entry is made where the log has capacity for it
makes-turns : (limits : Limits) (sim : Sim) (entry : Entry) (next : Sim) → Turns limits sim (makes limits sim entry next)
makes-turns limits sim entry next = room-turns limits sim entry next (has_room limits.entries sim.log entry) refl

input-turns : (limits : Limits) (sim : Sim) (input : Input) (left : List Input) → Turns limits sim (input_turn limits sim input left)
input-turns limits sim input left =
    makes-turns limits sim (Fed input (fed sim.bus input).reply) (record sim { bus = (fed sim.bus input).bus; quiet = false; left = left })

outside-turns : (limits : Limits) (sim : Sim) (left : List Input) → Turns limits sim (outside_turn limits sim left)
outside-turns limits sim [] = input-turns limits sim NoTicks []
outside-turns limits sim (input ∷ left) = input-turns limits sim input left

quiet-turns : (limits : Limits) (sim : Sim) (quiet : Bool) → Turns limits sim (if quiet then outside_turn limits sim sim.left else makes limits sim Quiet (record sim { quiet = true }))
quiet-turns limits sim true = outside-turns limits sim sim.left
quiet-turns limits sim false = makes-turns limits sim Quiet (record sim { quiet = true })

limit-turns : (limits : Limits) (sim : Sim) (step : Step) (limit : Bool) →
    Turns limits sim (if limit then Ends end.Steps else makes limits sim (Did step.label) (record sim { bus = step.bus; steps_made = sim.steps_made + 1; quiet = false }))
limit-turns limits sim step true = inl (end.Steps, refl)
limit-turns limits sim step false = makes-turns limits sim (Did step.label) (record sim { bus = step.bus; steps_made = sim.steps_made + 1; quiet = false })

step-turns : (limits : Limits) (sim : Sim) (ss : List Step) → Turns limits sim (step_turn limits sim ss)
step-turns limits sim [] = quiet-turns limits sim sim.quiet
step-turns limits sim (step ∷ rest) = limit-turns limits sim step (nat_le limits.steps sim.steps_made)

down-turns : (limits : Limits) (sim : Sim) (down : Bool) → Turns limits sim (if down then Ends end.Down else step_turn limits sim (steps sim.bus))
down-turns limits sim true = inl (end.Down, refl)
down-turns limits sim false = step-turns limits sim (steps sim.bus)

turns-by : (limits : Limits) (sim : Sim) (handing : Option Handing) → Turns limits sim (turn_by limits sim handing)
turns-by limits sim None = down-turns limits sim sim.bus.down
turns-by limits sim (Some handing) =
    makes-turns limits sim (Gave handing.lane handing.out) (record sim { bus = taken_out handing.lane sim.bus; quiet = false })

-- the simulation has a log and an end from here
abbrev pub HasEnd : Limits → Sim → Type 0
HasEnd limits sim = (log : List Entry) × ((end : SimEnd) × IsSim limits sim log end)

ends-by : (limits : Limits) (sim : Sim) → Turns limits sim (turn limits sim) → ((next : Sim) → turns_left limits next < turns_left limits sim → HasEnd limits next) → HasEnd limits sim
ends-by limits sim (inl ended) on = ([], (ended.0, ended.1))
ends-by limits sim (inr made) on = let rest = on made.1 made.3 in (made.0 ∷ rest.0, (rest.1.0, (made.1, made.2, rest.1.1)))

ends-within : (count : ℕ) (limits : Limits) (sim : Sim) → turns_left limits sim < count → HasEnd limits sim
ends-within zero limits sim less = absurd (omega (arith, less))
ends-within (suc count) limits sim less = ends-by limits sim (turns-by limits sim (first_handing sim.bus.bench)) (λ next fewer. ends-within count limits next (omega (arith, less, fewer)))

pub sim-ends : (limits : Limits) (sim : Sim) → HasEnd limits sim
sim-ends limits sim = ends-within (turns_left limits sim + 1) limits sim (omega arith)

-- what was logged on the way goes on to the end
pub prefix-ends : (limits : Limits) (sim : Sim) (log : List Entry) → IsSimPrefix limits sim log → (more : List Entry) × ((end : SimEnd) × IsSim limits sim (log ++ more) end)
prefix-ends limits sim [] h = sim-ends limits sim
prefix-ends limits sim (entry ∷ log) h =
    let rest = prefix-ends limits h.0 log h.2 in
    (rest.0, (rest.1.0, (h.0, h.1, rest.1.1)))

-- and each prefix of a whole log was logged on the way
pub sim-prefix : (limits : Limits) (sim : Sim) (log more : List Entry) (end : SimEnd) → IsSim limits sim (log ++ more) end → IsSimPrefix limits sim log
sim-prefix limits sim [] more end h = tt
sim-prefix limits sim (entry ∷ log) more end h = (h.0, h.1, sim-prefix limits h.0 log more end h.2)
