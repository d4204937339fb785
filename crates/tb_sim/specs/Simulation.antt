-- The simulation of a bus with a feed, turn by turn, within limits. A turn sends a queued item. If no item is queued, it takes the first
-- possible step. If no step is possible, it logs `quiet`, and the next turn delivers an input.
use Rattle.std.specs.Prelude.{◌≡◌, ℕ, ◌+◌, nat_le, List, [], ◌∷◌, ◌++◌, Bool, true, false, if◌then◌else◌, Option, Some, None, option_map, option_and_then, ⊤}
use Rattle.tb_bus.specs.declared.origin.Origin.{Origin}
use Rattle.tb_bus.specs.Buses.{Bus}
use Rattle.tb_bus.specs.Steps.{Step, steps}
use Rattle.tb_bus.specs.Traces.{fed, taken_out}
use Rattle.tb_tools.specs.Lanes.{BenchState}
use Rattle.tb_tools.specs.Finding.{first_out, next_out}
use Rattle.tb_log.specs.Limits.{has_room}
use Rattle.tb_log.specs.declared.entry.Out.{Out}
use Rattle.tb_log.specs.declared.entry.Input.{Input}
use Rattle.tb_log.specs.declared.entry.Input.TheVariants.{NoTicks}
use Rattle.tb_log.specs.declared.entry.Entry.{Entry}
use Rattle.tb_log.specs.declared.entry.Entry.TheVariants.{Did, Quiet, Fed, Gave}
use Rattle.tb_sim.specs.declared.ends.SimEnd.{SimEnd}
use Rattle.tb_sim.specs.declared.ends.SimEnd.TheVariants.{Down, Steps, Events}

-- the greatest number of steps of a simulation, and the greatest number of entries of its log
pub record Limits : Type 0 where
  pub steps : ℕ
  pub entries : ℕ

-- the limits of a core's simulation: the given number of steps, and the number of entries that its origin allows
abbrev pub limits_of : ℕ → Origin → Limits
limits_of steps origin = record { steps = steps; entries = origin.limit }

-- the state of a simulation: its bus, its log, the number of its steps, whether its last entry is `quiet`, and the rest of its feed
pub record Sim : Type 0 where
  pub bus : Bus
  pub log : List Entry
  pub steps_made : ℕ
  pub quiet : Bool
  pub left : List Input

-- the result of a turn: the simulation ends, or it logs this entry and has this state
pub data Turn : Type 0 where
  Ends : SimEnd → Turn
  Makes : Entry → Sim → Turn

-- logs this entry if the log has capacity for it; if not, the simulation ends with `Events`
abbrev pub makes : Limits → Sim → Entry → Sim → Turn
makes limits sim entry next = if has_room limits.entries sim.log entry then Makes entry (record next { log = sim.log ++ entry ∷ [] }) else Ends Events

-- delivers this input, after which this is the rest of the feed
abbrev pub input_turn : Limits → Sim → Input → List Input → Turn
input_turn limits sim input left =
    makes limits sim (Fed input (fed sim.bus input).reply) (record sim { bus = (fed sim.bus input).bus; quiet = false; left = left })

-- delivers the first input of the rest of the feed; if there is none, delivers the end of ticks
abbrev pub outside_turn : Limits → Sim → List Input → Turn
outside_turn limits sim [] = input_turn limits sim NoTicks []
outside_turn limits sim (input ∷ left) = input_turn limits sim input left

-- the turn if no step is possible: logs `quiet`; if the last entry is `quiet` already, delivers the next input
abbrev pub quiet_turn : Limits → Sim → Turn
quiet_turn limits sim =
    if sim.quiet
    then outside_turn limits sim sim.left
    else makes limits sim Quiet (record sim { quiet = true })

-- if a step is possible, takes the first one; if the limit of steps is reached, ends with `Steps` instead
abbrev pub step_turn : Limits → Sim → List Step → Turn
step_turn limits sim [] = quiet_turn limits sim
step_turn limits sim (step ∷ rest) =
    if nat_le limits.steps sim.steps_made
    then Ends Steps
    else makes limits sim (Did step.label) (record sim { bus = step.bus; steps_made = sim.steps_made + 1; quiet = false })

-- if the bus has shut down, ends with `Down`; if not, takes a step or goes on as above
abbrev pub up_turn : Limits → Sim → Turn
up_turn limits sim = if sim.bus.down then Ends Down else step_turn limits sim (steps sim.bus)

-- a lane, and the next item that is queued on it
pub record Handing : Type 0 where
  pub lane : ℕ
  pub out : Out

abbrev pub handing_on : BenchState → ℕ → Option Handing
handing_on bench lane = option_map (λ out. record { lane = lane; out = out }) (next_out lane bench)

-- the item that is sent next: the first one of the lowest lane with a queued item
abbrev pub first_handing : BenchState → Option Handing
first_handing bench = option_and_then (handing_on bench) (first_out bench)

-- sends this item; if nothing is queued, goes on as above
abbrev pub turn_by : Limits → Sim → Option Handing → Turn
turn_by limits sim None = up_turn limits sim
turn_by limits sim (Some handing) =
    makes limits sim (Gave handing.lane handing.out) (record sim { bus = taken_out handing.lane sim.bus; quiet = false })

-- The turn of a simulation in this state.
abbrev pub turn : Limits → Sim → Turn
turn limits sim = turn_by limits sim (first_handing sim.bus.bench)

-- From this state, the turns of the simulation log these entries, and then the simulation ends with this end.
abbrev pub IsSim : Limits → Sim → List Entry → SimEnd → Type 0
IsSim limits sim [] end = turn limits sim ≡ Ends end
IsSim limits sim (entry ∷ log) end = (next : Sim) × (turn limits sim ≡ Makes entry next) × IsSim limits next log end

-- the first state of a simulation: the log is empty, no step is taken, and the whole feed is left
abbrev pub sim_start : Bus → List Input → Sim
sim_start bus feed = record { bus = bus; log = []; steps_made = 0; quiet = false; left = feed }

-- From this state, the first turns of the simulation log these entries.
abbrev pub IsSimPrefix : Limits → Sim → List Entry → Type 0
IsSimPrefix limits sim [] = ⊤
IsSimPrefix limits sim (entry ∷ log) = (next : Sim) × (turn limits sim ≡ Makes entry next) × IsSimPrefix limits next log
