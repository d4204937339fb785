-- The iterations of the code in a simulation: each makes one or two turns.
use Rattle.std.specs.Prelude.{◌≡◌, ℕ, ◌+◌, ◌-◌, ◌<◌, ◌≤◌, List, [], ◌∷◌, ◌++◌, length, drop, true, false}
use Rattle.tb_log.specs.declared.entry.Input.{Input}
use Rattle.tb_log.specs.declared.entry.Input.TheVariants.{NoTicks}
use Rattle.tb_log.specs.declared.entry.Entry.{Entry}
use Rattle.tb_core.specs.Cores.{CoreState, HandIn, HandOut, bus_now, ends_quiet, entries_of, is_full, Logs, Stays}
use Rattle.tb_sim.specs.Simulation.{Limits, Sim, Ends, Makes, turn, limits_of, IsSimPrefix}
use Rattle.tb_sim.specs.declared.ends.Progress.{Progress}
use Rattle.tb_sim.specs.declared.ends.SimEnd.TheVariants as end
use Rattle.tb_sim.specs.declared.ends.Turned.{Turned}
use Rattle.tb_sim.specs.declared.ends.Turned.TheVariants as turned

-- the next turns of the simulation log these entries, and lead to this state
abbrev pub SimLeads : Limits → Sim → List Entry → Sim → Type 0
SimLeads limits sim [] end = end ≡ sim
SimLeads limits sim (entry ∷ log) end = (next : Sim) × (turn limits sim ≡ Makes entry next) × SimLeads limits next log end

-- the state of the simulation of a core and a feed after this progress
unfoldable pub sim_of : List Input → CoreState → Progress → Sim
sim_of feed core so_far = record { bus = bus_now core; log = core.log; steps_made = so_far.steps; quiet = ends_quiet core.log; left = drop so_far.inputs feed }

-- a core before and after some turns of the simulation
pub record LedOn (steps : ℕ) (feed : List Input) (old : CoreState) (so_far : Progress) (new : CoreState) (next : Progress) : Type 0 where
  pub origin : new.origin ≡ old.origin
  pub running : new.stopped ≡ old.stopped
  pub entries : List Entry
  pub log : new.log ≡ old.log ++ entries
  pub turns : SimLeads (limits_of steps old.origin) (sim_of feed old so_far) entries (sim_of feed new next)

-- a core before some turns, and when memory runs out after them
pub record LeftWithin (steps : ℕ) (feed : List Input) (old : CoreState) (so_far : Progress) (new : CoreState) : Type 0 where
  pub origin : new.origin ≡ old.origin
  pub stopped : new.stopped ≡ old.stopped
  pub entries : List Entry
  pub log : new.log ≡ old.log ++ entries
  pub prefix : IsSimPrefix (limits_of steps old.origin) (sim_of feed old so_far) entries

-- the number of entries that the log of a core may still get, by its limit
abbrev pub entries_left : CoreState → ℕ
entries_left core = core.origin.limit - length core.log

-- the core has logged at least one entry, and its log is within the limit of entries
pub record IsLonger (old new : CoreState) : Type 0 where
  pub more : length old.log < length new.log
  pub within : length new.log ≤ old.origin.limit

-- the progress is within the limit of steps and the length of the feed
pub record IsWithin (steps : ℕ) (feed : List Input) (so_far : Progress) : Type 0 where
  pub steps_made : so_far.steps ≤ steps
  pub inputs_fed : so_far.inputs ≤ length feed

-- The effect of a delivered input: it was logged, or the log had no capacity for it.
abbrev pub HandsIn : Input → Progress → CoreState → CoreState → Turned → Type 0
HandsIn input next old new (turned.On progress) = (progress ≡ next) × Logs old new (entries_of old (HandIn input)) × (is_full old (HandIn input) ≡ false)
HandsIn input next old new (turned.End end.Events) = Stays old new × (is_full old (HandIn input) ≡ true)
HandsIn input next old new (turned.End end.Down) = ⊥
HandsIn input next old new (turned.End end.Steps) = ⊥

-- The effect of an item that is sent on a lane: it was logged, or the log had no capacity for it.
abbrev pub HandsOut : ℕ → Progress → CoreState → CoreState → Turned → Type 0
HandsOut lane so_far old new (turned.On progress) = (progress ≡ so_far) × Logs old new (entries_of old (HandOut lane)) × (is_full old (HandOut lane) ≡ false)
HandsOut lane so_far old new (turned.End end.Events) = Stays old new × (is_full old (HandOut lane) ≡ true)
HandsOut lane so_far old new (turned.End end.Down) = ⊥
HandsOut lane so_far old new (turned.End end.Steps) = ⊥

-- The effect of the first of these inputs. If there is none, the effect of the end of ticks.
abbrev pub HandsInNext : List Input → Progress → CoreState → CoreState → Turned → Type 0
HandsInNext [] so_far old new turned = HandsIn NoTicks so_far old new turned
HandsInNext (input ∷ left) so_far old new turned = HandsIn input (record so_far { inputs = so_far.inputs + 1 }) old new turned

-- The effect of one iteration: it sent an item, or took a step, or logged `quiet` and delivered an input. Or the simulation ends, perhaps
-- after `quiet`.
abbrev pub Goes : ℕ → List Input → CoreState → Progress → CoreState → Turned → Type 0
Goes steps feed old so_far new (turned.On next) =
    LedOn steps feed old so_far new next × IsWithin steps feed next × (ends_quiet new.log ≡ false) × IsLonger old new
Goes steps feed old so_far new (turned.End end) = LedOn steps feed old so_far new so_far × (turn (limits_of steps old.origin) (sim_of feed new so_far) ≡ Ends end)
