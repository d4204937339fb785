-- What contracts see of a core, what each of its calls logs and answers, and when the log has no capacity for an entry.
use Rattle.std.specs.Prelude.{◌≡◌, ◌≤◌, ℕ, List, [], ◌∷◌, ◌++◌, ◌+◌, ◌-◌, length, slice_get, Option, Some, None, Bool, true, false, not, option_to_list, refl}
use Rattle.std.specs.Coded.{Coded, code_by, coded×, coded_ℕ, coded_bool, coded_list}
use Rattle.tb_log.specs.Limits.{has_room}
use Rattle.tb_log.specs.declared.entry.Out.{Out}
use Rattle.tb_tools.specs.Finding.{next_out}
use Rattle.tb_log.specs.declared.entry.Input.{Input}
use Rattle.tb_log.specs.declared.entry.Input.TheVariants.{Tick, NoTicks, Line, Gone, Cut}
use Rattle.tb_log.specs.declared.entry.Entry.{Entry}
use Rattle.tb_log.specs.declared.entry.Entry.TheVariants.{Did, Quiet, Fed, Gave}
use Rattle.tb_log.specs.contracts.entry.Entry as entry
use Rattle.tb_bus.specs.declared.origin.Origin.{Origin}
use Rattle.tb_bus.specs.contracts.origin.Origin as origin
use Rattle.tb_bus.specs.Buses.{Bus, start}
use Rattle.tb_bus.specs.Steps.{Step, steps}
use Rattle.tb_bus.specs.Traces.{IsLegal, IsTrace, after, fed, replay}
use Rattle.tb_core.specs.declared.answers.Stepped.{Stepped}
use Rattle.tb_core.specs.declared.answers.Stepped.TheVariants as stepped
use Rattle.tb_core.specs.declared.answers.TakeOut.{TakeOut}
use Rattle.tb_core.specs.declared.answers.TakeOut.TheVariants as taken

-- the origin of a core, its log, whether it was stopped, and the number of further entries for which it has memory
pub record CoreState : Type 0 where
  pub origin : Origin
  pub log : List Entry
  pub stopped : Bool
  pub spare : ℕ

abbrev pub core_code : Coded CoreState
core_code =
    code_by (Origin × (List Entry × (Bool × ℕ))) (coded× origin.the_row.coded (coded× (coded_list entry.the_row.coded) (coded× coded_bool coded_ℕ)))
    (λ c. (c.origin, (c.log, (c.stopped, c.spare)))) (λ t. record { origin = t.0; log = t.1.0; stopped = t.1.1.0; spare = t.1.1.1 }) (λ _. refl)

-- the bus of a core: the bus to which its log leads from the initial bus
unfoldable pub bus_now : CoreState → Bus
bus_now core = replay (start core.origin) core.log

-- the greatest limit of a log, in entries
abbrev pub most_entries : ℕ
most_entries = 4000000

-- a core immediately after its start
abbrev pub started : Origin → CoreState
started origin = record { origin = origin; log = []; stopped = false; spare = 0 }

-- a call that may log an entry
pub data Call : Type 0 where
  HandIn : Input → Call
  MakeStep : Call
  HandOut : ℕ → Call

-- whether there is an entry, and it is `quiet`
abbrev pub says_quiet : Option Entry → Bool
says_quiet None = false
says_quiet (Some Quiet) = true
says_quiet (Some (Did label)) = false
says_quiet (Some (Fed input reply)) = false
says_quiet (Some (Gave lane out)) = false

-- whether the last entry is `quiet`
abbrev pub ends_quiet : List Entry → Bool
ends_quiet log = says_quiet (slice_get log (length log - 1))

-- the entry that a call of `step` logs, from: whether the bus has shut down, whether the last entry is `quiet`, and the possible steps
abbrev pub step_entry : Bool → Bool → List Step → Option Entry
-- no entry if the bus has shut down
step_entry true quiet steps = None
-- the label of the first step
step_entry false quiet (step ∷ rest) = Some (Did step.label)
-- `quiet` if no step is possible, unless the last entry is `quiet`
step_entry false true [] = None
step_entry false false [] = Some Quiet

-- the entry that a call of `take_out` logs: the next item that is queued on the lane, or no entry if none is queued
abbrev pub out_entry : ℕ → Option Out → Option Entry
out_entry lane None = None
out_entry lane (Some out) = Some (Gave lane out)

-- the entry that a call logs if it succeeds, if any: a function of the core and the call
abbrev pub would_log : CoreState → Call → Option Entry
would_log core (HandIn input) = Some (Fed input (fed (bus_now core) input).reply)
would_log core MakeStep = step_entry (bus_now core).down (ends_quiet core.log) (steps (bus_now core))
would_log core (HandOut lane) = out_entry lane (next_out lane (bus_now core).bench)

-- whether the log has no capacity for an entry
abbrev pub lacks_room : CoreState → Option Entry → Bool
lacks_room core None = false
lacks_room core (Some entry) = not (has_room core.origin.limit core.log entry)

-- whether the log has no capacity for the entry of a call
abbrev pub is_full : CoreState → Call → Bool
is_full core call = lacks_room core (would_log core call)

-- the entries that a call adds to the log
abbrev pub entries_of : CoreState → Call → List Entry
entries_of core call = option_to_list (would_log core call)

-- whether the bus may take memory for an input, in addition to the memory of its entry
abbrev pub takes_memory : Input → Bool
takes_memory Tick = false
takes_memory NoTicks = false
takes_memory (Line lane line) = true
takes_memory (Gone lane) = false
takes_memory (Cut lane) = false

-- A call adds these entries to the log, and changes nothing else. They are a trace from the bus before the call. Each uses the spare
-- memory of at most one entry.
pub record Logs (old new : CoreState) (entries : List Entry) : Type 0 where
  pub origin : new.origin ≡ old.origin
  pub log : new.log ≡ old.log ++ entries
  pub stopped : new.stopped ≡ old.stopped
  pub trace : IsTrace (bus_now old) entries
  pub spare : old.spare ≤ new.spare + length entries

-- Nothing changes, except that there may be memory for more entries.
pub record Stays (old new : CoreState) : Type 0 where
  pub origin : new.origin ≡ old.origin
  pub log : new.log ≡ old.log
  pub stopped : new.stopped ≡ old.stopped
  pub spare : old.spare ≤ new.spare

-- The condition for an answer of `step`. `Did`: a step is possible. `Quiet`: no step is possible, and the bus hasn't shut down. `Down`: the
-- bus has shut down.
abbrev pub IsStep : CoreState → Stepped → Type 0
IsStep core stepped.Did = (first : Step) × (rest : List Step) × (steps (bus_now core) ≡ first ∷ rest)
IsStep core stepped.Quiet = (steps (bus_now core) ≡ []) × ((bus_now core).down ≡ false)
IsStep core stepped.Down = (bus_now core).down ≡ true

-- The condition for an answer of `take_out`. `Out`: the item is the next one that is queued on the lane. `Nothing`: no item is queued, and
-- the bus hasn't shut down. `Closed`: no item is queued, and the bus has shut down.
abbrev pub IsTakenOut : CoreState → ℕ → TakeOut → Type 0
IsTakenOut core lane (taken.Out out) = next_out lane (bus_now core).bench ≡ Some out
IsTakenOut core lane taken.Nothing = (next_out lane (bus_now core).bench ≡ None) × ((bus_now core).down ≡ false)
IsTakenOut core lane taken.Closed = (next_out lane (bus_now core).bench ≡ None) × ((bus_now core).down ≡ true)

-- whether any step is possible
abbrev pub has_any : List Step → Bool
has_any [] = false
has_any (step ∷ rest) = true

-- The outcome of `follow`. `true`: the entry can come next, and the call adds it to the log. `false`: the entry can't come next, and
-- nothing changes.
abbrev pub Follows : CoreState → Entry → Bool → CoreState → Type 0
Follows old entry true new = Logs old new (entry ∷ [])
Follows old entry false new = (new ≡ old) × ((next : Bus) → IsLegal (bus_now old) entry next → ⊥)

-- The entry may come next, but the log has no capacity for it.
pub record IsCrowded (core : CoreState) (entry : Entry) : Type 0 where
  pub legal : IsLegal (bus_now core) entry (after (bus_now core) entry)
  pub full : lacks_room core (Some entry) ≡ true
