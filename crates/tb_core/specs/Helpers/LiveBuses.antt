-- The bus that the fields of a core represent, and when they represent the core that contracts see.
use Rattle.std.specs.Prelude.{◌≡◌, ◌≢◌, ◌≤◌, ◌+◌, ℕ, List, [], map, length, true, false, IsTrue, Option, Some, slice_get, slice_set, Contains, ◌<◌, ◌++◌, ◌∷◌, min}
use Rattle.std.below.core.specs.declared.int.usize.TheConstants.{MAX}
use Rattle.std.specs.List.{All}
use Rattle.tb_match.specs.declared.bind.Bind.{Bind}
use Rattle.tb_process_steps.specs.Binds.{takes_binds}
use Rattle.tb_process_steps.specs.Offers.{Offered}
use Rattle.tb_process_steps.specs.Walks.{sorts_of}
use Rattle.tb_process_steps.specs.WalkerViews.{View}
use Rattle.tb_log.specs.declared.entry.Entry.TheVariants.{Did}
use Rattle.tb_log.specs.declared.entry.Label.{Label}
use Rattle.tb_log.specs.Limits.{has_room, terms_size}
use Rattle.tb_log.specs.Logs.{LogState}
use Rattle.tb_index.specs.Indexes.{IndexState, is_awake, is_receiver}
use Rattle.tb_index.specs.declared.mark.Mark.{Mark}
use Rattle.tb_tools.specs.Lanes.{HasLanes, Tool}
use Rattle.tb_bus.specs.Buses.{Bus, Proc, start}
use Rattle.tb_bus.specs.Effects.{Effect, changed}
use Rattle.tb_bus.specs.Exchanges.{Setting, setting_by}
use Rattle.tb_bus.specs.Steps.{Move, advance, apply}
use Rattle.tb_search.specs.Views.{move_of, proc_at}
use Rattle.tb_bus.specs.Traces.{IsTrace, replay}
use Rattle.tb_search.specs.Candidates.{Scene, ascend, row_at, rows_of, scene_of}
use Rattle.tb_search.specs.declared.living.Living.{Living}
use Rattle.tb_search.specs.declared.candidate.Candidate.{Candidate}
use Rattle.tb_core.specs.Cores.{most_entries}
use Rattle.tb_living.specs.Indexes.{IsRested, IsRightForAll, KeepsOf, number_mark}
use Rattle.tb_living.specs.Lives.{IsBelow, IsFreshOr, IsLive, procs_of}
use Rattle.tb_core.specs.declared.bus.LiveBus.{LiveBus}

-- the processes that the running processes represent
abbrev pub procs_in : {W P T : Type 0} → View P W T → LiveBus W P T → List Proc
procs_in view bus = procs_of view bus.plans bus.living.items

-- the bus that the fields represent
abbrev pub bus_of : {W P T : Type 0} → View P W T → LiveBus W P T → Bus
bus_of view bus = record {
  program = bus.origin.program;
  procs = procs_in view bus;
  now = bus.ticks;
  last_starter = bus.marks.last_starter;
  next_number = bus.marks.next_number;
  no_ticks = bus.marks.no_ticks;
  down = bus.marks.down;
  bench = bus.bench;
}

-- the data that a search goes through
abbrev pub scene_in : {W P T : Type 0} → LiveBus W P T → Scene
scene_in bus = scene_of bus.origin.program.bodies bus.origin.program.tools bus.bench (rows_of bus.living.items) bus.marks

-- the move that a candidate represents
abbrev pub move_in : {W P T : Type 0} → View P W T → LiveBus W P T → Candidate → Move
move_in view bus candidate = move_of (bus_of view bus) (rows_of bus.living.items) candidate

-- the setting in which a process of each body speaks with tools
abbrev pub settings_in : {W P T : Type 0} → LiveBus W P T → ℕ → Setting
settings_in bus = setting_by bus.origin.program.bodies bus.origin.program.tools bus.bench

-- The plans are those of the bodies. The running processes are in the order of their numbers, which are below the next number, and each
-- uses its plan. Unless a tick has passed, `stale` has the number of each process that isn't fresh. All lanes are there. The index is
-- right for the processes. Each fresh process that isn't awake rests by its inbox, and unless a lane has changed, by the tools.
pub record IsSound {W P T : Type 0} (view : View P W T) (bus : LiveBus W P T) : Type 0 where
  pub in_order : ascend 0 (rows_of bus.living.items) ≡ true
  pub below : All (IsBelow bus.marks.next_number) bus.living.items
  pub planned : map view.body_of bus.plans ≡ bus.origin.program.bodies
  pub live : All (IsLive view bus.plans bus.ticks) bus.living.items
  pub fresh : bus.aged ≡ false → All (IsFreshOr bus.stale.items) bus.living.items
  pub lanes : HasLanes bus.bench
  pub indexed : IsRightForAll bus.index bus.living.items
  pub rested : All (IsRested (settings_in bus) bus.stirred bus.index) bus.living.items

-- Each fresh process that isn't awake rests, also by the tools as they are now.
abbrev pub AreSettled : {W P T : Type 0} → LiveBus W P T → Type 0
AreSettled bus = All (IsRested (settings_in bus) false bus.index) bus.living.items

-- If the process at an index is fresh and not awake, it rests, also by the tools as they are now. The index keeps its data about all
-- others.
abbrev pub IsSettledAt : {W P T : Type 0} → LiveBus W P T → LiveBus W P T → ℕ → Type 0
IsSettledAt {W = W} old new at = (living : Living W) × (slice_get old.living.items at ≡ Some living)
    × IsRested (settings_in old) false new.index living × ((other : ℕ) → other ≢ living.number → KeepsOf old.index new.index other)

-- if the index names the process as a receiver of a mark, the process is awake
abbrev pub IsAwakeUnder : {W : Type 0} → Mark → IndexState → Living W → Type 0
IsAwakeUnder mark index living = is_receiver index mark living.number ≡ true → is_awake index living.number ≡ true

-- if there is a tool, each process that the index names as a receiver of the tool's mark is awake
abbrev pub AreRoused : {W : Type 0} → Option Tool → IndexState → List (Living W) → Type 0
AreRoused found index all = (tool : Tool) → found ≡ Some tool → All (IsAwakeUnder (number_mark tool.number) index) all

-- the process at an index isn't fresh
abbrev pub IsStaleAt : {W : Type 0} → List (Living W) → ℕ → Type 0
IsStaleAt {W = W} all at = (living : Living W) → slice_get all at ≡ Some living → living.fresh ≡ false

-- The fields represent the same bus as before, with the same origin, plans, and marks. If `stirred` wasn't set before, it isn't set now.
pub record StandsAs {W P T : Type 0} (view : View P W T) (old new : LiveBus W P T) : Type 0 where
  pub sound : IsSound view new
  pub bus : bus_of view new ≡ bus_of view old
  pub origin : new.origin ≡ old.origin
  pub plans : new.plans ≡ old.plans
  pub marks : new.marks ≡ old.marks
  pub calm : old.stirred ≡ false → new.stirred ≡ false

-- the element at an index was replaced by an element with this property
abbrev pub IsSetAt : {X : Type 0} → List X → ℕ → (X → Type 0) → List X → Type 0
IsSetAt {X = X} old at P new = (x : X) × (new ≡ slice_set old at x) × P x

-- the part that was taken from the process at an index is what this offer leaves of the process
abbrev pub Leaves : {W P T : Type 0} → View P W T → LiveBus W P T → ℕ → T → Offered → Type 0
Leaves {W = W} {P = P} view bus at taken offered =
    (living : Living W) × (slice_get bus.living.items at ≡ Some living)
    × ((plan : P) × (slice_get bus.plans living.body ≡ Some plan) × view.leaves plan living.walker taken offered)

-- The part that was taken from the process at an index is what some offer leaves of it. The offered store has the types of the process's
-- store, and takes the binds.
abbrev pub CanAdvance : {W P T : Type 0} → View P W T → LiveBus W P T → ℕ → T → List Bind → Type 0
CanAdvance view bus at taken binds =
    (offered : Offered) × Leaves view bus at taken offered
    × (sorts_of offered.store ≡ sorts_of (proc_at (procs_in view bus) at).store) × IsTrue (takes_binds offered.store binds)

-- the process at an index has advanced: it continues with what the offer leaves, in the offered store with the binds set
pub record IsAdvanced {W P T : Type 0} (view : View P W T) (old : LiveBus W P T) (at : ℕ) (offered : Offered) (binds : List Bind) (new : LiveBus W P T) : Type 0 where
  pub sound : IsSound view new
  pub bus : bus_of view new ≡ record (bus_of view old) { procs = advance (row_at (rows_of old.living.items) at).number offered binds (procs_in view old) }
  pub origin : new.origin ≡ old.origin
  pub plans : new.plans ≡ old.plans
  pub marks : new.marks ≡ old.marks

-- both processes of a handshake have advanced
pub record AreAdvanced {W P T : Type 0} (view : View P W T) (old : LiveBus W P T) (at : ℕ) (offered : Offered) (other : ℕ) (its : Offered) (binds : List Bind) (new : LiveBus W P T) : Type 0 where
  pub sound : IsSound view new
  pub bus : bus_of view new ≡ record (bus_of view old) {
    procs = advance (row_at (rows_of old.living.items) other).number its binds (advance (row_at (rows_of old.living.items) at).number offered [] (procs_in view old));
  }
  pub origin : new.origin ≡ old.origin

-- the process at an index has the same number, body, and walker as the process there before
pub record IsKept {W : Type 0} (old new : List (Living W)) (at : ℕ) : Type 0 where
  pub before : Living W
  pub after : Living W
  pub here : slice_get old at ≡ Some before
  pub there : slice_get new at ≡ Some after
  pub number : after.number ≡ before.number
  pub body : after.body ≡ before.body
  pub walker : after.walker ≡ before.walker

-- The change of an effect was made for the process at an index. The process itself hasn't advanced yet.
pub record IsChanged {W P T : Type 0} (view : View P W T) (old : LiveBus W P T) (at : ℕ) (effect : Effect) (new : LiveBus W P T) : Type 0 where
  pub sound : IsSound view new
  pub bus : bus_of view new ≡ changed effect.change (row_at (rows_of old.living.items) at).number (bus_of view old)
  pub origin : new.origin ≡ old.origin
  pub plans : new.plans ≡ old.plans
  pub kept : IsKept old.living.items new.living.items at
  pub named : (number : ℕ) → Contains old.stale.items number → Contains new.stale.items number

-- The process at an index has advanced: it continues with what the offer leaves, in the offered store with the binds set. The last
-- starter is `last`.
pub record HasGone {W P T : Type 0} (view : View P W T) (old : LiveBus W P T) (at : ℕ) (offered : Offered) (binds : List Bind) (last : ℕ) (new : LiveBus W P T) : Type 0 where
  pub sound : IsSound view new
  pub bus : bus_of view new ≡ record (bus_of view old) {
    procs = advance (row_at (rows_of old.living.items) at).number offered binds (procs_in view old);
    last_starter = last;
  }
  pub origin : new.origin ≡ old.origin

-- the move of a candidate was made
pub record IsMade {W P T : Type 0} (view : View P W T) (old : LiveBus W P T) (candidate : Candidate) (new : LiveBus W P T) : Type 0 where
  pub sound : IsSound view new
  pub bus : bus_of view new ≡ apply (bus_of view old) (move_in view old candidate)
  pub origin : new.origin ≡ old.origin

-- the log has capacity for a step, and memory was taken for it
pub record CanLog (log : LogState) (label : Label) : Type 0 where
  pub room : has_room log.limit log.entries (Did label) ≡ true
  pub spare : 0 < log.spare
  pub reserved : log.reserved ≡ min (terms_size label.terms) MAX

-- the step was logged, and used the spare memory of at most one entry
pub record IsLogged (old : LogState) (label : Label) (new : LogState) : Type 0 where
  pub entries : new.entries ≡ old.entries ++ Did label ∷ []
  pub limit : new.limit ≡ old.limit
  pub spare : old.spare ≤ new.spare + 1

-- The fields represent the bus to which the log leads. The log is a trace within its limit, which is at most `most_entries`. With `n`
-- entries there were at most `n` ticks, the next process number is at most `10001 + n`, and the next tool number at most `1 + n`.
pub record Represents {W P T : Type 0} (view : View P W T) (bus : LiveBus W P T) (log : LogState) : Type 0 where
  pub sound : IsSound view bus
  pub bus_is : bus_of view bus ≡ replay (start bus.origin) log.entries
  pub trace : IsTrace (start bus.origin) log.entries
  pub limit : log.limit ≡ bus.origin.limit
  pub within : length log.entries ≤ log.limit
  pub few : bus.origin.limit ≤ most_entries
  pub ticks : bus.ticks ≤ length log.entries
  pub next : bus.marks.next_number ≤ 10001 + length log.entries
  pub tools : bus.bench.next_tool ≤ 1 + length log.entries
