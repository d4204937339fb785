-- The processes of the bus that the running processes represent, for any kind of walkers.
use Rattle.std.specs.Prelude.{◌≡◌, ◌≤◌, ◌<◌, ◌⊎◌, ℕ, List, [], map, Bool, true, false, Option, Some, None, nat_lt, slice_get, Contains}
use Rattle.std.specs.List.{All}
use Rattle.std.specs.List.Sorted.{IsPartitionPoint}
use Rattle.tb_body.specs.declared.atom.Atom.{Atom}
use Rattle.tb_body.specs.declared.body.Body.{Body}
use Rattle.tb_func.specs.declared.slot.Slot.{Slot}
use Rattle.tb_process_steps.specs.Atoms.{times_of}
use Rattle.tb_process_steps.specs.Offers.{Offered}
use Rattle.tb_process_steps.specs.Processes.{Process, At}
use Rattle.tb_process_steps.specs.Walks.{Walking, entering, offers_of, sorts_of, is_end}
use Rattle.tb_process_steps.specs.WalkerViews.{View}
use Rattle.tb_notes.specs.Inboxes.{nothing}
use Rattle.tb_bus.specs.Buses.{Proc}
use Rattle.tb_search.specs.Candidates.{readies}
use Rattle.tb_search.specs.declared.living.Ready.{Ready}
use Rattle.tb_search.specs.declared.living.Living.{Living}
use Rattle.tb_living.specs.Indexes.{IsUnmarked}

-- the offered atom has no times
abbrev pub IsTimeless : List Atom → Offered → Type 0
IsTimeless atoms offered = times_of atoms offered.atom ≡ []

-- The list has the ready actions of the process now. If the process isn't timed, no offered atom has times, so a tick changes none.
pub record IsFreshFor (body : Body) (now : ℕ) (walking : Walking) (timed : Bool) (all : List Ready) : Type 0 where
  pub ready : all ≡ readies body.atoms now 0 (offers_of walking)
  pub lasting : timed ≡ false → All (IsTimeless body.atoms) (offers_of walking)

-- A running process that uses this plan and hasn't ended. If it is fresh, its list of ready actions is right.
pub record IsLiveOn {W P T : Type 0} (view : View P W T) (plan : P) (now : ℕ) (living : Living W) : Type 0 where
  pub is_on : view.is_on plan living.walker
  pub alive : is_end (view.walking plan living.walker).term ≡ false
  pub sorts : sorts_of (view.walking plan living.walker).store ≡ (view.body_of plan).sorts
  -- the process has seen no more ticks than the bus
  pub ticks : (view.walking plan living.walker).ticks ≤ now
  pub ready : living.fresh ≡ true → IsFreshFor (view.body_of plan) now (view.walking plan living.walker) living.timed living.ready.items

-- a running process that uses the plan of its body, and hasn't ended
abbrev pub IsLive : {W P T : Type 0} → View P W T → List P → ℕ → Living W → Type 0
IsLive {P = P} view plans now living = (plan : P) × (slice_get plans living.body ≡ Some plan) × IsLiveOn view plan now living

-- each running process is fresh
abbrev pub AreFresh : {W : Type 0} → List (Living W) → Type 0
AreFresh all = All (λ living. living.fresh ≡ true) all

-- the running process is fresh, or its number is in this list
abbrev pub IsFreshOr : {W : Type 0} → List ℕ → Living W → Type 0
IsFreshOr stale living = (living.fresh ≡ true) ⊎ Contains stale living.number

-- the process has a number below the next number
abbrev pub IsBelow : {W : Type 0} → ℕ → Living W → Type 0
IsBelow next living = living.number < next

-- the index at which the processes with smaller numbers end
abbrev pub IsWhere : {W : Type 0} → ℕ → List (Living W) → ℕ → Type 0
IsWhere number all at = IsPartitionPoint (λ living. nat_lt living.number number ≡ true) (λ living. nat_lt living.number number ≡ false) all at

-- the process term, with a placeholder if the process has ended
abbrev pub term_in : Option Process → Process
term_in None = At 0 0
term_in (Some term) = term

-- the process that a running process represents, if its walker represents this walk
abbrev pub proc_of : {W : Type 0} → Living W → Walking → Proc
proc_of living walking = record { number = living.number; body = living.body; term = term_in walking.term; store = walking.store; inbox = living.inbox.held }

-- the process that a running process represents by this plan, with a placeholder if there is no plan
abbrev pub proc_by : {W P T : Type 0} → View P W T → Option P → Living W → Proc
proc_by view None living = proc_of living (record { term = None; store = []; ticks = 0 })
proc_by view (Some plan) living = proc_of living (view.walking plan living.walker)

-- the process that a running process represents by the plan of its body
abbrev pub proc_in : {W P T : Type 0} → View P W T → List P → Living W → Proc
proc_in view plans living = proc_by view (slice_get plans living.body) living

-- the processes that the running processes represent
abbrev pub procs_of : {W P T : Type 0} → View P W T → List P → List (Living W) → List Proc
procs_of view plans all = map (proc_in view plans) all

-- a new running process with this number (`from`), body (`process`), plan, and store
pub record Begins {W P T : Type 0} (view : View P W T) (plan : P) (from process : ℕ) (store : List Slot) (living : Living W) : Type 0 where
  pub number : living.number ≡ from
  pub body : living.body ≡ process
  pub inbox : living.inbox.held ≡ nothing
  pub walking : view.walking plan living.walker ≡ entering (view.body_of plan) store
  pub live : (now : ℕ) → IsLiveOn view plan now living
  pub unmarked : IsUnmarked living
