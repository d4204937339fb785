-- The required data of an index for the rows of a search, so that the search asks only the processes that the index names.
use Rattle.std.specs.Prelude.{◌≡◌, ℕ, ◌≤◌, ◌<◌, ◌&&◌, List, [], ◌∷◌, ◌++◌, length, Bool, true, false, not, Option, Some, None, is_some}
use Rattle.std.specs.List.{All}
use Rattle.tb_index.specs.Marks.{sent_mark, received_mark}
use Rattle.tb_index.specs.Indexes.{IndexState, sends, receives, is_awake}
use Rattle.tb_index.specs.declared.mark.Mark.{Mark}
use Rattle.tb_notes.specs.Inboxes.{Held, oldest_match}
use Rattle.tb_bus.specs.Exchanges.{Setting, exchange_for}
use Rattle.tb_search.specs.Candidates.{Row, row_at}
use Rattle.tb_bus.specs.declared.action.Action.{Action}
use Rattle.tb_bus.specs.declared.action.Action.TheVariants as action
use Rattle.tb_bus.specs.declared.action.OwnAction.{OwnAction}
use Rattle.tb_bus.specs.declared.action.OwnAction.TheVariants as own
use Rattle.tb_search.specs.declared.living.Ready.{Ready}

-- the mark of the message that an action sends
abbrev pub sent_by : Action → List Mark
sent_by (action.Own own) = []
sent_by (action.Send terms) = sent_mark terms ∷ []
sent_by (action.Receive patterns) = []

-- the mark of the patterns under which an action receives
abbrev pub received_by : Action → List Mark
received_by (action.Own own) = []
received_by (action.Send terms) = []
received_by (action.Receive patterns) = received_mark patterns ∷ []

-- the marks of all messages that a process is ready to send
abbrev pub sent_marks : List Ready → List Mark
sent_marks [] = []
sent_marks (ready ∷ others) = sent_by ready.action ++ sent_marks others

-- the marks under which a process is ready to receive
abbrev pub received_marks : List Ready → List Mark
received_marks [] = []
received_marks (ready ∷ others) = received_by ready.action ++ received_marks others

-- the index has the marks of each message that a process is ready to send, and of each receive that it is ready for
pub record IsIndexed (index : IndexState) (row : Row) : Type 0 where
  pub sent : All (λ (mark : Mark). sends index mark row.number ≡ true) (sent_marks row.ready)
  pub received : All (λ (mark : Mark). receives index mark row.number ≡ true) (received_marks row.ready)

-- the index has these marks of each process
pub record AreIndexed (index : IndexState) (rows : List Row) : Type 0 where
  pub each : All (IsIndexed index) rows

-- Whether an action that a process does by itself rests: its own queue or the lanes don't permit it now. It waits for a note, until no
-- note matches, or for a tool. Every other action never rests, not even a `snd-note` or a `create` that can't happen now.
abbrev pub own_rests : Setting → Held → OwnAction → Bool
own_rests setting held own.Tau = false
own_rests setting held (own.Set values binds) = false
own_rests setting held (own.Print text) = false
own_rests setting held (own.Notify terms) = false
own_rests setting held (own.TakeNote patterns) = not (is_some (oldest_match patterns held))
own_rests setting held (own.NoNote patterns) = is_some (oldest_match patterns held)
own_rests setting held (own.Subscribe patterns) = false
own_rests setting held (own.Unsubscribe patterns) = false
own_rests setting held (own.Create process actuals slot) = false
own_rests setting held (own.Speak does) = not (is_some (exchange_for setting does))
own_rests setting held (own.Shutdown reason) = false

-- Whether an action rests. A send and a receive always rest. For an action that a process does by itself, `own_rests` determines this.
abbrev pub rests : Setting → Held → Action → Bool
rests setting held (action.Own own) = own_rests setting held own
rests setting held (action.Send terms) = true
rests setting held (action.Receive patterns) = true

-- whether all these actions rest
abbrev pub all_rest : Setting → Held → List Ready → Bool
all_rest setting held [] = true
all_rest setting held (ready ∷ others) = rests setting held ready.action && all_rest setting held others

-- if a process isn't awake, all actions that it is ready for rest, in the setting of its body
abbrev pub SleepsAtRest : (ℕ → Setting) → IndexState → Row → Type 0
SleepsAtRest settings index row = is_awake index row.number ≡ false → all_rest (settings row.body) row.inbox row.ready ≡ true

-- The index has the marks of each process. All actions of a process that isn't awake rest.
pub record IsIndexFor (settings : ℕ → Setting) (index : IndexState) (rows : List Row) : Type 0 where
  pub each : All (IsIndexed index) rows
  pub asleep : All (SleepsAtRest settings index) rows

-- the first place whose number isn't below `number`, or none
abbrev pub IsPlaceOf : List Row → ℕ → Option ℕ → Type 0
IsPlaceOf rows number None = (place : ℕ) → place < length rows → (row_at rows place).number < number
IsPlaceOf rows number (Some found) =
    (found < length rows) × (number ≤ (row_at rows found).number) × ((place : ℕ) → place < found → (row_at rows place).number < number)

-- the place for a number that an index found; none if the index found none
abbrev pub IsPlaceIf : List Row → Option ℕ → Option ℕ → Type 0
IsPlaceIf rows None place = place ≡ None
IsPlaceIf rows (Some number) place = IsPlaceOf rows number place

-- A place from `from` on, or none. For the numbers of the rows from `from` on and before the place, `holds` is false. If there is no
-- place, `holds` is false for the numbers of all rows from `from` on.
abbrev pub IsNextPlace : (ℕ → Bool) → List Row → ℕ → Option ℕ → Type 0
IsNextPlace holds rows from None = (place : ℕ) → from ≤ place → place < length rows → holds (row_at rows place).number ≡ false
IsNextPlace holds rows from (Some found) =
    (from ≤ found) × (found < length rows) × ((place : ℕ) → from ≤ place → place < found → holds (row_at rows place).number ≡ false)

-- A place from `from` on, or none. The rows from `from` on and before the place lead to nothing. If there is no place, all rows from
-- `from` on lead to nothing.
abbrev pub IsNextOf : {A : Type 0} → (ℕ → Row → List A) → List Row → ℕ → Option ℕ → Type 0
IsNextOf leads rows from None = (place : ℕ) → from ≤ place → place < length rows → leads place (row_at rows place) ≡ []
IsNextOf leads rows from (Some found) =
    (from ≤ found) × (found < length rows) × ((place : ℕ) → from ≤ place → place < found → leads place (row_at rows place) ≡ [])
