-- When an index is right for the running processes.
use Rattle.std.specs.Prelude.{◌≡◌, ◌==◌, ◌||◌, ◌&&◌, ℕ, ◌+◌, ℤ, pos, negsuc, List, [], ◌∷◌, ◌++◌, Bool, true, false, not, Option, Some, None, is_some}
use Rattle.std.specs.List.{All}
use Rattle.tb_terms.specs.declared.term.Term.{Term, out-Term}
use Rattle.tb_terms.specs.declared.term.Term.TheOpen.{Term-F}
use Rattle.tb_terms.specs.declared.term.Term.TheOpen as term
use Rattle.tb_index.specs.Indexes.{HasRoom, IndexState, is_awake, receives, sends}
use Rattle.tb_index.specs.Marks.{has_mark, received_mark}
use Rattle.tb_index.specs.declared.mark.Mark.{Mark}
use Rattle.tb_notes.specs.Inboxes.{Held, oldest_match}
use Rattle.tb_bus.specs.Exchanges.{Setting, exchange_for}
use Rattle.tb_search.specs.Candidates.{Row, row_at, row_of, rows_of}
use Rattle.tb_search.specs.Indexed.{sent_marks}
use Rattle.tb_bus.specs.declared.action.Action.{Action}
use Rattle.tb_bus.specs.declared.action.Action.TheVariants as action
use Rattle.tb_bus.specs.declared.action.OwnAction.{OwnAction}
use Rattle.tb_bus.specs.declared.action.OwnAction.TheVariants as own
use Rattle.tb_bus.specs.declared.action.ToolAction.{ToolAction}
use Rattle.tb_bus.specs.declared.action.ToolAction.TheVariants as tool
use Rattle.tb_search.specs.declared.living.Ready.{Ready}
use Rattle.tb_search.specs.declared.living.Living.{Living}

-- the index keeps its data about the process with a number, and its capacity for this process
pub record KeepsOf (old new : IndexState) (number : ℕ) : Type 0 where
  pub sent : (mark : Mark) → sends new mark number ≡ sends old mark number
  pub received : (mark : Mark) → receives new mark number ≡ receives old mark number
  pub awake : is_awake new number ≡ is_awake old number
  pub room : HasRoom old number → HasRoom new number

-- the index has no mark of the process with a number, and doesn't list it as awake
pub record HasNothing (index : IndexState) (number : ℕ) : Type 0 where
  pub sent : (mark : Mark) → sends index mark number ≡ false
  pub received : (mark : Mark) → receives index mark number ≡ false
  pub asleep : is_awake index number ≡ false

-- The mark of all processes that are ready to speak with tools. No message has it. After a change of a lane, it finds these processes.
abbrev pub tool_mark : Mark
tool_mark = record { count = 18446744073709551615; head = 1 }

-- The mark of the processes that are ready to speak with the tool with a number. If nothing but this tool's value or events changes,
-- it finds these processes.
abbrev pub number_mark : ℕ → Mark
number_mark number = record { count = 18446744073709551615; head = 2 + number }

-- a number that isn't negative
abbrev pub natural : ℤ → Option ℕ
natural (pos n) = Some n
natural (negsuc n) = None

abbrev pub natural_in : Term-F Term → Option ℕ
natural_in (term.Int number) = natural number
natural_in (term.Str bytes) = None
natural_in (term.Appl name parts) = None
natural_in (term.List parts) = None

-- the first of these arguments, if it is a number that isn't negative
abbrev pub first_number : List Term → Option ℕ
first_number [] = None
first_number (part ∷ parts) = natural_in (out-Term part)

-- the first argument of a name, if it is a number that isn't negative
abbrev pub number_by : Term-F Term → Option ℕ
number_by (term.Int number) = None
number_by (term.Str bytes) = None
number_by (term.Appl name parts) = first_number parts
number_by (term.List parts) = None

-- the number of the tool that a term names, if it names one: the first argument of a name
abbrev pub number_of : Term → Option ℕ
number_of term = number_by (out-Term term)

-- the number of the tool that the first of these terms names, if it names one
abbrev pub number_among : List Term → Option ℕ
number_among [] = None
number_among (term ∷ terms) = number_of term

-- the number of the tool with which an action speaks, if the action names one
abbrev pub number_in : ToolAction → Option ℕ
number_in (tool.Execute kind slot) = None
number_in (tool.Connect kind slot) = None
number_in (tool.DisconnectAny kind slot) = None
number_in (tool.Disconnect terms) = number_among terms
number_in (tool.Eval terms) = number_among terms
number_in (tool.TakeValue terms patterns) = number_among terms
number_in (tool.Do terms) = number_among terms
number_in (tool.TakeEvent terms patterns) = number_among terms
number_in (tool.Acknowledge terms) = number_among terms
number_in (tool.Terminate terms) = number_among terms

-- the mark of the named tool, if one is named
abbrev pub number_marks : Option ℕ → List Mark
number_marks None = []
number_marks (Some number) = number_mark number ∷ []

-- the part of an own action that speaks with a tool, if there is one
abbrev pub spoken_in : OwnAction → Option ToolAction
spoken_in own.Tau = None
spoken_in (own.Set values binds) = None
spoken_in (own.Print text) = None
spoken_in (own.Notify terms) = None
spoken_in (own.TakeNote patterns) = None
spoken_in (own.NoNote patterns) = None
spoken_in (own.Subscribe patterns) = None
spoken_in (own.Unsubscribe patterns) = None
spoken_in (own.Create process actuals slot) = None
spoken_in (own.Speak does) = Some does
spoken_in (own.Shutdown reason) = None

-- the marks of tools of an action: the common mark, and that of the named tool
abbrev pub tool_marks : Option ToolAction → List Mark
tool_marks None = []
tool_marks (Some does) = tool_mark ∷ number_marks (number_in does)

-- the marks under which an index lists an action as a receiver: the mark of its patterns, or its marks of tools
abbrev pub found_by : Action → List Mark
found_by (action.Own own) = tool_marks (spoken_in own)
found_by (action.Send terms) = []
found_by (action.Receive patterns) = received_mark patterns ∷ []

-- the marks under which an index lists these actions as receivers
abbrev pub found_marks : List Ready → List Mark
found_marks [] = []
found_marks (ready ∷ others) = found_by ready.action ++ found_marks others

-- the index has the marks of the ready actions of a process
pub record IsMarked (index : IndexState) (row : Row) : Type 0 where
  pub sent : All (λ (mark : Mark). sends index mark row.number ≡ true) (sent_marks row.ready)
  pub received : All (λ (mark : Mark). receives index mark row.number ≡ true) (found_marks row.ready)

-- The index has exactly the marks that a running process keeps, and capacity for the process. If the process is fresh, the marks of its
-- ready actions are among them.
pub record IsRightFor {W : Type 0} (index : IndexState) (living : Living W) : Type 0 where
  pub sent : (mark : Mark) → sends index mark living.number ≡ has_mark living.marks.sends.items mark
  pub received : (mark : Mark) → receives index mark living.number ≡ has_mark living.marks.receives.items mark
  pub room : HasRoom index living.number
  pub fresh : living.fresh ≡ true → IsMarked index (row_of living)

-- Whether an own action rests by the inbox of its process. An action that speaks with tools does: tools aren't judged here.
abbrev pub own_rests_with : Held → OwnAction → Bool
own_rests_with held own.Tau = false
own_rests_with held (own.Set values binds) = false
own_rests_with held (own.Print text) = false
own_rests_with held (own.Notify terms) = false
own_rests_with held (own.TakeNote patterns) = not (is_some (oldest_match patterns held))
own_rests_with held (own.NoNote patterns) = is_some (oldest_match patterns held)
own_rests_with held (own.Subscribe patterns) = false
own_rests_with held (own.Unsubscribe patterns) = false
own_rests_with held (own.Create process actuals slot) = false
own_rests_with held (own.Speak does) = true
own_rests_with held (own.Shutdown reason) = false

-- whether an action rests by the inbox of its process: neither tools nor partners are judged here
abbrev pub rests_with : Held → Action → Bool
rests_with held (action.Own own) = own_rests_with held own
rests_with held (action.Send terms) = true
rests_with held (action.Receive patterns) = true

-- whether no exchange with a tool is possible for an action
abbrev pub is_silent : Setting → Option ToolAction → Bool
is_silent setting None = true
is_silent setting (Some does) = not (is_some (exchange_for setting does))

-- Whether no exchange with a tool is possible for an action. This includes each action that doesn't speak with tools.
abbrev pub rests_among : Setting → Action → Bool
rests_among setting (action.Own own) = is_silent setting (spoken_in own)
rests_among setting (action.Send terms) = true
rests_among setting (action.Receive patterns) = true

-- whether all these actions rest by the inbox of their process
abbrev pub rest_with : Held → List Ready → Bool
rest_with held [] = true
rest_with held (ready ∷ others) = rests_with held ready.action && rest_with held others

-- whether no exchange with a tool is possible for any of these actions
abbrev pub rest_among : Setting → List Ready → Bool
rest_among setting [] = true
rest_among setting (ready ∷ others) = rests_among setting ready.action && rest_among setting others

-- If a running process is fresh and not awake, all its actions rest by its inbox. If the tools haven't changed since either (`stirred`
-- is false), no exchange with a tool is possible for any of them.
pub record IsRested {W : Type 0} (settings : ℕ → Setting) (stirred : Bool) (index : IndexState) (living : Living W) : Type 0 where
  pub queue : living.fresh ≡ true → is_awake index living.number ≡ false → rest_with living.inbox.held living.ready.items ≡ true
  pub tools : stirred ≡ false → living.fresh ≡ true → is_awake index living.number ≡ false → rest_among (settings living.body) living.ready.items ≡ true

-- each process that the old index lists as awake is awake in the new one
abbrev pub AreStillAwake : IndexState → IndexState → Type 0
AreStillAwake old new = (number : ℕ) → is_awake old number ≡ true → is_awake new number ≡ true

-- the process at an index of the list is awake
abbrev pub IsAwakeAt : {W : Type 0} → IndexState → List (Living W) → ℕ → Type 0
IsAwakeAt index all at = is_awake index (row_at (rows_of all) at).number ≡ true

-- whether one of the running processes has this number
abbrev pub is_alive : {W : Type 0} → ℕ → List (Living W) → Bool
is_alive number [] = false
is_alive number (living ∷ all) = (living.number == number) || is_alive number all

-- the index is right for each running process, and has nothing of any other process
pub record IsRightForAll {W : Type 0} (index : IndexState) (all : List (Living W)) : Type 0 where
  pub each : All (IsRightFor index) all
  pub others : (number : ℕ) → is_alive number all ≡ false → HasNothing index number

-- a process without marks that isn't fresh: it was never looked at
pub record IsUnmarked {W : Type 0} (living : Living W) : Type 0 where
  pub sends : living.marks.sends.items ≡ []
  pub receives : living.marks.receives.items ≡ []
  pub stale : living.fresh ≡ false
