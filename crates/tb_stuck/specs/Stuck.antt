-- Processes that wait for good: no step of them can come, whatever tools write and whatever time passes.
use Rattle.std.specs.Prelude.{◌≡◌, ◌≢◌, ℕ, ◌+◌, ◌<◌, ◌≤◌, ◌&&◌, ◌⊎◌, List, [], ◌∷◌, Bool, true, false, Some, None, is_some, Contains, slice_get, ⊤}
use Rattle.std.specs.List.{All, list_any}
use Rattle.std.specs.Str.{bytes_eq}
use Rattle.tb_terms.specs.declared.term.Term.{Term}
use Rattle.tb_terms.specs.declared.pattern.Pattern.{Pattern}
use Rattle.tb_terms.specs.Same.{is_same_terms}
use Rattle.tb_func.specs.declared.slot.Slot.{Slot}
use Rattle.tb_func.specs.Stores.{are_well_sorted}
use Rattle.tb_match.specs.Matches.{match_list}
use Rattle.tb_body.specs.declared.body.Body.{Body}
use Rattle.tb_process_steps.specs.Atoms.{act_of}
use Rattle.tb_process_steps.specs.Processes.{fresh}
use Rattle.tb_process_steps.specs.Offers.{Offered, offers}
use Rattle.tb_process_steps.specs.Transfers.{atoms_of}
use Rattle.tb_process_steps.specs.Walks.{sorts_of}
use Rattle.tb_notes.specs.Inboxes.{Held, wants, oldest_match}
use Rattle.tb_tools.specs.declared.stage.Stage.TheVariants.{Waiting, Live, Leaving}
use Rattle.tb_tools.specs.declared.stage.Eval.{Eval}
use Rattle.tb_tools.specs.declared.stage.Eval.TheVariants.{Closed, Asked, Answered}
use Rattle.tb_tools.specs.Acts.{is_closed}
use Rattle.tb_tools.specs.First.{NoToolAt}
use Rattle.tb_tools.specs.Lanes.{Tool, BenchState, lane_at, tool_at, is_open, tool_term, term_of}
use Rattle.tb_bus.specs.Actions.{action_in, action_of}
use Rattle.tb_bus.specs.Buses as buses
use Rattle.tb_bus.specs.Buses.{Bus, Proc}
use Rattle.tb_bus.specs.Effects.{number_term}
use Rattle.tb_bus.specs.Exchanges.{name_of, behind}
use Rattle.tb_bus.specs.Slots.{fits_formals, fits_slot}
use Rattle.tb_bus.specs.declared.action.Action.{Action}
use Rattle.tb_bus.specs.declared.action.Action.TheVariants.{Own, Send, Receive}
use Rattle.tb_bus.specs.declared.action.OwnAction.{OwnAction}
use Rattle.tb_bus.specs.declared.action.OwnAction.TheVariants as own
use Rattle.tb_bus.specs.declared.action.ToolAction.{ToolAction}
use Rattle.tb_bus.specs.declared.action.ToolAction.TheVariants as tool_action

-- A region of a bus: the numbers of processes that wait for good, and the atoms that are left to all other processes. An atom is given by
-- the index of its body and its number in the body.
pub record Region : Type 0 where
  pub waits : ℕ → Bool
  pub left : ℕ → ℕ → Bool

-- A process that makes no step can come to this action: an offer of it has the action now, or after a number of ticks.
pub record CanCome (bus : Bus) (proc : Proc) (action : Action) : Type 0 where
  pub offered : Offered
  pub ticks : ℕ
  pub there : Contains (offers proc.term proc.store) offered
  pub does : action_of (buses.atoms_of bus.program.bodies proc.body) (bus.now + ticks) (record offered { age = offered.age + ticks }) ≡ Some action

-- A process outside the region may have this action some day: an atom that is left has it, in a store with the types of its body.
pub record MayBeDone (bodies : List Body) (region : Region) (action : Action) : Type 0 where
  pub number : ℕ
  pub body : Body
  pub is : slice_get bodies number ≡ Some body
  pub atom : ℕ
  pub left : region.left number atom ≡ true
  pub store : List Slot
  pub sorts : sorts_of store ≡ body.sorts
  pub values : are_well_sorted store ≡ true
  pub does : action_in store (act_of body.atoms atom) ≡ Some action

-- the atoms that are left have with them all atoms of each process that one of them may create
abbrev pub IsClosed : List Body → Region → Type 0
IsClosed bodies region =
    (process slot atom : ℕ) (actuals : List Term) (body : Body) → MayBeDone bodies region (Own (own.Create process actuals slot))
    → slice_get bodies process ≡ Some body → Contains (atoms_of (fresh body.tree)) atom → region.left process atom ≡ true

-- each tool with this term passes the test, and no tool that starts later has this term
pub record EachTool (Passes : Tool → Type 0) (bench : BenchState) (term : Term) : Type 0 where
  pub now : (lane : ℕ) (tool : Tool) → tool_at lane bench ≡ Some tool → term_of tool ≡ term → Passes tool
  pub later : (name : List ℕ) (number : ℕ) → bench.next_tool ≤ number → tool_term name number ≢ term

-- this holds of the tool whose term is the first of these
abbrev pub OfTool : (Tool → Type 0) → BenchState → List Term → Type 0
OfTool Passes bench [] = ⊤
OfTool Passes bench (term ∷ terms) = EachTool Passes bench term

module _ (bus : Bus) (region : Region) where
  -- a process outside the region may do this some day, or say this to a tool
  abbrev pub MayDo : OwnAction → Type 0
  MayDo does = MayBeDone bus.program.bodies region (Own does)

  abbrev pub MaySay : ToolAction → Type 0
  MaySay does = MayDo (own.Speak does)

  -- no process outside the region asks this tool
  abbrev pub NobodyAsks : Tool → Type 0
  NobodyAsks tool = (terms : List Term) → MaySay (tool_action.Eval (term_of tool ∷ terms)) → ⊥

  -- no process outside the region takes an answer of this tool
  abbrev pub NobodyTakes : Tool → Type 0
  NobodyTakes tool = (terms : List Term) (patterns : List Pattern) → MaySay (tool_action.TakeValue (term_of tool ∷ terms) patterns) → ⊥

  -- no process outside the region receives an event of this tool with these terms
  abbrev pub NobodyReceives : List Term → Tool → Type 0
  NobodyReceives terms tool =
      (more : List Term) (patterns : List Pattern) → MaySay (tool_action.TakeEvent (term_of tool ∷ more) patterns)
      → match_list patterns terms ≡ None

  abbrev pub IsLeaving : Tool → Type 0
  IsLeaving tool = tool.stage ≡ Leaving

  -- the tool is leaving, or has an open evaluation that nobody closes
  abbrev pub IsBusy : Tool → Type 0
  IsBusy tool = IsLeaving tool ⊎ ((is_closed tool.eval ≡ false) × NobodyTakes tool)

  -- no answer that matches these patterns comes from a tool with this evaluation
  abbrev pub NoAnswer : List Pattern → Tool → Eval → Type 0
  NoAnswer patterns tool Closed = NobodyAsks tool
  NoAnswer patterns tool Asked = IsLeaving tool
  NoAnswer patterns tool (Answered value) = (match_list patterns (value ∷ []) ≡ None) × NobodyTakes tool

  -- the tool is leaving, and has no event that matches these patterns
  abbrev pub NoEvent : List Pattern → Tool → Type 0
  NoEvent patterns tool = IsLeaving tool × All (λ event. match_list patterns event ≡ None) tool.events

  -- the tool is leaving, or has no received event with these terms, and nobody receives one
  abbrev pub NoReceived : List Term → Tool → Type 0
  NoReceived terms tool = IsLeaving tool ⊎ ((list_any (is_same_terms terms) tool.received ≡ false) × NobodyReceives terms tool)

  -- the name of a kind of tool
  abbrev pub kind_name : ℕ → List ℕ
  kind_name tool = name_of (slice_get bus.program.tools tool)

  -- each lane that is up and hasn't ended has a tool
  abbrev pub NoLaneIsOpen : Type 0
  NoLaneIsOpen = (lane : ℕ) → is_open (lane_at lane bus.bench) ≡ true → tool_at lane bus.bench ≢ None

  -- no process outside the region starts a tool of this kind, or connects one
  abbrev pub NobodyStarts : ℕ → Type 0
  NobodyStarts tool = (other slot : ℕ) → MaySay (tool_action.Execute other slot) → bytes_eq (kind_name other) (kind_name tool) ≡ false

  abbrev pub NobodyConnects : ℕ → Type 0
  NobodyConnects tool = (other slot : ℕ) → MaySay (tool_action.Connect other slot) → bytes_eq (kind_name other) (kind_name tool) ≡ false

  -- The action with a tool can't come: one line for each atom.
  abbrev pub CantSpeak : ToolAction → Type 0
  CantSpeak (tool_action.Execute tool slot) = ⊥
  -- no tool of the kind waits, and each open lane has a tool
  CantSpeak (tool_action.Connect tool slot) = NoToolAt (kind_name tool) Waiting bus.bench × NoLaneIsOpen
  -- no tool of the kind is live or leaving, and no process outside the region starts or connects one
  CantSpeak (tool_action.DisconnectAny tool slot) =
      NoToolAt (kind_name tool) Live bus.bench × NoToolAt (kind_name tool) Leaving bus.bench × NobodyStarts tool × NobodyConnects tool
  -- the tool is gone
  CantSpeak (tool_action.Disconnect terms) = OfTool (λ tool. ⊥) bus.bench terms
  -- the tool is gone or leaving, or has an open evaluation that nobody closes
  CantSpeak (tool_action.Eval terms) = OfTool IsBusy bus.bench terms
  CantSpeak (tool_action.Do terms) = OfTool IsBusy bus.bench terms
  -- the tool is gone, or no answer that matches comes from it
  CantSpeak (tool_action.TakeValue terms patterns) = OfTool (λ tool. NoAnswer patterns tool tool.eval) bus.bench terms
  -- the tool is gone, or is leaving and has no event that matches
  CantSpeak (tool_action.TakeEvent terms patterns) = OfTool (NoEvent patterns) bus.bench terms
  -- the tool is gone or leaving, or has no such received event and nobody receives one
  CantSpeak (tool_action.Acknowledge terms) = OfTool (NoReceived (behind terms)) bus.bench terms
  -- the tool is gone or leaving
  CantSpeak (tool_action.Terminate terms) = OfTool IsLeaving bus.bench terms

  -- no process outside the region sends a note that these patterns match, for a subscription of this inbox
  abbrev pub NobodyNotifies : List Pattern → Held → Type 0
  NobodyNotifies patterns inbox =
      (terms : List Term) → MayDo (own.Notify terms) → wants inbox terms ≡ true → match_list patterns terms ≡ None

  -- the arguments have the types of the parameters of a process, and the slot takes a number
  abbrev pub fits_new : Proc → ℕ → List Term → ℕ → ℕ → Bool
  fits_new proc process actuals slot number =
      fits_formals (slice_get bus.program.bodies process) actuals
      && fits_slot (slice_get bus.program.bodies proc.body) slot (number_term number)

  -- The action of a process by itself can't come: one line for each atom.
  abbrev pub CantDo : Proc → OwnAction → Type 0
  CantDo proc own.Tau = ⊥
  CantDo proc (own.Set values binds) = ⊥
  CantDo proc (own.Print text) = ⊥
  CantDo proc (own.Notify terms) = ⊥
  -- no note in the queue matches, and nobody sends one that a subscription and these patterns match
  CantDo proc (own.TakeNote patterns) = (oldest_match patterns proc.inbox ≡ None) × NobodyNotifies patterns proc.inbox
  -- a note in the queue matches
  CantDo proc (own.NoNote patterns) = is_some (oldest_match patterns proc.inbox) ≡ true
  CantDo proc (own.Subscribe patterns) = ⊥
  CantDo proc (own.Unsubscribe patterns) = ⊥
  -- the arguments don't have the types of the parameters, or the slot takes no number
  CantDo proc (own.Create process actuals slot) = (number : ℕ) → fits_new proc process actuals slot number ≡ false
  CantDo proc (own.Speak does) = CantSpeak does
  CantDo proc (own.Shutdown reason) = ⊥

  -- no other process of the region comes to receive these terms
  abbrev pub NoneReceives : Proc → List Term → Type 0
  NoneReceives proc terms =
      (other : Proc) (patterns : List Pattern) → Contains bus.procs other → region.waits other.number ≡ true
      → other.number ≢ proc.number → CanCome bus other (Receive patterns) → match_list patterns terms ≡ None

  -- no process outside the region receives these terms, or sends terms that these patterns match
  abbrev pub NobodyHears : List Term → Type 0
  NobodyHears terms = (patterns : List Pattern) → MayBeDone bus.program.bodies region (Receive patterns) → match_list patterns terms ≡ None

  abbrev pub NobodySends : List Pattern → Type 0
  NobodySends patterns = (terms : List Term) → MayBeDone bus.program.bodies region (Send terms) → match_list patterns terms ≡ None

  -- The action can't come. Of two processes in the region, the sender states that its message can't come.
  abbrev pub CantHappen : Proc → Action → Type 0
  CantHappen proc (Own does) = CantDo proc does
  CantHappen proc (Send terms) = NoneReceives proc terms × NobodyHears terms
  CantHappen proc (Receive patterns) = NobodySends patterns

  -- The processes of the region wait for good.
  pub record WaitForGood : Type 0 where
    -- each has begun
    pub begun : (number : ℕ) → region.waits number ≡ true → (0 < number) × (number < bus.next_number)
    -- no action to which one of them can come can happen
    pub stuck : (proc : Proc) (action : Action) → Contains bus.procs proc → region.waits proc.number ≡ true
        → CanCome bus proc action → CantHappen proc action
    -- the atoms of the other processes are left
    pub others : (proc : Proc) (atom : ℕ) → Contains bus.procs proc → region.waits proc.number ≡ false
        → Contains (atoms_of proc.term) atom → region.left proc.body atom ≡ true
    -- and so are all atoms of the processes that these and their successors can create
    pub created : IsClosed bus.program.bodies region

-- the process with this number waits for good: it is in a region whose processes do
pub record WaitsForGood (bus : Bus) (number : ℕ) : Type 0 where
  pub region : Region
  pub waits : region.waits number ≡ true
  pub wait : WaitForGood bus region
