-- The claim of a reason about an offered atom: the named condition of the atom fails. The definitions of the bus state these conditions.
use Rattle.std.specs.Prelude.{◌≡◌, ◌⊎◌, ◌+◌, ◌==◌, nat_lt, ℕ, Bool, true, false, List, [], ◌∷◌, ◌++◌, length, Option, Some, None, is_some, option_and_then, Contains, slice_get, ⊤}
use Rattle.tb_terms.specs.declared.term.Term.{Term}
use Rattle.tb_terms.specs.declared.expr.Expr.{Expr}
use Rattle.tb_terms.specs.declared.pattern.Pattern.{Pattern}
use Rattle.tb_terms.specs.Sizes.{is_within_limits}
use Rattle.tb_match.specs.Matches.{match_list}
use Rattle.tb_func.specs.Printing.{printed, printf_of, shown, str_of}
use Rattle.tb_func.specs.declared.slot.Slot.{Slot}
use Rattle.tb_body.specs.declared.act.Act.{Act}
use Rattle.tb_body.specs.declared.act.Act.TheVariants.{Delta, SndMsg, RecMsg, SndNote, RecNote, NoNote, Create, Set, Printf, Execute, RecConnect, RecDisconnectAny, RecDisconnect, SndEval, RecValue, SndDo, RecEvent, SndAckEvent, SndTerminate}
use Rattle.tb_body.specs.declared.program.Tool.{Tool as ToolKind}
use Rattle.tb_process_steps.specs.Atoms.{act_of, is_ready, matched_exprs, patterns_of, sent_exprs, times_of, values_together}
use Rattle.tb_process_steps.specs.Offers.{Offered, offers}
use Rattle.tb_notes.specs.Inboxes.{oldest_match}
use Rattle.tb_notes.specs.declared.queue.Found.{Found}
use Rattle.tb_tools.specs.declared.stage.Stage.{Stage}
use Rattle.tb_tools.specs.declared.stage.Stage.TheVariants as stage
use Rattle.tb_tools.specs.Acts.{answer_at, can_leave, is_closed, is_live_at, is_taken_at}
use Rattle.tb_tools.specs.Finding.{find_tool, first_at, free_lane, oldest_event, oldest_received}
use Rattle.tb_tools.specs.Inputs.{has_asked}
use Rattle.tb_tools.specs.Lanes.{BenchState, Tool, of_tool, tool_at, tool_term}
use Rattle.tb_bus.specs.Buses.{Bus, Proc, atoms_of}
use Rattle.tb_bus.specs.Effects.{most_alive, number_term, takes_note}
use Rattle.tb_bus.specs.Exchanges.{behind, command_of, name_of, term_on}
use Rattle.tb_bus.specs.Slots.{fits_formals, fits_slot}
use Rattle.tb_bus.specs.Steps.{others}
use Rattle.tb_why.specs.Formats.{is_directive}
use Rattle.tb_why.specs.declared.reason.FormatFault.{FormatFault}
use Rattle.tb_why.specs.declared.reason.FormatFault.TheVariants.{NoFormat, NoDirective, TooFew, Differs, Ends, TooMany, TooLong}
use Rattle.tb_why.specs.declared.reason.Partner.{Partner}
use Rattle.tb_why.specs.declared.reason.Reason.{Reason}
use Rattle.tb_why.specs.declared.reason.Reason.TheVariants as reason

-- the act of the atom of an offer, and whether all its times hold
abbrev pub act_by : Bus → Proc → Offered → Act
act_by bus proc offered = act_of (atoms_of bus.program.bodies proc.body) offered.atom

abbrev pub is_ready_by : Bus → Proc → Offered → Bool
is_ready_by bus proc offered = is_ready offered.store offered.age bus.now (times_of (atoms_of bus.program.bodies proc.body) offered.atom)

-- in this store, the atom has these values, and the atom has these patterns
abbrev pub HasValues : List Slot → Act → List Term → Type 0
HasValues store act terms = values_together store (sent_exprs act) ≡ Some terms

abbrev pub HasPatterns : List Slot → Act → List Pattern → Type 0
HasPatterns store act patterns = patterns_of store (matched_exprs act) ≡ Some patterns

-- Messages.

-- the atom sends these terms, and the atom receives terms that match these patterns
abbrev pub Sends : List Slot → Act → List Term → Type 0
Sends store act terms = (exprs : List Expr) × (act ≡ SndMsg exprs) × HasValues store act terms

abbrev pub Receives : List Slot → Act → List Pattern → Type 0
Receives store act patterns = (exprs : List Expr) × (act ≡ RecMsg exprs) × HasPatterns store act patterns

-- this is another process, and this is one of its offers
abbrev pub IsOther : Bus → Proc → Proc → Offered → Type 0
IsOther bus proc other offer = Contains (others bus proc) other × Contains (offers other.term other.store) offer

-- no offer of another process receives the terms, and no offer of another process sends terms that match, whatever the times of the offer
abbrev pub NobodyTakes : Bus → Proc → List Term → Type 0
NobodyTakes bus proc terms =
    (other : Proc) (offer : Offered) (patterns : List Pattern) → IsOther bus proc other offer → Receives offer.store (act_by bus other offer) patterns → match_list patterns terms ≡ None

abbrev pub NobodyGives : Bus → Proc → List Pattern → Type 0
NobodyGives bus proc patterns = (other : Proc) (offer : Offered) (terms : List Term) → IsOther bus proc other offer → Sends offer.store (act_by bus other offer) terms → match_list patterns terms ≡ None

-- no offer of another process whose times hold receives the terms, and no such offer sends terms that match
abbrev pub NobodyTakesNow : Bus → Proc → List Term → Type 0
NobodyTakesNow bus proc terms =
    (other : Proc) (offer : Offered) (patterns : List Pattern) → IsOther bus proc other offer → is_ready_by bus other offer ≡ true → Receives offer.store (act_by bus other offer) patterns → match_list patterns terms ≡ None

abbrev pub NobodyGivesNow : Bus → Proc → List Pattern → Type 0
NobodyGivesNow bus proc patterns =
    (other : Proc) (offer : Offered) (terms : List Term) → IsOther bus proc other offer → is_ready_by bus other offer ≡ true → Sends offer.store (act_by bus other offer) terms → match_list patterns terms ≡ None

-- the partner is this offer of another process, and the times of the offer don't all hold
abbrev pub IsLater : Bus → Proc → Partner → Proc → Offered → Type 0
IsLater bus proc partner other offer =
    IsOther bus proc other offer × (other.number ≡ partner.process) × (other.body ≡ partner.body) × (offer.atom ≡ partner.atom) × (is_ready_by bus other offer ≡ false)

-- such a partner receives the terms, and such a partner sends terms that match
abbrev pub TakesLater : Bus → Proc → Partner → List Term → Type 0
TakesLater bus proc partner terms =
    (other : Proc) × (offer : Offered) × (patterns : List Pattern) × IsLater bus proc partner other offer × Receives offer.store (act_by bus other offer) patterns × (is_some (match_list patterns terms) ≡ true)

abbrev pub GivesLater : Bus → Proc → Partner → List Pattern → Type 0
GivesLater bus proc partner patterns =
    (other : Proc) × (offer : Offered) × (terms : List Term) × IsLater bus proc partner other offer × Sends offer.store (act_by bus other offer) terms × (is_some (match_list patterns terms) ≡ true)

-- Formats.

-- the format before this rest is printed with the arguments `used`, and the arguments `left` are left
pub record StopsAt (format : List ℕ) (arguments used left : List Term) (rest : List ℕ) : Type 0 where
  pub before : List ℕ
  pub parts : format ≡ before ++ rest
  pub shared : arguments ≡ used ++ left
  pub prints : is_some (printed false before used) ≡ true

-- The fault of a format with these arguments, of which the first has this number: the first place that has no text. 37 is `%`.
abbrev pub FaultsFrom : ℕ → List ℕ → List Term → FormatFault → Type 0
FaultsFrom first format arguments NoFormat = ⊥
-- no term is printed by the letter after the `%`
FaultsFrom first format arguments (NoDirective letter) =
    (used : List Term) × (left : List Term) × (after : List ℕ) × StopsAt format arguments used left (37 ∷ letter ∷ after) × ((letter == 37) ≡ false) × ((t : Term) → shown letter t ≡ None)
-- no argument is left for the letter
FaultsFrom first format arguments (TooFew letter) =
    (used : List Term) × (after : List ℕ) × StopsAt format arguments used [] (37 ∷ letter ∷ after) × ((letter == 37) ≡ false) × (is_directive letter ≡ true)
-- the letter doesn't print the next argument, which has this number
FaultsFrom first format arguments (Differs letter number) =
    (used : List Term) × (t : Term) × (left : List Term) × (after : List ℕ) × StopsAt format arguments used (t ∷ left) (37 ∷ letter ∷ after) × (number ≡ first + length used)
    × ((letter == 37) ≡ false) × (is_directive letter ≡ true) × (shown letter t ≡ None)
-- a `%` is at the end
FaultsFrom first format arguments Ends = (used : List Term) × (left : List Term) × StopsAt format arguments used left (37 ∷ [])
-- an argument is left at the end, and the first such argument has this number
FaultsFrom first format arguments (TooMany number) = (used : List Term) × (t : Term) × (left : List Term) × StopsAt format arguments used (t ∷ left) [] × (number ≡ first + length used)
-- the whole format is printed with all arguments; so the text is too long
FaultsFrom first format arguments TooLong = is_some (printed false format arguments) ≡ true

-- the fault of these arguments with this format; `NoFormat` if there is no format
abbrev pub FaultsBy : Option (List ℕ) → List Term → FormatFault → Type 0
FaultsBy None arguments fault = fault ≡ NoFormat
FaultsBy (Some format) arguments fault = FaultsFrom 1 format arguments fault

-- The fault of these values: the first is the format, and the others are its arguments. If the first is no string, the fault is `NoFormat`.
abbrev pub Faults : List Term → FormatFault → Type 0
Faults [] fault = fault ≡ NoFormat
Faults (first ∷ arguments) fault = FaultsBy (str_of first) arguments fault

-- Tools.

-- the atom sets this slot to a tool of this declaration at this stage
abbrev pub TakesAt : Act → Stage → ℕ → ℕ → Type 0
TakesAt act stage.Waiting tool slot = act ≡ RecConnect tool slot
TakesAt act stage.Live tool slot = ⊥
TakesAt act stage.Leaving tool slot = act ≡ RecDisconnectAny tool slot

-- the lane of the tool with the smallest number among those of this declaration at this stage
abbrev pub first_of_kind_at : Bus → Stage → ℕ → Option ℕ
first_of_kind_at bus stage tool = option_and_then (λ (kind : ToolKind). first_at kind.name stage bus.bench) (slice_get bus.program.tools tool)

-- The atom would set the slot to this term: the term of the tool that it would start, or of the tool that it would take.
abbrev pub Takes : Bus → Act → ℕ → Term → Type 0
Takes bus act slot term =
    ((tool : ℕ) × (lane : ℕ) × (act ≡ Execute tool slot) × (free_lane bus.bench ≡ Some lane) × (term ≡ tool_term (name_of (slice_get bus.program.tools tool)) bus.bench.next_tool))
    ⊎ ((at : Stage) × (tool : ℕ) × (lane : ℕ) × TakesAt act at tool slot × (first_of_kind_at bus at tool ≡ Some lane) × (term_on lane bus.bench ≡ Some term))

-- whether an atom speaks with a tool on a lane, which is the first of its values
abbrev pub speaks : Act → Bool
speaks (RecDisconnect tool) = true
speaks (SndEval tool expr) = true
speaks (RecValue tool expr) = true
speaks (SndDo tool expr) = true
speaks (RecEvent tool exprs) = true
speaks (SndAckEvent tool exprs) = true
speaks (SndTerminate tool expr) = true
speaks act = false

-- whether an atom can happen only if no evaluation is open
abbrev pub asks : Act → Bool
asks (SndEval tool expr) = true
asks (SndDo tool expr) = true
asks act = false

-- whether the tool of the lane is at a stage at which the atom may happen
abbrev pub may_on : Act → ℕ → BenchState → Bool
may_on (RecDisconnect tool) lane bench = can_leave lane bench
may_on (SndEval tool expr) lane bench = is_live_at lane bench
may_on (RecValue tool expr) lane bench = is_taken_at lane bench
may_on (SndDo tool expr) lane bench = is_live_at lane bench
may_on (RecEvent tool exprs) lane bench = is_taken_at lane bench
may_on (SndAckEvent tool exprs) lane bench = is_live_at lane bench
may_on (SndTerminate tool expr) lane bench = is_live_at lane bench
may_on act lane bench = true

-- the tool with which the atom speaks is on this lane
abbrev pub SpeaksOn : BenchState → List Slot → Act → ℕ → Type 0
SpeaksOn bench store act lane = (tool : Term) × (terms : List Term) × (speaks act ≡ true) × HasValues store act (tool ∷ terms) × (find_tool tool bench ≡ Some lane)

-- the tool with which the atom speaks is on this lane, at a stage at which the atom may happen
abbrev pub MaySpeakOn : BenchState → List Slot → Act → ℕ → Type 0
MaySpeakOn bench store act lane = SpeaksOn bench store act lane × (may_on act lane bench ≡ true)

-- on this lane, no answer has come for the `rec-value`, or no waiting event matches the `rec-event`
abbrev pub NothingOn : BenchState → List Slot → Act → ℕ → Type 0
NothingOn bench store act lane =
    ((tool : Expr) × (expr : Expr) × (act ≡ RecValue tool expr) × (answer_at lane bench ≡ None))
    ⊎ ((tool : Expr) × (exprs : List Expr) × (patterns : List Pattern) × (act ≡ RecEvent tool exprs) × HasPatterns store act patterns × (oldest_event patterns lane bench ≡ None))

-- The condition that a reason names fails, for an offer whose atom has this act: one equation for each reason.
abbrev pub FailsBy : Bus → Proc → Offered → Act → Reason → Type 0
-- the bus has shut down
FailsBy bus proc offered act reason.Down = bus.down ≡ true
-- the times don't all hold
FailsBy bus proc offered act reason.Times = is_ready_by bus proc offered ≡ false
-- the atom is `delta`, which never happens
FailsBy bus proc offered act reason.Never = act ≡ Delta
-- the values of the atom don't exist, or its patterns don't exist
FailsBy bus proc offered act reason.NoValue = values_together offered.store (sent_exprs act) ≡ None
FailsBy bus proc offered act reason.NoPattern = patterns_of offered.store (matched_exprs act) ≡ None
-- the slot of the body doesn't take the value
FailsBy bus proc offered act reason.WrongSort =
    (slot : ℕ) × (expr : Expr) × (value : Term) × (act ≡ Set slot expr) × HasValues offered.store act (value ∷ []) × (fits_slot (slice_get bus.program.bodies proc.body) slot value ≡ false)
-- `printf` has no text for the values
FailsBy bus proc offered act (reason.NoText fault) = (exprs : List Expr) × (terms : List Term) × (act ≡ Printf exprs) × HasValues offered.store act terms × (printf_of terms ≡ None) × Faults terms fault
-- an offer of another process receives the message, or sends one that matches, but its times don't all hold; no offer whose times hold does
FailsBy bus proc offered act (reason.PartnerWaits partner) =
    ((terms : List Term) × Sends offered.store act terms × TakesLater bus proc partner terms × NobodyTakesNow bus proc terms)
    ⊎ ((patterns : List Pattern) × Receives offered.store act patterns × GivesLater bus proc partner patterns × NobodyGivesNow bus proc patterns)
-- no offer of another process receives the message, or none sends one that matches, whatever the times of the offer
FailsBy bus proc offered act reason.NobodyReceives = (terms : List Term) × Sends offered.store act terms × NobodyTakes bus proc terms
FailsBy bus proc offered act reason.NobodySends = (patterns : List Pattern) × Receives offered.store act patterns × NobodyGives bus proc patterns
-- the process with this number wants the note, and its queue has no capacity for it
FailsBy bus proc offered act (reason.QueueFull number) =
    (exprs : List Expr) × (terms : List Term) × (other : Proc) × (act ≡ SndNote exprs) × HasValues offered.store act terms × Contains bus.procs other × (other.number ≡ number) × (takes_note terms other.inbox ≡ false)
-- no note of the process's own queue matches (`rec-note`), or the oldest one that matches is at this position (`no-note`)
FailsBy bus proc offered act reason.NoNote = (exprs : List Expr) × (patterns : List Pattern) × (act ≡ RecNote exprs) × HasPatterns offered.store act patterns × (oldest_match patterns proc.inbox ≡ None)
FailsBy bus proc offered act (reason.NoteWaits place) =
    (exprs : List Expr) × (patterns : List Pattern) × (found : Found) × (act ≡ NoNote exprs) × HasPatterns offered.store act patterns × (oldest_match patterns proc.inbox ≡ Some found) × (found.place ≡ place)
-- as many processes live as may live, or the arguments don't have the types of the parameters, or the slot doesn't take the new number
FailsBy bus proc offered act reason.TooMany = (process : ℕ) × (exprs : List Expr) × (slot : ℕ) × (act ≡ Create process exprs slot) × (nat_lt (length bus.procs) most_alive ≡ false)
FailsBy bus proc offered act reason.WrongActuals =
    (process : ℕ) × (exprs : List Expr) × (slot : ℕ) × (terms : List Term) × (act ≡ Create process exprs slot) × HasValues offered.store act terms × (fits_formals (slice_get bus.program.bodies process) terms ≡ false)
FailsBy bus proc offered act reason.NoNumber =
    (process : ℕ) × (exprs : List Expr) × (slot : ℕ) × (act ≡ Create process exprs slot) × (fits_slot (slice_get bus.program.bodies proc.body) slot (number_term bus.next_number) ≡ false)
-- the tool that the atom starts has no command, or no lane is free
FailsBy bus proc offered act reason.NoCommand = (tool : ℕ) × (slot : ℕ) × (act ≡ Execute tool slot) × (command_of (slice_get bus.program.tools tool) ≡ None)
FailsBy bus proc offered act reason.NoLane = (tool : ℕ) × (slot : ℕ) × (act ≡ Execute tool slot) × (free_lane bus.bench ≡ None)
-- no tool of the declaration that the atom names is at this stage
FailsBy bus proc offered act (reason.NoneAt at) = (tool : ℕ) × (slot : ℕ) × TakesAt act at tool slot × (first_of_kind_at bus at tool ≡ None)
-- the term of the tool isn't within the limits, or the slot of the body doesn't take the term
FailsBy bus proc offered act reason.ToolTooLarge = (slot : ℕ) × (term : Term) × Takes bus act slot term × (is_within_limits term ≡ false)
FailsBy bus proc offered act reason.WrongTool = (slot : ℕ) × (term : Term) × Takes bus act slot term × (fits_slot (slice_get bus.program.bodies proc.body) slot term ≡ false)
-- the tool with which the atom speaks is on no lane
FailsBy bus proc offered act reason.NoTool = (tool : Term) × (terms : List Term) × (speaks act ≡ true) × HasValues offered.store act (tool ∷ terms) × (find_tool tool bus.bench ≡ None)
-- the tool of the lane is at this stage, at which the atom can't happen
FailsBy bus proc offered act (reason.AtStage lane at) =
    SpeaksOn bus.bench offered.store act lane × ((tool : Tool) × (tool_at lane bus.bench ≡ Some tool) × (tool.stage ≡ at)) × (may_on act lane bus.bench ≡ false)
-- From here on, the tool of the lane is at a stage at which the atom may happen.
-- An evaluation is open, and no answer has come; or an answer has come, and no process has received it.
FailsBy bus proc offered act (reason.EvalOpen lane) = MaySpeakOn bus.bench offered.store act lane × (asks act ≡ true) × (has_asked (tool_at lane bus.bench) ≡ true)
FailsBy bus proc offered act (reason.AnswerWaits lane) = MaySpeakOn bus.bench offered.store act lane × (asks act ≡ true) × ((value : Term) × (answer_at lane bus.bench ≡ Some value))
-- the tool is leaving; and no answer has come (`rec-value`), or no waiting event matches (`rec-event`)
FailsBy bus proc offered act (reason.Ended lane) = MaySpeakOn bus.bench offered.store act lane × (can_leave lane bus.bench ≡ true) × NothingOn bus.bench offered.store act lane
-- the tool isn't leaving, and no evaluation is open (`NotAsked`), or one is open and no answer has come (`NotAnswered`); or an answer has
-- come, but doesn't match (`AnswerDiffers`)
FailsBy bus proc offered act (reason.NotAsked lane) =
    MaySpeakOn bus.bench offered.store act lane × ((tool : Expr) × (expr : Expr) × (act ≡ RecValue tool expr)) × (can_leave lane bus.bench ≡ false) × (of_tool (λ tool. is_closed tool.eval) (tool_at lane bus.bench) ≡ true)
FailsBy bus proc offered act (reason.NotAnswered lane) =
    MaySpeakOn bus.bench offered.store act lane × ((tool : Expr) × (expr : Expr) × (act ≡ RecValue tool expr)) × (can_leave lane bus.bench ≡ false) × (has_asked (tool_at lane bus.bench) ≡ true)
FailsBy bus proc offered act (reason.AnswerDiffers lane) =
    MaySpeakOn bus.bench offered.store act lane × ((tool : Expr) × (expr : Expr) × (act ≡ RecValue tool expr))
    × ((patterns : List Pattern) × (value : Term) × HasPatterns offered.store act patterns × (answer_at lane bus.bench ≡ Some value) × (match_list patterns (value ∷ []) ≡ None))
-- the tool isn't leaving, and no waiting event matches
FailsBy bus proc offered act (reason.NoEvent lane) =
    MaySpeakOn bus.bench offered.store act lane × ((tool : Expr) × (exprs : List Expr) × (act ≡ RecEvent tool exprs)) × (can_leave lane bus.bench ≡ false)
    × ((patterns : List Pattern) × HasPatterns offered.store act patterns × (oldest_event patterns lane bus.bench ≡ None))
-- no received event has exactly the terms after the first, which is the tool
FailsBy bus proc offered act (reason.NotReceived lane) =
    MaySpeakOn bus.bench offered.store act lane × ((tool : Expr) × (exprs : List Expr) × (act ≡ SndAckEvent tool exprs))
    × ((terms : List Term) × HasValues offered.store act terms × (oldest_received (behind terms) lane bus.bench ≡ None))

-- The conditions before that of the reason hold, in this order: the bus is up, the times hold, the values exist, and the patterns exist.
abbrev pub HoldsBefore : Bus → Proc → Offered → Act → Reason → Type 0
HoldsBefore bus proc offered act reason.Down = ⊤
HoldsBefore bus proc offered act reason.Times = bus.down ≡ false
HoldsBefore bus proc offered act reason.NoValue = (bus.down ≡ false) × (is_ready_by bus proc offered ≡ true)
HoldsBefore bus proc offered act reason.NoPattern = (bus.down ≡ false) × (is_ready_by bus proc offered ≡ true) × (is_some (values_together offered.store (sent_exprs act)) ≡ true)
HoldsBefore bus proc offered act other =
    (bus.down ≡ false) × (is_ready_by bus proc offered ≡ true) × (is_some (values_together offered.store (sent_exprs act)) ≡ true) × (is_some (patterns_of offered.store (matched_exprs act)) ≡ true)

-- For an offered atom, the condition that a reason names fails, and the conditions of `HoldsBefore` hold.
abbrev pub Fails : Bus → Proc → Offered → Reason → Type 0
Fails bus proc offered reason = HoldsBefore bus proc offered (act_by bus proc offered) reason × FailsBy bus proc offered (act_by bus proc offered) reason
