-- The action of an offered atom. For a given atom, it depends only on the offer's store, the offer's age, and the number of ticks.
use Rattle.std.specs.Prelude.{ℕ, Bool, List, [], ◌∷◌, Option, Some, None, option_map, option_and_then, if◌then◌else◌}
use Rattle.tb_terms.specs.declared.term.Term.{Term}
use Rattle.tb_terms.specs.declared.pattern.Pattern.{Pattern}
use Rattle.tb_func.specs.declared.slot.Slot.{Slot}
use Rattle.tb_func.specs.Printing.{printf_of}
use Rattle.tb_match.specs.declared.bind.Bind.{Bind}
use Rattle.tb_body.specs.declared.act.Act.{Act}
use Rattle.tb_body.specs.declared.act.Act.TheVariants.{Delta, Tau, SndMsg, RecMsg, SndNote, RecNote, NoNote, Subscribe, Unsubscribe, Create, Set, Printf, Execute, RecConnect, RecDisconnectAny, RecDisconnect, SndEval, RecValue, SndDo, RecEvent, SndAckEvent, SndTerminate, Shutdown}
use Rattle.tb_body.specs.declared.atom.Atom.{Atom}
use Rattle.tb_process_steps.specs.Atoms.{act_of, times_of, is_ready, values_together, patterns_of}
use Rattle.tb_process_steps.specs.Binds.{takes_bind}
use Rattle.tb_process_steps.specs.Offers.{Offered}
use Rattle.tb_bus.specs.declared.action.Action.{Action}
use Rattle.tb_bus.specs.declared.action.Action.TheVariants as action
use Rattle.tb_bus.specs.declared.action.OwnAction.TheVariants as own
use Rattle.tb_bus.specs.declared.action.ToolAction.{ToolAction}
use Rattle.tb_bus.specs.declared.action.ToolAction.TheVariants as tool_action

-- the action that sets a slot to a value; none if there is no such slot, or the value doesn't have the slot's type
abbrev pub set_bind : List Slot → Bind → Option Action
set_bind store bind = if takes_bind store bind then Some (action.Own (own.Set (bind.value ∷ []) (bind ∷ []))) else None

abbrev pub set_action : List Slot → ℕ → List Term → Option Action
set_action store slot [] = None
set_action store slot (value ∷ []) = set_bind store (record { slot = slot; value = value })
set_action store slot (value ∷ other ∷ values) = None

abbrev pub print_action : Term → Action
print_action text = action.Own (own.Print text)

abbrev pub notify_action : List Term → Action
notify_action terms = action.Own (own.Notify terms)

abbrev pub take_note_action : List Pattern → Action
take_note_action patterns = action.Own (own.TakeNote patterns)

abbrev pub no_note_action : List Pattern → Action
no_note_action patterns = action.Own (own.NoNote patterns)

abbrev pub subscribe_action : List Pattern → Action
subscribe_action patterns = action.Own (own.Subscribe patterns)

abbrev pub unsubscribe_action : List Pattern → Action
unsubscribe_action patterns = action.Own (own.Unsubscribe patterns)

abbrev pub create_action : ℕ → ℕ → List Term → Action
create_action process slot actuals = action.Own (own.Create process actuals slot)

-- the action that speaks with the tool whose term is the first of these values
abbrev pub speak_by : (List Term → ToolAction) → List Term → Action
speak_by does terms = action.Own (own.Speak (does terms))

-- the action that takes terms that match these patterns from the tool whose term is the first of these values; none without patterns
abbrev pub speak_about : (List Term → List Pattern → ToolAction) → Option (List Pattern) → List Term → Option Action
speak_about does patterns terms = option_map (λ those. action.Own (own.Speak (does terms those))) patterns

abbrev pub shutdown_action : List Term → Option Action
shutdown_action [] = None
shutdown_action (reason ∷ []) = Some (action.Own (own.Shutdown reason))
shutdown_action (reason ∷ other ∷ terms) = None

-- The action of an atom in a store: one line for each atom. If an argument has no value or pattern in the store, or the values are too
-- large together, there is no action.
abbrev pub action_in : List Slot → Act → Option Action
-- `delta` never happens
action_in store Delta = None
-- makes a step without another effect
action_in store Tau = Some (action.Own own.Tau)
-- sets the slot to the value
action_in store (Set slot value) = option_and_then (set_action store slot) (values_together store (value ∷ []))
-- prints the text that the format makes of the values, if there is one
action_in store (Printf exprs) = option_map print_action (option_and_then printf_of (values_together store exprs))
-- sends these values to a process that receives them in the same step
action_in store (SndMsg exprs) = option_map action.Send (values_together store exprs)
-- receives terms that match these patterns from a process that sends them in the same step
action_in store (RecMsg exprs) = option_map action.Receive (patterns_of store exprs)
-- sends a note with these values to all processes that have a matching subscription
action_in store (SndNote exprs) = option_map notify_action (values_together store exprs)
-- takes a note that matches these patterns
action_in store (RecNote exprs) = option_map take_note_action (patterns_of store exprs)
-- happens only if no note matches these patterns
action_in store (NoNote exprs) = option_map no_note_action (patterns_of store exprs)
-- adds a subscription with these patterns
action_in store (Subscribe exprs) = option_map subscribe_action (patterns_of store exprs)
-- removes the subscription with these patterns
action_in store (Unsubscribe exprs) = option_map unsubscribe_action (patterns_of store exprs)
-- creates a process with these values as arguments, and sets the slot to its number
action_in store (Create process actuals slot) = option_map (create_action process slot) (values_together store actuals)
-- starts a tool of a kind, connects a waiting tool, or releases a leaving tool; the slot takes the tool's term
action_in store (Execute tool slot) = Some (action.Own (own.Speak (tool_action.Execute tool slot)))
action_in store (RecConnect tool slot) = Some (action.Own (own.Speak (tool_action.Connect tool slot)))
action_in store (RecDisconnectAny tool slot) = Some (action.Own (own.Speak (tool_action.DisconnectAny tool slot)))
-- releases this tool, which is leaving
action_in store (RecDisconnect tool) = option_map (speak_by tool_action.Disconnect) (values_together store (tool ∷ []))
-- asks the tool to evaluate the value; takes the tool's answer if it matches the pattern
action_in store (SndEval tool expr) = option_map (speak_by tool_action.Eval) (values_together store (tool ∷ expr ∷ []))
action_in store (RecValue tool expr) = option_and_then (speak_about tool_action.TakeValue (patterns_of store (expr ∷ []))) (values_together store (tool ∷ []))
-- asks the tool to carry out the value
action_in store (SndDo tool expr) = option_map (speak_by tool_action.Do) (values_together store (tool ∷ expr ∷ []))
-- receives an event of the tool that matches the patterns; acknowledges an event with exactly these values
action_in store (RecEvent tool exprs) = option_and_then (speak_about tool_action.TakeEvent (patterns_of store exprs)) (values_together store (tool ∷ []))
action_in store (SndAckEvent tool exprs) = option_map (speak_by tool_action.Acknowledge) (values_together store (tool ∷ exprs))
-- asks the tool to end, with the value as the reason
action_in store (SndTerminate tool expr) = option_map (speak_by tool_action.Terminate) (values_together store (tool ∷ expr ∷ []))
-- shuts down the bus for this reason
action_in store (Shutdown reason) = option_and_then shutdown_action (values_together store (reason ∷ []))

-- the action of an atom in a store; none if not all of its times hold
abbrev pub action_if : Bool → List Slot → Act → Option Action
action_if ready store act = if ready then action_in store act else None

-- the action of an offered atom of a body with these atoms, after this number of ticks
abbrev pub action_of : List Atom → ℕ → Offered → Option Action
action_of atoms now offered = action_if (is_ready offered.store offered.age now (times_of atoms offered.atom)) offered.store (act_of atoms offered.atom)
