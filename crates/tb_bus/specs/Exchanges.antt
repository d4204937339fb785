-- An action that speaks with a tool: when it is possible, its label, and the lanes after it.
use Rattle.std.specs.Prelude.{ℕ, ◌&&◌, Bool, List, [], ◌∷◌, ◌++◌, map, drop, if◌then◌else◌, Option, Some, None, option_map, option_and_then, option_to_list, unwrap_or, slice_get}
use Rattle.tb_terms.specs.declared.term.Term.{Term}
use Rattle.tb_terms.specs.Sizes.{is_within_limits}
use Rattle.tb_terms.specs.declared.pattern.Pattern.{Pattern}
use Rattle.tb_match.specs.declared.bind.Bind.{Bind}
use Rattle.tb_match.specs.Matches.{match_list}
use Rattle.tb_body.specs.declared.body.Body.{Body}
use Rattle.tb_body.specs.declared.program.Tool.{Tool as ToolKind}
use Rattle.tb_log.specs.declared.entry.LabelKind.{LabelKind}
use Rattle.tb_log.specs.declared.entry.LabelKind.TheVariants as kind
use Rattle.tb_tools.specs.declared.stage.Stage.{Stage}
use Rattle.tb_tools.specs.declared.stage.Stage.TheVariants.{Waiting, Leaving}
use Rattle.tb_tools.specs.declared.found.FoundEvent.{FoundEvent}
use Rattle.tb_tools.specs.Lanes.{BenchState, tool_at, tool_term, term_of}
use Rattle.tb_tools.specs.Acts.{answer_at, events_at, event_at, is_live_at, is_taken_at, can_leave, can_eval, executed, connected, left, asked, value_taken, told, event_taken, acknowledged, terminated}
use Rattle.tb_tools.specs.Finding.{free_lane, find_tool, first_at, oldest_event, oldest_received}
use Rattle.tb_bus.specs.Slots.{fits_slot}
use Rattle.tb_bus.specs.declared.action.ToolAction.{ToolAction}
use Rattle.tb_bus.specs.declared.action.ToolAction.TheVariants.{Execute, Connect, DisconnectAny, Disconnect, Eval, TakeValue, Do, TakeEvent, Acknowledge, Terminate}
use Rattle.tb_bus.specs.declared.exchange.Exchange.{Exchange}

-- The setting in which a process speaks with a tool: the body of the process, the kinds of tools, and the lanes.
pub record Setting : Type 0 where
  pub body : Option Body
  pub kinds : List ToolKind
  pub bench : BenchState

-- the setting of a process of this body
abbrev pub setting_by : List Body → List ToolKind → BenchState → ℕ → Setting
setting_by bodies kinds bench body = record { body = slice_get bodies body; kinds = kinds; bench = bench }

-- the name of a kind of tool, and its command if it has one
abbrev pub name_of : Option ToolKind → List ℕ
name_of None = []
name_of (Some tool) = tool.name

abbrev pub command_of : Option ToolKind → Option (List ℕ)
command_of None = None
command_of (Some tool) = tool.command

abbrev pub kind_name : Setting → ℕ → List ℕ
kind_name setting tool = name_of (slice_get setting.kinds tool)

abbrev pub kind_command : Setting → ℕ → Option (List ℕ)
kind_command setting tool = command_of (slice_get setting.kinds tool)

-- the term of the tool on a lane
abbrev pub term_on : ℕ → BenchState → Option Term
term_on lane bench = option_map term_of (tool_at lane bench)

-- the exchange on this lane without binds
abbrev pub plain_on : ℕ → Exchange
plain_on lane = record { lane = lane; event = 0; binds = [] }

-- the exchange on this lane that sets the slot to the term
abbrev pub bound_on : ℕ → ℕ → Term → Exchange
bound_on slot lane term = record { lane = lane; event = 0; binds = record { slot = slot; value = term } ∷ [] }

-- The exchange on this lane that sets the slot to the term, if the term is within the limits and has the slot's type. Only the term of a
-- started tool can be too large, since a tool that connects has a shorter name.
abbrev pub binding_on : Setting → ℕ → ℕ → Term → Option Exchange
binding_on setting slot lane term = if is_within_limits term && fits_slot setting.body slot term then Some (bound_on slot lane term) else None

-- the exchange on the lowest free lane that sets the slot to the term of the next tool, with this name
abbrev pub starting : Setting → ℕ → List ℕ → Option Exchange
starting setting slot name =
    option_and_then (λ lane. binding_on setting slot lane (tool_term name setting.bench.next_tool)) (free_lane setting.bench)

-- the exchange on this lane that sets the slot to the term of the lane's tool
abbrev pub taking_tool : Setting → ℕ → ℕ → Option Exchange
taking_tool setting slot lane = option_and_then (binding_on setting slot lane) (term_on lane setting.bench)

-- the exchange with the tool of this kind and stage that has the smallest number, if its term is within the limits and the slot takes it
abbrev pub first_of : Setting → Stage → ℕ → ToolKind → Option Exchange
first_of setting stage slot kind = option_and_then (taking_tool setting slot) (first_at kind.name stage setting.bench)

abbrev pub first_of_kind : Setting → Stage → ℕ → ℕ → Option Exchange
first_of_kind setting stage tool slot = option_and_then (first_of setting stage slot) (slice_get setting.kinds tool)

abbrev pub lane_if : (ℕ → BenchState → Bool) → BenchState → ℕ → Option ℕ
lane_if may bench lane = if may lane bench then Some lane else None

-- the lane of the tool whose term is the first of these, if the condition holds for this lane
abbrev pub lane_of : (ℕ → BenchState → Bool) → BenchState → List Term → Option ℕ
lane_of may bench [] = None
lane_of may bench (tool ∷ terms) = option_and_then (lane_if may bench) (find_tool tool bench)

-- the exchange that takes the answer of the lane's tool, if there is an answer and it matches
abbrev pub value_on : List Pattern → BenchState → ℕ → Option Exchange
value_on patterns bench lane =
    option_and_then (λ value. option_map (λ binds. record { lane = lane; event = 0; binds = binds }) (match_list patterns (value ∷ []))) (answer_at lane bench)

-- the exchange that receives the oldest waiting event on this lane that matches, if there is one
abbrev pub event_on : List Pattern → BenchState → ℕ → Option Exchange
event_on patterns bench lane =
    option_map (λ (found : FoundEvent). record { lane = lane; event = found.place; binds = found.binds }) (oldest_event patterns lane bench)

-- the exchange that acknowledges the oldest received event on this lane with exactly these terms, if there is one
abbrev pub received_on : List Term → BenchState → ℕ → Option Exchange
received_on terms bench lane = option_map (λ place. record { lane = lane; event = place; binds = [] }) (oldest_received terms lane bench)

-- the terms after the tool's own
abbrev pub behind : List Term → List Term
behind = drop 1

-- The exchange of an action, if the action is possible: one line for each atom.
abbrev pub exchange_for : Setting → ToolAction → Option Exchange
-- the kind has a command, a lane is free, and the slot takes the new tool's term, which is within the limits
exchange_for setting (Execute tool slot) = option_and_then (λ command. starting setting slot (kind_name setting tool)) (kind_command setting tool)
-- a tool of the kind waits: the one with the smallest number, if its term is within the limits and the slot takes it
exchange_for setting (Connect tool slot) = first_of_kind setting Waiting tool slot
-- a tool of the kind is leaving: the one with the smallest number, if its term is within the limits and the slot takes it
exchange_for setting (DisconnectAny tool slot) = first_of_kind setting Leaving tool slot
-- the tool is leaving
exchange_for setting (Disconnect terms) = option_map plain_on (lane_of can_leave setting.bench terms)
-- the tool is live, and no evaluation is open
exchange_for setting (Eval terms) = option_map plain_on (lane_of can_eval setting.bench terms)
-- the tool is live or leaving, and its answer is there and matches
exchange_for setting (TakeValue terms patterns) = option_and_then (value_on patterns setting.bench) (lane_of is_taken_at setting.bench terms)
-- the tool is live, and no evaluation is open
exchange_for setting (Do terms) = option_map plain_on (lane_of can_eval setting.bench terms)
-- the tool is live or leaving, and a waiting event of the tool matches
exchange_for setting (TakeEvent terms patterns) = option_and_then (event_on patterns setting.bench) (lane_of is_taken_at setting.bench terms)
-- the tool is live, and has a received event with exactly the terms after the tool's own
exchange_for setting (Acknowledge terms) = option_and_then (received_on (behind terms) setting.bench) (lane_of is_live_at setting.bench terms)
-- the tool is live
exchange_for setting (Terminate terms) = option_map plain_on (lane_of is_live_at setting.bench terms)

-- the kind of the label
abbrev pub kind_of : ToolAction → LabelKind
kind_of (Execute tool slot) = kind.Execute
kind_of (Connect tool slot) = kind.RecConnect
kind_of (DisconnectAny tool slot) = kind.RecDisconnect
kind_of (Disconnect terms) = kind.RecDisconnect
kind_of (Eval terms) = kind.SndEval
kind_of (TakeValue terms patterns) = kind.RecValue
kind_of (Do terms) = kind.SndDo
kind_of (TakeEvent terms patterns) = kind.RecEvent
kind_of (Acknowledge terms) = kind.SndAckEvent
kind_of (Terminate terms) = kind.SndTerminate

abbrev pub values_in : List Bind → List Term
values_in = map (λ (bind : Bind). bind.value)

-- the answer of a lane's tool, if there is one
abbrev pub values_on : ℕ → BenchState → List Term
values_on lane bench = option_to_list (answer_at lane bench)

-- The terms of the label. If the slot takes a tool, the label has the tool's term. Otherwise, it has the tool's term and the terms after
-- it.
abbrev pub terms_seen : Setting → ToolAction → Exchange → List Term
terms_seen setting (Execute tool slot) exchange = values_in exchange.binds
terms_seen setting (Connect tool slot) exchange = values_in exchange.binds
terms_seen setting (DisconnectAny tool slot) exchange = values_in exchange.binds
terms_seen setting (Disconnect terms) exchange = terms
terms_seen setting (Eval terms) exchange = terms
-- followed by the tool's answer
terms_seen setting (TakeValue terms patterns) exchange = terms ++ values_on exchange.lane setting.bench
terms_seen setting (Do terms) exchange = terms
-- followed by the terms of the event
terms_seen setting (TakeEvent terms patterns) exchange = terms ++ event_at exchange.event (events_at exchange.lane setting.bench)
terms_seen setting (Acknowledge terms) exchange = terms
terms_seen setting (Terminate terms) exchange = terms

-- the lanes after this change with the first of these terms; unchanged if there is no term
abbrev pub with_told : (Term → ℕ → BenchState → BenchState) → List Term → ℕ → BenchState → BenchState
with_told change [] lane bench = bench
with_told change (term ∷ terms) lane bench = change term lane bench

-- The lanes after an exchange: one line for each atom.
abbrev pub bench_after : Setting → ToolAction → Exchange → BenchState
-- the lane is started with the command of the kind, and has the new tool, which is live
bench_after setting (Execute tool slot) exchange =
    executed (kind_name setting tool) (unwrap_or (kind_command setting tool) []) exchange.lane setting.bench
-- the waiting tool becomes live
bench_after setting (Connect tool slot) exchange = connected exchange.lane setting.bench
-- the tool leaves its lane, with its events
bench_after setting (DisconnectAny tool slot) exchange = left exchange.lane setting.bench
bench_after setting (Disconnect terms) exchange = left exchange.lane setting.bench
-- the tool is asked, and an evaluation is open
bench_after setting (Eval terms) exchange = with_told asked (behind terms) exchange.lane setting.bench
-- no evaluation is open any more
bench_after setting (TakeValue terms patterns) exchange = value_taken exchange.lane setting.bench
-- the tool is asked to carry out the term
bench_after setting (Do terms) exchange = with_told told (behind terms) exchange.lane setting.bench
-- the event moves to the end of the received events
bench_after setting (TakeEvent terms patterns) exchange = event_taken exchange.event exchange.lane setting.bench
-- the event is removed, and the tool gets the acknowledgement
bench_after setting (Acknowledge terms) exchange = acknowledged exchange.event exchange.lane setting.bench
-- the tool is asked to end, and leaves its lane
bench_after setting (Terminate terms) exchange = with_told terminated (behind terms) exchange.lane setting.bench
