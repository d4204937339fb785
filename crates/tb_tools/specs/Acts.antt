-- The effects of atoms, a shutdown, and an output on the lanes and their tools: when each is possible, and the bench after it.
use Rattle.std.specs.Prelude.{ℕ, nat_lt, Bool, true, false, ◌&&◌, ◌||◌, List, [], ◌∷◌, ◌++◌, length, map, drop, remove, slice_index_or, Option, Some, None, is_some, codes, if◌then◌else◌}
use Rattle.tb_terms.specs.declared.term.Term.{Term}
use Rattle.tb_terms.specs.declared.term.Term.TheVariants.{Appl}
use Rattle.tb_log.specs.declared.entry.Out.{Out}
use Rattle.tb_log.specs.declared.entry.Out.TheVariants.{Line, End}
use Rattle.tb_tools.specs.declared.stage.Stage.TheVariants as stage
use Rattle.tb_tools.specs.declared.stage.Eval.{Eval}
use Rattle.tb_tools.specs.declared.stage.Eval.TheVariants as eval
use Rattle.tb_tools.specs.Lanes.{Tool, Lane, BenchState, of_tool, is_stage_at, lane_at, tool_at, on_lane, on_tool, with_tool, without_tool, with_next_tool, with_out, is_free, is_open, started, new_tool}

-- no evaluation is open
abbrev pub is_closed : Eval → Bool
is_closed eval.Closed = true
is_closed eval.Asked = false
is_closed (eval.Answered value) = false

-- the value with which a tool has answered, if no process has taken it yet
abbrev pub answer_of : Eval → Option Term
answer_of eval.Closed = None
answer_of eval.Asked = None
answer_of (eval.Answered value) = Some value

abbrev pub answer_by : Option Tool → Option Term
answer_by None = None
answer_by (Some tool) = answer_of tool.eval

-- the answer of the tool on this lane, if there is one
abbrev pub answer_at : ℕ → BenchState → Option Term
answer_at lane bench = answer_by (tool_at lane bench)

abbrev pub events_of : Option Tool → List (List Term)
events_of None = []
events_of (Some tool) = tool.events

-- the waiting events of the tool on this lane
abbrev pub events_at : ℕ → BenchState → List (List Term)
events_at lane bench = events_of (tool_at lane bench)

abbrev pub received_of : Option Tool → List (List Term)
received_of None = []
received_of (Some tool) = tool.received

-- the events of the tool on this lane that were received and not yet acknowledged
abbrev pub received_at : ℕ → BenchState → List (List Term)
received_at lane bench = received_of (tool_at lane bench)

-- the event at this position
abbrev pub event_at : ℕ → List (List Term) → List Term
event_at place events = slice_index_or events place []

-- the line to a tool with this word and these parts
abbrev pub tool_line : List ℕ → List Term → Out
tool_line word parts = Line (Appl word parts)

-- the tool on this lane is live
abbrev pub is_live_at : ℕ → BenchState → Bool
is_live_at = is_stage_at stage.Live

-- the tool on this lane is live or leaving
abbrev pub is_taken_at : ℕ → BenchState → Bool
is_taken_at lane bench = is_stage_at stage.Live lane bench || is_stage_at stage.Leaving lane bench

-- this lane can be started
abbrev pub can_execute : ℕ → BenchState → Bool
can_execute lane bench = is_free (lane_at lane bench)

-- The lane is started with the command of a tool, and has this tool, which is live and has the next number.
abbrev pub executed : List ℕ → List ℕ → ℕ → BenchState → BenchState
executed name command lane bench =
    with_next_tool (on_lane (λ old. with_tool (new_tool name bench.next_tool stage.Live) (started command old)) lane bench)

-- the tool on this lane waits
abbrev pub can_connect : ℕ → BenchState → Bool
can_connect = is_stage_at stage.Waiting

abbrev pub with_live_tool : Lane → Lane
with_live_tool = on_tool (λ tool. record tool { stage = stage.Live })

-- The tool becomes live.
abbrev pub connected : ℕ → BenchState → BenchState
connected = on_lane with_live_tool

-- the tool on this lane is leaving
abbrev pub can_leave : ℕ → BenchState → Bool
can_leave = is_stage_at stage.Leaving

-- The tool leaves its lane, with its events.
abbrev pub left : ℕ → BenchState → BenchState
left = on_lane without_tool

-- the tool on this lane is live, and no evaluation is open
abbrev pub can_eval : ℕ → BenchState → Bool
can_eval lane bench = is_live_at lane bench && of_tool (λ tool. is_closed tool.eval) (tool_at lane bench)

abbrev pub with_question : Term → Lane → Lane
with_question term lane = on_tool (λ tool. record tool { eval = eval.Asked }) (with_out (tool_line (codes "rec-eval") (term ∷ [])) lane)

-- The request to evaluate the term is queued, and the tool was asked.
abbrev pub asked : Term → ℕ → BenchState → BenchState
asked term = on_lane (with_question term)

-- the tool on this lane is live or leaving, and its answer is there
abbrev pub can_take_value : ℕ → BenchState → Bool
can_take_value lane bench = is_taken_at lane bench && is_some (answer_at lane bench)

abbrev pub without_answer : Lane → Lane
without_answer = on_tool (λ tool. record tool { eval = eval.Closed })

-- The answer is taken, and no evaluation is open any more.
abbrev pub value_taken : ℕ → BenchState → BenchState
value_taken = on_lane without_answer

-- the tool on this lane is live, and no evaluation is open
abbrev pub can_do : ℕ → BenchState → Bool
can_do = can_eval

-- The request to carry out the term is queued.
abbrev pub told : Term → ℕ → BenchState → BenchState
told term = on_lane (with_out (tool_line (codes "rec-do") (term ∷ [])))

-- the tool on this lane is live or leaving, and has a waiting event at this position
abbrev pub can_take_event : ℕ → ℕ → BenchState → Bool
can_take_event place lane bench = is_taken_at lane bench && nat_lt place (length (events_at lane bench))

abbrev pub with_received : ℕ → Lane → Lane
with_received place = on_tool (λ tool. record tool { events = remove tool.events place; received = tool.received ++ event_at place tool.events ∷ [] })

-- The event moves to the end of the received events.
abbrev pub event_taken : ℕ → ℕ → BenchState → BenchState
event_taken place = on_lane (with_received place)

-- the tool on this lane is live, and has a received event at this position
abbrev pub can_ack : ℕ → ℕ → BenchState → Bool
can_ack place lane bench = is_live_at lane bench && nat_lt place (length (received_at lane bench))

-- the line that acknowledges the received event at this position
abbrev pub acknowledgement : ℕ → Tool → Out
acknowledgement place tool = tool_line (codes "rec-ack-event") (event_at place tool.received)

abbrev pub with_acknowledged_of : ℕ → Lane → Option Tool → Lane
with_acknowledged_of place lane None = lane
with_acknowledged_of place lane (Some tool) = with_out (acknowledgement place tool) (with_tool (record tool { received = remove tool.received place }) lane)

abbrev pub with_acknowledged : ℕ → Lane → Lane
with_acknowledged place lane = with_acknowledged_of place lane lane.tool

-- The received event is removed, and the line that acknowledges it is queued.
abbrev pub acknowledged : ℕ → ℕ → BenchState → BenchState
acknowledged place = on_lane (with_acknowledged place)

-- the last line to a tool
abbrev pub last_line : Term → Out
last_line reason = tool_line (codes "rec-terminate") (reason ∷ [])

-- this line and the lane's end are queued, and the lane has ended
abbrev pub ended_with : Out → Lane → Lane
ended_with line lane = record lane { ended = true; outs = lane.outs ++ line ∷ End ∷ [] }

-- the tool on this lane is live
abbrev pub can_terminate : ℕ → BenchState → Bool
can_terminate = is_live_at

-- The last line to the tool and the lane's end are queued, and the tool leaves its lane.
abbrev pub terminated : Term → ℕ → BenchState → BenchState
terminated reason = on_lane (λ lane. without_tool (ended_with (last_line reason) lane))

-- if the lane is up and hasn't ended, this line and the lane's end are queued, and the lane has ended
abbrev pub dismissed : Out → Lane → Lane
dismissed line lane = if is_open lane then ended_with line lane else lane

-- The bus shuts down: on each lane that is up and hasn't ended, the last line and an end are queued.
abbrev pub gone_down : Term → BenchState → BenchState
gone_down reason bench = record bench { lanes = map (dismissed (last_line reason)) bench.lanes }

abbrev pub without_out : Lane → Lane
without_out lane = record lane { outs = drop 1 lane.outs }

-- The next queued item is sent, and the others remain.
abbrev pub handed_out : ℕ → BenchState → BenchState
handed_out = on_lane without_out
