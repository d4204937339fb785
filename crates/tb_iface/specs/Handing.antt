-- The lines that a step queues on the lanes for tools, with the items after them, and the step of a trace that queued a line which the
-- trace sends later.
use Rattle.std.specs.Prelude.{◌≡◌, ◌⊎◌, ℕ, List, [], ◌∷◌, ◌++◌, IsTrue, Contains, codes, if◌then◌else◌}
use Rattle.std.specs.Str.{bytes_eq}
use Rattle.tb_terms.specs.declared.term.Term.{Term}
use Rattle.tb_log.specs.declared.entry.Entry.{Entry}
use Rattle.tb_log.specs.declared.entry.Entry.TheVariants.{Did}
use Rattle.tb_log.specs.declared.entry.Label.{Label}
use Rattle.tb_log.specs.declared.entry.LabelKind.{LabelKind}
use Rattle.tb_log.specs.declared.entry.LabelKind.TheVariants as kind
use Rattle.tb_log.specs.declared.entry.Out.{Out}
use Rattle.tb_log.specs.declared.entry.Out.TheVariants.{Line, End}
use Rattle.tb_tools.specs.Lanes.{Tool, Lane, of_tool, lane_at, outs_at, is_open}
use Rattle.tb_tools.specs.Acts.{tool_line}
use Rattle.tb_tools.specs.Finding.{has_tool}
use Rattle.tb_bus.specs.Buses.{Bus, start}
use Rattle.tb_bus.specs.Ends.{TakesDown}
use Rattle.tb_bus.specs.Steps.{finish_reason, halt_reason}
use Rattle.tb_bus.specs.Traces.{after, replay}
use Rattle.tb_bus.specs.declared.origin.Origin.{Origin}
use Rattle.tb_iface.specs.Hearing.{MatchesOne}
use Rattle.tb_iface.specs.Interfaces.{to_of}

-- The items that a step queues on a lane for the tool that is the first of its terms: a line with this word and the other terms, and then
-- the items `behind`. If the lane doesn't have this tool, there are none.
abbrev pub to_tool : List ℕ → List Out → List Term → Lane → List Out
to_tool word behind [] lane = []
to_tool word behind (tool ∷ parts) lane = if has_tool tool lane then tool_line word parts ∷ behind else []

-- the items that a shutdown queues on a lane that is up and hasn't ended: the line with the reason, and the lane's end
abbrev pub to_all : List Term → Lane → List Out
to_all reason lane = if is_open lane then tool_line (codes "rec-terminate") reason ∷ End ∷ [] else []

-- The line that a step with these terms queues on a lane, and the items after it, by the lane's state before the step: one equation for
-- each kind of step. A step without a line has none; `execute` queues a start, which isn't listed here.
abbrev pub puts_as : LabelKind → List Term → Lane → List Out
puts_as kind.SndEval terms lane = to_tool (codes "rec-eval") [] terms lane
puts_as kind.SndDo terms lane = to_tool (codes "rec-do") [] terms lane
puts_as kind.SndAckEvent terms lane = to_tool (codes "rec-ack-event") [] terms lane
puts_as kind.SndTerminate terms lane = to_tool (codes "rec-terminate") (End ∷ []) terms lane
puts_as kind.Shutdown terms lane = to_all terms lane
puts_as kind.Finish terms lane = to_all (finish_reason ∷ []) lane
puts_as kind.Halt terms lane = to_all (halt_reason ∷ []) lane
-- no other step queues a line
puts_as _ terms lane = []

abbrev pub puts : Label → Lane → List Out
puts label lane = puts_as label.kind label.terms lane

-- The step queues the line on the lane: the line is one of the step's items for the lane, and the step appends exactly these items to the
-- lane's queue.
pub record Puts (bus : Bus) (label : Label) (lane : ℕ) (term : Term) : Type 0 where
  pub is : Contains (puts label (lane_at lane bus.bench)) (Line term)
  pub at_end : outs_at lane (after bus (Did label)).bench ≡ outs_at lane bus.bench ++ puts label (lane_at lane bus.bench)

-- A step of this log queued the line on this lane.
pub record WasPut (origin : Origin) (log : List Entry) (lane : ℕ) (term : Term) : Type 0 where
  pub before : List Entry
  pub label : Label
  pub rest : List Entry
  pub is : log ≡ before ++ Did label ∷ rest
  pub puts : Puts (replay (start origin) before) label lane term

-- The items that a step queues on a lane are for a tool of this name: the bus shuts down at the step, or the lane has a tool of this name.
abbrev pub IsFor : List ℕ → Label → Lane → Type 0
IsFor tool label lane = TakesDown label.kind ⊎ IsTrue (of_tool (λ (it : Tool). bytes_eq it.name tool) lane.tool)

-- A step of this log queued the line on this lane. The line is for a tool. It matches a `to` pattern of each tool that it is for.
pub record WasPutAsListed (origin : Origin) (log : List Entry) (lane : ℕ) (term : Term) : Type 0 where
  pub put : WasPut origin log lane term
  pub whose : (tool : List ℕ) × IsFor tool put.label (lane_at lane (replay (start origin) put.before).bench)
  pub matches : (tool : List ℕ) → IsFor tool put.label (lane_at lane (replay (start origin) put.before).bench) → MatchesOne (to_of origin.program tool) term
