-- The reply to an input, the entries that can follow on a bus, the traces, and the bus to which a log leads.
use Rattle.std.specs.Prelude.{◌≡◌, ℕ, ◌+◌, map, List, [], ◌∷◌, Bool, true, false, Some, if◌then◌else◌, Contains, ⊤}
use Rattle.std.specs.List.{list_any}
use Rattle.std.specs.Str.{bytes_eq}
use Rattle.tb_terms.specs.Same.{is_same}
use Rattle.tb_process_steps.specs.Processes.{aged}
use Rattle.tb_log.specs.Shapes.{IsInputInShape, IsLane}
use Rattle.tb_body.specs.declared.program.Tool.{Tool}
use Rattle.tb_tools.specs.Acts.{handed_out}
use Rattle.tb_tools.specs.Finding.{next_out}
use Rattle.tb_tools.specs.Inputs.{put_line, gone, cut}
use Rattle.tb_tools.specs.Inputs as lanes
use Rattle.tb_bus.specs.Buses.{Bus, Proc}
use Rattle.tb_bus.specs.Steps.{Step, steps}
use Rattle.tb_log.specs.declared.entry.Label.{Label}
use Rattle.tb_log.specs.contracts.entry.Label as label_row
use Rattle.tb_log.specs.declared.entry.ToolLine.{ToolLine}
use Rattle.tb_log.specs.declared.entry.ToolLine.TheVariants as tool_line
use Rattle.tb_log.specs.declared.entry.Input.{Input}
use Rattle.tb_log.specs.declared.entry.Input.TheVariants.{Tick, NoTicks, Line, Gone, Cut}
use Rattle.tb_log.specs.declared.entry.Reply.{Reply}
use Rattle.tb_log.specs.declared.entry.Reply.TheVariants.{Took, Dropped}
use Rattle.tb_log.specs.declared.entry.Why.TheVariants.{Down}
use Rattle.tb_log.specs.declared.entry.Entry.{Entry}
use Rattle.tb_log.specs.declared.entry.Entry.TheVariants.{Did, Quiet, Fed, Gave}

-- the reply to an input, and the bus after it
pub record Answer : Type 0 where
  pub reply : Reply
  pub bus : Bus

-- a process one tick later
abbrev pub aged_proc : Proc → Proc
aged_proc proc = record proc { term = aged proc.term }

-- the line is a connect request with the name of a kind of tool that the script declares
abbrev pub declares : List Tool → ToolLine → Bool
declares kinds (tool_line.Connect name) = list_any (λ (tool : Tool). bytes_eq tool.name name) kinds
declares kinds (tool_line.Value value) = false
declares kinds (tool_line.Event terms) = false
declares kinds tool_line.Disconnect = false
declares kinds tool_line.Bad = false

-- the answer of a bus whose lanes answer an input
abbrev pub on_bench : Bus → lanes.Answer → Answer
on_bench bus answer = record { reply = answer.reply; bus = record bus { bench = answer.bench } }

-- the answer of a bus that is up to an input
abbrev pub took : Bus → Input → Answer
-- one tick passes, and each process ages
took bus Tick = record { reply = Took; bus = record bus { procs = map aged_proc bus.procs; now = bus.now + 1 } }
took bus NoTicks = record { reply = Took; bus = record bus { no_ticks = true } }
-- the lanes take the other inputs, or drop them
took bus (Line lane line) = on_bench bus (put_line (declares bus.program.tools line) line lane bus.bench)
took bus (Gone lane) = on_bench bus (gone lane bus.bench)
took bus (Cut lane) = on_bench bus (cut lane bus.bench)

-- The answer of a bus to an input. A bus that has shut down drops each input. A dropped input changes nothing.
abbrev pub fed : Bus → Input → Answer
fed bus input = if bus.down then record { reply = Dropped Down; bus = bus } else took bus input

-- the bus after the next output of a lane is sent
abbrev pub taken_out : ℕ → Bus → Bus
taken_out lane bus = record bus { bench = handed_out lane bus.bench }

-- The entry can follow on the first bus, and leads to the next bus.
abbrev pub IsLegal : Bus → Entry → Bus → Type 0
-- a step of the bus with this label leads to the next bus
IsLegal bus (Did label) next = Contains (steps bus) (record { label = label; bus = next })
-- the bus has no step and hasn't shut down
IsLegal bus Quiet next = (steps bus ≡ []) × (bus.down ≡ false) × (next ≡ bus)
-- the input is in shape, and the bus answers it with this reply
IsLegal bus (Fed input reply) next = IsInputInShape input × (record { reply = reply; bus = next } ≡ fed bus input)
-- this is the next output of the lane
IsLegal bus (Gave lane out) next = IsLane lane × (next_out lane bus.bench ≡ Some out) × (next ≡ taken_out lane bus)

-- the bus after the first of these steps with this label; the old bus if no step has this label
abbrev pub after_step : Bus → Label → List Step → Bus
after_step bus label [] = bus
after_step bus label (step ∷ rest) = if is_same label_row.the_row.coded label step.label then step.bus else after_step bus label rest

-- The bus after an entry.
abbrev pub after : Bus → Entry → Bus
after bus (Did label) = after_step bus label (steps bus)
after bus Quiet = bus
after bus (Fed input reply) = (fed bus input).bus
after bus (Gave lane out) = taken_out lane bus

-- A log is a trace from a bus if each entry can follow on the bus before it, and leads to the bus after it. All steps of a reached bus
-- have different labels. On another bus, an entry represents the first step with its label.
abbrev pub IsTrace : Bus → List Entry → Type 0
IsTrace bus [] = ⊤
IsTrace bus (entry ∷ log) = IsLegal bus entry (after bus entry) × IsTrace (after bus entry) log

-- the bus to which a trace leads
abbrev pub replay : Bus → List Entry → Bus
replay bus [] = bus
replay bus (entry ∷ log) = replay (after bus entry) log
