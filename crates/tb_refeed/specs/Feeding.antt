-- The inputs of a log, the text of their feed, and the entries whose tool's line is too long for a feed.
use Rattle.std.specs.Prelude.{◌≡◌, ℕ, ◌-◌, ◌<◌, ◌≤◌, List, [], ◌∷◌, ◌++◌, length, slice_get, Option, Some, None}
use Rattle.std.specs.List.{filter_map, flat_map}
use Rattle.tb_tool_line.specs.ToolLines.{most_line_bytes}
use Rattle.tb_log.specs.LogText.{input_words, log_text, tool_line_words}
use Rattle.tb_log.specs.declared.entry.Input.{Input}
use Rattle.tb_log.specs.declared.entry.Input.TheVariants as input
use Rattle.tb_log.specs.declared.entry.Entry.{Entry}
use Rattle.tb_log.specs.declared.entry.Entry.TheVariants.{Did, Quiet, Fed, Gave}
use Rattle.tb_log_read.specs.Lines.{IsLog, StopsAt}
use Rattle.tb_log_read.specs.declared.fault.LogFault.{LogFault}
use Rattle.tb_log_read.specs.declared.fault.LogFault.TheVariants as log_fault
use Rattle.tb_refeed.specs.declared.fault.RefeedFault.{RefeedFault}
use Rattle.tb_refeed.specs.declared.fault.RefeedFault.TheVariants as fault

-- The input that a line of a feed can represent: each one except the end of ticks, which a simulation delivers itself after its feed.
abbrev pub said : Input → Option Input
said input.Tick = Some input.Tick
said input.NoTicks = None
said (input.Line lane line) = Some (input.Line lane line)
said (input.Gone lane) = Some (input.Gone lane)
said (input.Cut lane) = Some (input.Cut lane)

-- the input of an entry that a feed can represent, whatever the bus replied
abbrev pub came_in_by : Entry → Option Input
came_in_by (Did label) = None
came_in_by Quiet = None
came_in_by (Fed input reply) = said input
came_in_by (Gave lane out) = None

-- The inputs of a log, in order, except the end of ticks.
abbrev pub came_in : List Entry → List Input
came_in log = filter_map came_in_by log

-- the line of an input in a feed: the input's words in the log, and a newline
abbrev pub feed_line : Input → List ℕ
feed_line input = input_words input ++ 10 ∷ []

-- the feed with these inputs
abbrev pub feed_text : List Input → List ℕ
feed_text inputs = flat_map feed_line inputs

-- the entry is a tool's line whose text in the log is longer than a line of a tool can be
abbrev pub IsTooLong : Entry → Type 0
IsTooLong (Did label) = ⊥
IsTooLong Quiet = ⊥
IsTooLong (Fed input.Tick reply) = ⊥
IsTooLong (Fed input.NoTicks reply) = ⊥
IsTooLong (Fed (input.Line lane line) reply) = most_line_bytes < length (tool_line_words line)
IsTooLong (Fed (input.Gone lane) reply) = ⊥
IsTooLong (Fed (input.Cut lane) reply) = ⊥
IsTooLong (Gave lane out) = ⊥

-- The tool's line of the entry with this number, from 1, is too long for a feed.
pub record IsTooLongAt (log : List Entry) (number : ℕ) : Type 0 where
  pub entry : Entry
  pub from_one : 1 ≤ number
  pub there : slice_get log (number - 1) ≡ Some entry
  pub long : IsTooLong entry

-- The bytes are the text of a log. The entry with this number is the first one whose tool's line is too long for a feed.
pub record IsFirstTooLong (bytes : List ℕ) (number : ℕ) : Type 0 where
  pub log : List Entry
  pub is_log : IsLog log
  pub text : bytes ≡ log_text log
  pub here : IsTooLongAt log number
  pub first : (other : ℕ) → other < number → IsTooLongAt log other → ⊥

-- the claim of an error about the bytes; `NoMemory` makes none
abbrev pub HasFault : List ℕ → RefeedFault → Type 0
HasFault bytes (fault.Line number) = StopsAt bytes number
HasFault bytes (fault.TooLong number) = IsFirstTooLong bytes number
HasFault bytes fault.NoMemory = Unit {0}

-- the error of `refeed` for an error of reading the log
abbrev pub fault_of : LogFault → RefeedFault
fault_of (log_fault.Line number) = fault.Line number
fault_of log_fault.NoMemory = fault.NoMemory
