-- The feed line of one entry, and the entries that are short enough for a feed.
use Rattle.std.specs.Prelude.{◌≡◌, ℕ, ◌-◌, ◌≤◌, nat_le, Bool, true, false, List, [], length, take, slice_get, Option, Some, None}
use Rattle.std.specs.List.{list_all}
use Rattle.tb_tool_line.specs.ToolLines.{most_line_bytes}
use Rattle.tb_log.specs.LogText.{tool_line_words}
use Rattle.tb_log.specs.declared.entry.Input.{Input}
use Rattle.tb_log.specs.declared.entry.Input.TheVariants as input
use Rattle.tb_log.specs.declared.entry.Entry.{Entry}
use Rattle.tb_log.specs.declared.entry.Entry.TheVariants.{Did, Quiet, Fed, Gave}
use Rattle.tb_refeed.specs.Feeding.{came_in_by, feed_line}
use Rattle.tb_refeed.specs.declared.fault.RefeedFault.{RefeedFault}
use Rattle.tb_refeed.specs.declared.fault.RefeedFault.TheVariants as fault

abbrev pub line_if : Option Input → List ℕ
line_if None = []
line_if (Some input) = feed_line input

-- the feed line of an entry's input; empty if the entry has none that a feed can represent
abbrev pub entry_line : Entry → List ℕ
entry_line entry = line_if (came_in_by entry)

-- the input isn't a tool's line that is too long for a feed
abbrev pub is_short_input : Input → Bool
is_short_input input.Tick = true
is_short_input input.NoTicks = true
is_short_input (input.Line lane line) = nat_le (length (tool_line_words line)) most_line_bytes
is_short_input (input.Gone lane) = true
is_short_input (input.Cut lane) = true

-- the entry has no tool's line that is too long for a feed
abbrev pub is_short : Entry → Bool
is_short (Did label) = true
is_short Quiet = true
is_short (Fed input reply) = is_short_input input
is_short (Gave lane out) = true

abbrev pub are_short : List Entry → Bool
are_short entries = list_all is_short entries

-- the entry with this number is the first one that isn't short
pub record StopsShort (entries : List Entry) (number : ℕ) : Type 0 where
  pub entry : Entry
  pub from_one : 1 ≤ number
  pub there : slice_get entries (number - 1) ≡ Some entry
  pub before : are_short (take (number - 1) entries) ≡ true
  pub long : is_short entry ≡ false

-- the claim of an error about these entries: it is never `Line`, and `NoMemory` makes no claim
abbrev pub IsCaused : List Entry → RefeedFault → Type 0
IsCaused entries (fault.Line number) = ⊥
IsCaused entries (fault.TooLong number) = StopsShort entries number
IsCaused entries fault.NoMemory = Unit {0}
