-- The size of an entry, and whether a log has capacity for one more entry.
use Rattle.std.specs.Prelude.{ℕ, ◌+◌, List, length, map, sum, Bool, nat_le, ◌&&◌}
use Rattle.tb_terms.specs.declared.term.Term.{Term}
use Rattle.tb_terms.specs.Sizes.{term_size}
use Rattle.tb_log.specs.declared.entry.ToolLine.{ToolLine}
use Rattle.tb_log.specs.declared.entry.ToolLine.TheVariants as tool
use Rattle.tb_log.specs.declared.entry.Input.{Input}
use Rattle.tb_log.specs.declared.entry.Input.TheVariants as input
use Rattle.tb_log.specs.declared.entry.Out.{Out}
use Rattle.tb_log.specs.declared.entry.Out.TheVariants as out
use Rattle.tb_log.specs.declared.entry.Entry.{Entry}
use Rattle.tb_log.specs.declared.entry.Entry.TheVariants.{Did, Quiet, Fed, Gave}

-- the total size of terms
abbrev pub terms_size : List Term → ℕ
terms_size terms = sum (map term_size terms)

-- the size of a line from a tool: the total size of its parts, without the name around them; the name in a connect request counts as
-- a term without arguments
abbrev pub tool_line_size : ToolLine → ℕ
tool_line_size (tool.Value term) = term_size term
tool_line_size (tool.Event terms) = terms_size terms
tool_line_size (tool.Connect name) = 1 + length name
tool_line_size tool.Disconnect = 0
tool_line_size tool.Bad = 0

-- the size of an input: that of its line, if it has one
abbrev pub input_size : Input → ℕ
input_size input.Tick = 0
input_size input.NoTicks = 0
input_size (input.Line lane line) = tool_line_size line
input_size (input.Gone lane) = 0
input_size (input.Cut lane) = 0

-- the size of an output: a command counts as a string, a line for a tool as its whole term
abbrev pub out_size : Out → ℕ
out_size (out.Start command) = 1 + length command
out_size (out.Line term) = term_size term
out_size out.End = 0

-- the size of an entry: the total size of its terms
abbrev pub entry_size : Entry → ℕ
entry_size (Did label) = terms_size label.terms
entry_size Quiet = 0
entry_size (Fed input reply) = input_size input
entry_size (Gave lane out) = out_size out

-- the total size of entries
abbrev pub log_size : List Entry → ℕ
log_size log = sum (map entry_size log)

-- the greatest total size of the entries of a log
abbrev pub most_size : ℕ
most_size = 16777216

-- A log has capacity for one more entry if and only if both hold: it has fewer entries than its limit, and the total size with this
-- entry is at most `most_size`.
abbrev pub has_room : ℕ → List Entry → Entry → Bool
has_room limit log entry = nat_le (length log + 1) limit && nat_le (log_size log + entry_size entry) most_size
