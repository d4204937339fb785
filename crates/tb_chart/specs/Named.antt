-- At the tool of a step stands a tool of the name that the step's first term has.
use Rattle.std.specs.Prelude.{ℕ, ◌&&◌, Bool, true, List, Option, Some, None, IsTrue}
use Rattle.tb_log.specs.declared.entry.Entry.{Entry}
use Rattle.tb_chart.specs.declared.figure.End.{End}
use Rattle.tb_chart.specs.declared.figure.End.TheVariants.{Process, Child, Tool, Lane, Notes}
use Rattle.tb_chart.specs.declared.row.Who.{Who}
use Rattle.tb_chart.specs.declared.row.Who.TheVariants as who
use Rattle.tb_chart.specs.declared.row.Row.{Row}
use Rattle.tb_chart.specs.Ends.{ends_of}
use Rattle.tb_chart.specs.Figures.{figure}
use Rattle.tb_chart.specs.Terms.{speaks_of}

-- `tools` are the names of the declarations of tools
abbrev pub tool_fits : List (List ℕ) → Entry → Who → Bool
tool_fits tools entry (who.Process number) = true
tool_fits tools entry (who.Tool seat) = speaks_of tools entry seat.kind
tool_fits tools entry who.Notes = true

-- all other ends have a number
abbrev pub is_named : List (List ℕ) → Entry → End → Who → Bool
is_named tools entry (Process number) found = true
is_named tools entry Child found = true
is_named tools entry Tool found = tool_fits tools entry found
is_named tools entry (Lane lane) found = true
is_named tools entry Notes found = true

abbrev pub are_named : List (List ℕ) → Entry → Option (End × End) → Option (Who × Who) → Bool
are_named tools entry None found = true
are_named tools entry (Some ends) None = true
are_named tools entry (Some ends) (Some found) = is_named tools entry ends.0 found.0 && is_named tools entry ends.1 found.1

-- the tool at an end of a row is of the name that its step has
abbrev pub NamesTools : List (List ℕ) → Row → Type 0
NamesTools tools row = IsTrue (are_named tools row.entry.now (ends_of (figure row.entry.now)) row.ends)
