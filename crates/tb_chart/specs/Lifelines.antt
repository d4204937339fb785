-- Which lifelines a chart has, and in which column each is: first the processes, then the notes, then the tools.
use Rattle.std.specs.Prelude.{◌≡◌, ◌≢◌, ℕ, ◌≤◌, zero, suc, ◌+◌, ◌-◌, ◌==◌, nat_eq, nat_le, nat_lt, Bool, true, false, not, ◌&&◌, ◌||◌, List, length, slice_get, Option, Some, None, is_some, option_and_then, All, IsTrue, if◌then◌else◌}
use Rattle.std.specs.List.{AllPairs, list_any}
use Rattle.std.specs.Option.{option_eq, option_flatten}
use Rattle.tb_chart.specs.declared.lines.Lines.{Lines}
use Rattle.tb_chart.specs.declared.lines.ProcessLine.{ProcessLine}
use Rattle.tb_chart.specs.declared.lines.Spot.{Spot}
use Rattle.tb_chart.specs.declared.lines.Spot.TheVariants as spot
use Rattle.tb_chart.specs.declared.row.Row.{Row}
use Rattle.tb_chart.specs.declared.row.Seat.{Seat}
use Rattle.tb_chart.specs.declared.row.Who.{Who}
use Rattle.tb_chart.specs.declared.row.Who.TheVariants as who
use Rattle.tb_chart.specs.Numbers.{numbered}

-- the lifeline is that of the process with this number
abbrev pub is_process : ℕ → Option ProcessLine → Bool
is_process number None = false
is_process number (Some line) = line.number == number

-- the lifeline is that of this tool, on its lane and with its name. A program that has no name yet is on any lifeline of its lane.
abbrev pub is_tool : Seat → Seat → Bool
is_tool seat line = line.lane == seat.lane && (not (is_some seat.kind) || option_eq nat_eq line.kind seat.kind)

abbrev pub is_tool_in : Seat → Option Seat → Bool
is_tool_in seat None = false
is_tool_in seat (Some line) = is_tool seat line

-- where the lifeline of the process with this number is, among those of processes
abbrev pub place_of : List (Option ℕ) → ℕ → Option ℕ
place_of places number = option_flatten (numbered places number)

abbrev pub has_process : List ProcessLine → List (Option ℕ) → ℕ → Bool
has_process processes places number = is_process number (option_and_then (λ place. slice_get processes place) (place_of places number))

-- there is a lifeline of this one
abbrev pub has_line : Lines → Who → Bool
has_line lines (who.Process number) = has_process lines.processes.items lines.places.items number
has_line lines (who.Tool seat) = list_any (is_tool seat) lines.tools.items
has_line lines who.Notes = lines.has_notes

abbrev pub have_lines : Lines → Option (Who × Who) → Bool
have_lines lines None = true
have_lines lines (Some ends) = has_line lines ends.0 && has_line lines ends.1

-- there are lifelines of both ends of a row
abbrev pub HasLines : Lines → Row → Type 0
HasLines lines row = IsTrue (have_lines lines row.ends)

-- each process with a number from 1 to `many` has a lifeline
abbrev pub HasFirst : ℕ → Lines → Type 0
HasFirst many lines = (number : ℕ) → 1 ≤ number → number ≤ many → IsTrue (has_line lines (who.Process number))

-- The lifeline of a process has the definition of the process with its number. `players` are the definitions of the processes.
abbrev pub HasBody : List ℕ → ProcessLine → Type 0
HasBody players line = numbered players line.number ≡ Some line.body

-- two lifelines of processes are of two processes
abbrev pub OfTwoProcesses : ProcessLine → ProcessLine → Type 0
OfTwoProcesses first second = first.number ≢ second.number

-- Two lifelines of tools are of two tools: neither is that of the other's tool. So a program that has no name yet is alone on its lane.
abbrev pub OfTwoTools : Seat → Seat → Type 0
OfTwoTools first second = (is_tool first second ≡ false) × (is_tool second first ≡ false)

-- no process and no tool has two lifelines
pub record Once (lines : Lines) : Type 0 where
  pub processes : AllPairs OfTwoProcesses lines.processes.items
  pub tools : AllPairs OfTwoTools lines.tools.items

-- this is one and the same: the process with one number, the tool on one lane and with one name, or the notes
abbrev pub is_same : Who → Who → Bool
is_same (who.Process first) (who.Process second) = first == second
is_same (who.Process first) (who.Tool second) = false
is_same (who.Process first) who.Notes = false
is_same (who.Tool first) (who.Process second) = false
is_same (who.Tool first) (who.Tool second) = first.lane == second.lane && option_eq nat_eq first.kind second.kind
is_same (who.Tool first) who.Notes = false
is_same who.Notes (who.Process second) = false
is_same who.Notes (who.Tool second) = false
is_same who.Notes who.Notes = true

-- this one is one of both ends
abbrev pub is_end : Who → Option (Who × Who) → Bool
is_end it None = false
is_end it (Some ends) = is_same it ends.0 || is_same it ends.1

-- a process with a number from 1 to `many`
abbrev pub is_first : ℕ → Who → Bool
is_first many (who.Process number) = nat_le 1 number && nat_le number many
is_first many (who.Tool seat) = false
is_first many who.Notes = false

-- This one is at an end of a row. Or each process has a lifeline with which the script begins, and it is one of those.
abbrev pub is_needed : Bool → ℕ → List Row → Who → Bool
is_needed all many rows it = list_any (λ (row : Row). is_end it row.ends) rows || (all && is_first many it)

-- each lifeline is of one that passes the test
pub record HasOnly (test : Who → Bool) (lines : Lines) : Type 0 where
  pub processes : All (λ (line : ProcessLine). IsTrue (test (who.Process line.number))) lines.processes.items
  pub notes : IsTrue lines.has_notes → IsTrue (test who.Notes)
  pub tools : All (λ (line : Seat). IsTrue (test (who.Tool line))) lines.tools.items

-- how many lifelines of notes there are
abbrev pub notes_count : Lines → ℕ
notes_count lines = if lines.has_notes then 1 else 0

-- how many lifelines there are
abbrev pub columns : Lines → ℕ
columns lines = length lines.processes.items + notes_count lines + length lines.tools.items

-- the lifeline behind those of the processes
abbrev pub spot_behind : Bool → ℕ → Spot
spot_behind true zero = spot.Notes
spot_behind true (suc index) = spot.Tool index
spot_behind false index = spot.Tool index

-- the lifeline in a column
abbrev pub spot_at : Lines → ℕ → Spot
spot_at lines column = if nat_lt column (length lines.processes.items) then spot.Process column
    else spot_behind lines.has_notes (column - length lines.processes.items)

-- this one has a number or a name: any but a program that has no name yet
abbrev pub is_known : Who → Bool
is_known (who.Process number) = true
is_known (who.Tool seat) = is_some seat.kind
is_known who.Notes = true

-- this lifeline is that of this one
abbrev pub is_line_of : Lines → Who → Spot → Bool
is_line_of lines (who.Process number) (spot.Process index) = is_process number (slice_get lines.processes.items index)
is_line_of lines (who.Process number) spot.Notes = false
is_line_of lines (who.Process number) (spot.Tool index) = false
is_line_of lines (who.Tool seat) (spot.Process index) = false
is_line_of lines (who.Tool seat) spot.Notes = false
is_line_of lines (who.Tool seat) (spot.Tool index) = is_tool_in seat (slice_get lines.tools.items index)
is_line_of lines who.Notes (spot.Process index) = false
is_line_of lines who.Notes spot.Notes = true
is_line_of lines who.Notes (spot.Tool index) = false

-- each column with a lifeline of this one is this column
abbrev pub IsOnlyColumn : Lines → Who → ℕ → Type 0
IsOnlyColumn lines it only = (column : ℕ) → IsTrue (is_line_of lines it (spot_at lines column)) → column ≡ only
