-- Who is at the ends of what a chart shows of an entry.
use Rattle.std.specs.Prelude.{◌==◌, ◌&&◌, Bool, true, false, Option, Some, None}
use Rattle.tb_log.specs.declared.entry.Entry.{Entry}
use Rattle.tb_chart.specs.declared.figure.End.{End}
use Rattle.tb_chart.specs.declared.figure.End.TheVariants.{Process, Child, Tool, Lane, Notes}
use Rattle.tb_chart.specs.declared.figure.Figure.{Figure}
use Rattle.tb_chart.specs.declared.figure.Figure.TheVariants.{Arrow, Mark, Stop, Lost, Time, Rule, Hidden}
use Rattle.tb_chart.specs.declared.row.Who.{Who}
use Rattle.tb_chart.specs.declared.row.Who.TheVariants as who
use Rattle.tb_chart.specs.Terms.{creates}

-- the ends of a figure: both are one where it is on one lifeline
abbrev pub ends_of : Figure → Option (End × End)
ends_of (Arrow kind from to) = Some (from, to)
ends_of (Mark end) = Some (end, end)
ends_of (Stop lane) = Some (Lane lane, Lane lane)
ends_of (Lost lane) = Some (Lane lane, Lane lane)
ends_of Time = None
ends_of Rule = None
ends_of Hidden = None

-- At this end of what is shown of an entry is this one: the process with its number, the process whose number is the first term
-- of the step, some tool, the program on its lane, or the notes.
abbrev pub is_at : Entry → End → Who → Bool
is_at entry (Process number) (who.Process found) = number == found
is_at entry (Process number) (who.Tool seat) = false
is_at entry (Process number) who.Notes = false
is_at entry Child (who.Process found) = creates entry found
is_at entry Child (who.Tool seat) = false
is_at entry Child who.Notes = false
is_at entry Tool (who.Process found) = false
is_at entry Tool (who.Tool seat) = true
is_at entry Tool who.Notes = false
is_at entry (Lane lane) (who.Process found) = false
is_at entry (Lane lane) (who.Tool seat) = seat.lane == lane
is_at entry (Lane lane) who.Notes = false
is_at entry Notes (who.Process found) = false
is_at entry Notes (who.Tool seat) = false
is_at entry Notes who.Notes = true

-- those are at these ends of what is shown of an entry
abbrev pub fits : Entry → Option (End × End) → Option (Who × Who) → Bool
fits entry None None = true
fits entry None (Some found) = false
fits entry (Some ends) None = false
fits entry (Some ends) (Some found) = is_at entry ends.0 found.0 && is_at entry ends.1 found.1
