-- The lines that are drawn of a chart, in the order of its rows: each row is one, and ticks with no other row between them are one.
use Rattle.std.specs.Prelude.{ℕ, ◌+◌, nat_lt, Bool, ◌&&◌, List, [], ◌∷◌, if◌then◌else◌}
use Rattle.tb_log.specs.Lanes.{is_tick}
use Rattle.tb_chart.specs.declared.drawn.Drawn.{Drawn}
use Rattle.tb_chart.specs.declared.row.Row.{Row}

-- the row at an index, as a line of its own
abbrev pub own_line : ℕ → Row → Drawn
own_line index row = record { index = index; ticks = if is_tick row.entry.now then 1 else 0; last = row.number }

-- both lines show ticks
abbrev pub are_ticks : Drawn → Drawn → Bool
are_ticks first second = nat_lt 0 first.ticks && nat_lt 0 second.ticks

-- two lines of ticks as one: it begins as the first and ends as the second
abbrev pub joined : Drawn → Drawn → Drawn
joined first second = record { index = first.index; ticks = first.ticks + second.ticks; last = second.last }

-- a line before others: ticks join the ticks that come next
abbrev pub before_lines : Drawn → List Drawn → List Drawn
before_lines line [] = line ∷ []
before_lines line (next ∷ lines) = if are_ticks line next then joined line next ∷ lines else line ∷ next ∷ lines

-- the lines of the rows from an index on
abbrev pub drawn_from : ℕ → List Row → List Drawn
drawn_from index [] = []
drawn_from index (row ∷ rows) = before_lines (own_line index row) (drawn_from (index + 1) rows)
