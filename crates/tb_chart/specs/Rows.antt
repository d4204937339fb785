-- Which entries of a log have a row in a chart, and in which order.
use Rattle.std.specs.Prelude.{ℕ, ◌+◌, List, [], ◌∷◌, ◌++◌, Bool, true, false, ◌&&◌, nat_le, Option, if◌then◌else◌}
use Rattle.tb_log.specs.declared.entry.Entry.{Entry}
use Rattle.tb_chart.specs.declared.cast.Cast.{Cast}
use Rattle.tb_chart.specs.declared.chart.Span.{Span}
use Rattle.tb_chart.specs.declared.row.Row.{Row}
use Rattle.tb_chart.specs.declared.figure.Figure.{Figure}
use Rattle.tb_chart.specs.declared.figure.Figure.TheVariants.{Arrow, Mark, Stop, Lost, Time, Rule, Hidden}
use Rattle.tb_chart.specs.Figures.{figure}
use Rattle.tb_chart.specs.Players.{bodies_of, players_after}

-- what a row is of: an entry with its number, and with the definitions of the processes that make its step
pub record SeenRow : Type 0 where
  pub number : ℕ
  pub entry : Entry
  pub bodies : Option ℕ × Option ℕ

abbrev pub row : List ℕ → ℕ → Entry → SeenRow
row players number entry = record { number = number; entry = entry; bodies = bodies_of players entry }

abbrev pub seen_row : Row → SeenRow
seen_row it = record { number = it.number; entry = it.entry.now; bodies = it.bodies }

-- each figure but one is seen
abbrev pub is_seen : Figure → Bool
is_seen (Arrow kind from to) = true
is_seen (Mark end) = true
is_seen (Stop lane) = true
is_seen (Lost lane) = true
is_seen Time = true
is_seen Rule = true
is_seen Hidden = false

-- an entry with this number and figure is shown in a chart from one number to another
abbrev pub is_shown : ℕ → ℕ → ℕ → Figure → Bool
is_shown from to number figure = nat_le from number && nat_le number to && is_seen figure

-- the rows of an entry with this number, where the processes are these
abbrev pub rows_of : Span → List ℕ → ℕ → Entry → List SeenRow
rows_of span players number entry =
    if is_shown span.from span.to number (figure entry) then row players number entry ∷ [] else []

-- The rows of the entries from this number on, in their order. Before them the processes are these.
abbrev pub rows_from : Cast → Span → List ℕ → ℕ → List Entry → List SeenRow
rows_from cast span players number [] = []
rows_from cast span players number (entry ∷ entries) =
    rows_of span (players_after cast players entry) number entry
    ++ rows_from cast span (players_after cast players entry) (number + 1) entries
