use Rattle.std.proofs.Common.{◌≡◌, take}
use Rattle.tb_chart.specs.Drawn.{drawn_from}
use Rattle.tb_chart.proofs.drawn.drawn_rows.Given as goal

-- the lines of the rows so far
abbrev pub invariant-loop-index : goal.invariant-loop-index
invariant-loop-index l = l.drawn.items ≡ drawn_from 0 (take l.index l.chart.rows.items)
