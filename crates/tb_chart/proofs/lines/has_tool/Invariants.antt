use Rattle.std.proofs.Common.{◌≡◌, drop}
use Rattle.std.specs.List.{list_any}
use Rattle.tb_chart.specs.Lifelines.{is_tool}
use Rattle.tb_chart.proofs.lines.has_tool.Given as goal

-- the lifelines that are left decide
abbrev pub invariant-loop-line : goal.invariant-loop-line
invariant-loop-line l = list_any (is_tool l.seat) (drop l.line-index l.lines) ≡ list_any (is_tool l.seat) l.lines
