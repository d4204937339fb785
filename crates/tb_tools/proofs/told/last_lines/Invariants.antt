use Rattle.std.proofs.Common.{◌≡◌, replicate}
use Rattle.tb_tools.specs.Acts.{last_line}
use Rattle.tb_tools.proofs.told.last_lines.Given as goal

abbrev pub invariant-loop : goal.invariant-loop
invariant-loop l = l.lines.items ≡ replicate l.counter (last_line l.reason)
