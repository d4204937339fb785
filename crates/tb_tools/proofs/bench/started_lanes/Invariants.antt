use Rattle.std.proofs.Common.{◌≡◌, map, take}
use Rattle.tb_tools.specs.Lanes.{started, unused}
use Rattle.tb_tools.proofs.bench.started_lanes.Given as goal

abbrev pub invariant-loop-command : goal.invariant-loop-command
invariant-loop-command l = l.lanes.items ≡ map (λ command. started command unused) (take l.command-index l.commands)
