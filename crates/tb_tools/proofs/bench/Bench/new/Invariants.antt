use Rattle.std.proofs.Common.{◌≡◌, ◌-◌, ◌++◌, length, map, replicate}
use Rattle.tb_tools.specs.Lanes.{started, unused}
use Rattle.tb_tools.proofs.bench.Bench.new.Given as goal

abbrev pub invariant-loop : goal.invariant-loop
invariant-loop l = l.lanes.items ≡ map (λ command. started command unused) l.connects ++ replicate (l.counter - length l.connects) unused
