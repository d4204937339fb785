use Rattle.std.proofs.Common.{◌≡◌, take}
use Rattle.tb_fake.specs.Fakes.{fails_on}
use Rattle.tb_fake.proofs.cue.copy_fails.Given as goal

abbrev pub invariant-loop-fail : goal.invariant-loop-fail
invariant-loop-fail l = l.own ≡ fails_on l.lane (take l.fail-index l.fails)
