use Rattle.std.proofs.Common.{◌≡◌, ◌+◌, drop}
use Rattle.tb_body.specs.InRange.{ascends_by_one}
use Rattle.tb_body.proofs.in_range.ascend_from_one.Given as goal

abbrev pub invariant-loop-position : goal.invariant-loop-position
invariant-loop-position l = ascends_by_one (1 + l.position) (drop l.position l.numbers) ≡ ascends_by_one 1 l.numbers
