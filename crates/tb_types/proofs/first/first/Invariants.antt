use Rattle.std.proofs.Common.{◌≡◌, take}
use Rattle.tb_types.specs.Helpers.First.{first_of}
use Rattle.tb_types.proofs.first.first.Given as goal

abbrev pub invariant-loop-next : goal.invariant-loop-next
invariant-loop-next l = l.first ≡ first_of (take l.next-index l.violation)
