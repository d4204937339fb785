use Rattle.std.proofs.Common.{◌≡◌, take}
use Rattle.tb_match.proofs.bind.copy_binds.Given as goal

abbrev pub invariant-loop-bind : goal.invariant-loop-bind
invariant-loop-bind l = l.copies ≡ take l.bind-index l.binds
