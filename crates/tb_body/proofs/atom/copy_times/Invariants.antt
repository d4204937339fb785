use Rattle.std.proofs.Common.{◌≡◌, take}
use Rattle.tb_body.proofs.atom.copy_times.Given as goal

abbrev pub invariant-loop-time : goal.invariant-loop-time
invariant-loop-time l = l.copies ≡ take l.time-index l.times
