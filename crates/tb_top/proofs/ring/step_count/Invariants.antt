use Rattle.std.proofs.Common.{◌≡◌, ◌≤◌, sum_by, take}
use Rattle.tb_top.specs.Ring.{steps_in}
use Rattle.tb_top.proofs.ring.step_count.Given as goal

abbrev pub invariant-loop-at : goal.invariant-loop-at
invariant-loop-at l = record {
  sum : l.count ≡ sum_by steps_in (take l.at l.log.entries);
  small : l.count ≤ l.at;
}
