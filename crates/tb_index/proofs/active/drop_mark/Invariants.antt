use Rattle.std.proofs.Common.{◌≡◌}
use Rattle.tb_index.proofs.active.drop_mark.Given as goal

abbrev pub invariant-loop-place : goal.invariant-loop-place
invariant-loop-place l = l.active.items ≡ l.initial.active.items
