use Rattle.std.proofs.Common.{◌≡◌, vec_len}
use Rattle.tb_child.proofs.pipes.child_lanes.Given as goal

abbrev pub invariant-loop-made : goal.invariant-loop-made
invariant-loop-made g l = vec_len l.lanes ≡ l._made
