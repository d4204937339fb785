use Rattle.std.proofs.Common.{◌≡◌, vec_len}
use Rattle.tb_run.proofs.room.make_buffers.Given as goal

abbrev pub invariant-loop-made : goal.invariant-loop-made
invariant-loop-made l = vec_len l.buffers ≡ l._made
