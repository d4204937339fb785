use Rattle.std.proofs.Common.{◌≡◌, vec_len}
use Rattle.tb_run.proofs.desks.empty.Given as goal

abbrev pub invariant-loop-made : goal.invariant-loop-made
invariant-loop-made g l = vec_len l.places ≡ l._made
