use Rattle.std.proofs.Common.{◌+◌, ◌*◌, max}
use Rattle.tb_syntax.specs.declared.proc.Proc.{size-Proc}
use Rattle.tb_types.proofs.bodies.+procs.Given as goal

abbrev pub decreases-push_proc : goal.decreases-push_proc
decreases-push_proc l = 2 * size-Proc l.proc.now

abbrev pub decreases-push_both : goal.decreases-push_both
decreases-push_both l = 2 * max (size-Proc l.x.now) (size-Proc l.y.now) + 1

abbrev pub decreases-push_else : goal.decreases-push_else
decreases-push_else l = 2 * goal.size-push_else l + 1

abbrev pub decreases-push_let : goal.decreases-push_let
decreases-push_let l = 2 * size-Proc l.x.now + 1
