use Rattle.std.proofs.Common.{◌+◌, ◌*◌, max}
use Rattle.tb_syntax.specs.declared.proc.Proc.{size-Proc}
use Rattle.tb_expand.proofs.graph.+calls.Given as goal

abbrev pub decreases-push_called : goal.decreases-push_called
decreases-push_called l = 2 * size-Proc l.proc.now

abbrev pub decreases-push_both : goal.decreases-push_both
decreases-push_both l = 2 * max (size-Proc l.x.now) (size-Proc l.y.now) + 1

abbrev pub decreases-push_else : goal.decreases-push_else
decreases-push_else l = 2 * goal.size-push_else l + 1
