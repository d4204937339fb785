use Rattle.std.proofs.Common.{◌+◌, ◌*◌, max}
use Rattle.tb_syntax.specs.declared.proc.Proc.{size-Proc}
use Rattle.tb_syntax.proofs.procs.+procs.Given as goal

abbrev pub decreases-push_placed : goal.decreases-push_placed
decreases-push_placed l = 3 * max (size-Proc l.x.now) (size-Proc l.y.now) + 2

abbrev pub decreases-push_infix : goal.decreases-push_infix
decreases-push_infix l = 3 * max (size-Proc l.x.now) (size-Proc l.y.now) + 1

abbrev pub decreases-push_proc : goal.decreases-push_proc
decreases-push_proc l = 3 * goal.size-push_proc l

abbrev pub decreases-push_then : goal.decreases-push_then
decreases-push_then l = 3 * size-Proc l.x.now + 1

abbrev pub decreases-push_else : goal.decreases-push_else
decreases-push_else l = 3 * goal.size-push_else l + 1

abbrev pub decreases-push_let : goal.decreases-push_let
decreases-push_let l = 3 * goal.size-push_let l + 1
