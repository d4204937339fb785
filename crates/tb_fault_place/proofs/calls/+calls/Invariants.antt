use Rattle.std.proofs.Common.{◌+◌, ◌*◌}
use Rattle.tb_syntax.specs.declared.proc.Proc.{size-Proc}
use Rattle.tb_fault_place.proofs.calls.+calls.Given as goal

abbrev pub decreases-call_in : goal.decreases-call_in
decreases-call_in l = 2 * size-Proc l.body.now

abbrev pub decreases-call_in_else : goal.decreases-call_in_else
decreases-call_in_else l = 2 * goal.size-call_in_else l + 1
