use Rattle.std.proofs.Common.{◌≡◌, ◌++◌, length}
use Rattle.tb_expand.specs.Scopes.{of_blocks}
use Rattle.tb_expand.specs.Expansion.{formals_of_call}
use Rattle.tb_expand.proofs.slots.formals_of_call.Given as goal

abbrev pub invariant-loop-formal : goal.invariant-loop-formal
invariant-loop-formal l =
    l.block ++ formals_of_call (of_blocks l.blocks) l.next l.formals_left l.actuals_left ≡ formals_of_call (of_blocks l.blocks) l.slot l.formals l.actuals

abbrev pub decreases-loop-formal : goal.decreases-loop-formal
decreases-loop-formal l = length l.formals_left
