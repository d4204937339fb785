use Rattle.std.proofs.Common.{◌≡◌, ◌++◌, length}
use Rattle.tb_expand.specs.Scopes.{of_blocks}
use Rattle.tb_expand.specs.Expansion.{set_formals}
use Rattle.tb_expand.proofs.slots.set_formals.Given as goal

abbrev pub invariant-loop-formal : goal.invariant-loop-formal
invariant-loop-formal l =
    l.settings ++ set_formals (of_blocks l.blocks) l.next l.formals_left l.actuals_left ≡ set_formals (of_blocks l.blocks) l.slot l.formals l.actuals

abbrev pub decreases-loop-formal : goal.decreases-loop-formal
decreases-loop-formal l = length l.formals_left
