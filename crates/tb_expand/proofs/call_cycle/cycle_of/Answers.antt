use Rattle.std.proofs.Common.{◌<◌, List, ℕ, length, subst, sym}
use Rattle.tb_expand.proofs.Turning.{some_onward}
use Rattle.tb_expand.proofs.call_cycle.cycle_of.Goals as goal

pub turned-requires : goal.turned-requires
turned-requires c = subst (λ (ps : List ℕ). 0 < length ps) (sym c.onward.ensures) (some_onward c.args.again c.args.way.now c.requires)
