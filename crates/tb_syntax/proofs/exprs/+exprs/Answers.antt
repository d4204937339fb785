use Rattle.tb_syntax.specs.Helpers.Canonical.{expr_tokens}
use Rattle.tb_syntax.proofs.Parted.{parted-more}
use Rattle.tb_syntax.proofs.exprs.+exprs.Goals as goal

pub push_parted-loop-position-preserved : goal.push_parted-loop-position-preserved
push_parted-loop-position-preserved t c =
    parted-more expr_tokens _ _ _ _ c.args.parts.now c.loop-position.position _ c.loop-position.invariant c.in_ok-push_comma.ensures c.in_ok-push_expr.ensures c.loop-position-test.true c.index-parts-position.is
