use Rattle.tb_syntax.specs.Helpers.Canonical.{formal_tokens}
use Rattle.tb_syntax.proofs.Parted.{parted-more}
use Rattle.tb_syntax.proofs.definitions.push_parted_formals.Goals as goal

pub loop-position-preserved : goal.loop-position-preserved
loop-position-preserved c =
    parted-more formal_tokens _ _ _ _ c.args.formals.now c.loop-position.position _ c.loop-position.invariant c.in_ok-push_comma.ensures c.in_ok-push_formal.ensures c.loop-position-test.true c.index-formals-position.is
