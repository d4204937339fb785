use Rattle.tb_syntax.specs.Helpers.Canonical.{var_tokens}
use Rattle.tb_syntax.proofs.Parted.{parted-more}
use Rattle.tb_syntax.proofs.atoms.push_vars.Goals as goal

pub loop-position-preserved : goal.loop-position-preserved
loop-position-preserved c =
    parted-more var_tokens _ _ _ _ c.args.vars.now c.loop-position.position _ c.loop-position.invariant c.in_ok-push_comma.ensures c.in_ok-push_var.ensures c.loop-position-test.true c.index-vars-position.is
