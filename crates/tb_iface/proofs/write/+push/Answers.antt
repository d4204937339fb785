use Rattle.std.proofs.lemmas.Result.{err_from_is_err_and}
use Rattle.tb_terms.proofs.Joined.{kept_through}
use Rattle.tb_iface.proofs.TextLemmas.{joined-more}
use Rattle.tb_iface.proofs.write.+push.Goals as goal

pub push_joined-returns-in_err-push_pattern-clause-err : goal.push_joined-returns-in_err-push_pattern-clause-err
push_joined-returns-in_err-push_pattern-clause-err t c =
    let p = err_from_is_err_and c.from_residual-in_err-push_pattern.result c.from_residual-in_err-push_pattern.ensures.1 in
    rw p.1 (kept_through _ _ _ _ c.loop-position.invariant
    (kept_through _ _ _ _ c.in_ok-push_comma.ensures.ok c.in_err-push_pattern.ensures.err))

pub push_joined-loop-position-preserved : goal.push_joined-loop-position-preserved
push_joined-loop-position-preserved t c =
    joined-more _ _ _ _ c.args.patterns.now c.loop-position.position _ c.loop-position.invariant c.in_ok-push_comma.ensures.ok c.in_ok-push_pattern.ensures.ok c.loop-position-test.true c.index-patterns-position.is
