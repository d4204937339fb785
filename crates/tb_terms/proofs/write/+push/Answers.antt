use Rattle.std.proofs.Common.{arith}
use Rattle.std.proofs.lemmas.Result.{err_from_is_err_and}
use Rattle.tb_terms.proofs.Joined.{kept_through, joined-more}
use Rattle.tb_terms.proofs.TextLengths.{comma-full, text-full, len-after}
use Rattle.tb_terms.proofs.write.+push.Goals as goal

pub push_joined-returns-in_err-push_comma-clause-full : goal.push_joined-returns-in_err-push_comma-clause-full
push_joined-returns-in_err-push_comma-clause-full t c =
    let p = err_from_is_err_and c.from_residual.result c.from_residual.ensures.1 in
    let at = len-after c.args.into.now c.loop-position.into _ c.loop-position.invariant.text in
    rw p.1 (comma-full c.args.terms.now c.loop-position.position c.index-terms-position.result _ _ _ _ c.loop-position-test.true c.loop-position.invariant.capacity at c.in_err-push_comma.ensures.full)

pub push_joined-returns-in_err-push_term-clause-err : goal.push_joined-returns-in_err-push_term-clause-err
push_joined-returns-in_err-push_term-clause-err t c =
    let p = err_from_is_err_and c.from_residual-in_err-push_term.result c.from_residual-in_err-push_term.ensures.1 in
    rw p.1 (kept_through _ _ _ _ c.loop-position.invariant.text
    (kept_through _ _ _ _ c.in_ok-push_comma.ensures.ok c.in_err-push_term.ensures.err))

pub push_joined-returns-in_err-push_term-clause-full : goal.push_joined-returns-in_err-push_term-clause-full
push_joined-returns-in_err-push_term-clause-full t c =
    let p = err_from_is_err_and c.from_residual-in_err-push_term.result c.from_residual-in_err-push_term.ensures.1 in
    let at = len-after c.args.into.now c.loop-position.into _ c.loop-position.invariant.text in
    rw p.1 (text-full c.args.terms.now c.loop-position.position _ _ _ _ _ _ _ c.loop-position-test.true c.index-terms-position.is c.loop-position.invariant.capacity c.in_ok-push_comma.ensures.capacity at c.in_ok-push_comma.ensures.len c.in_err-push_term.ensures.full)

pub push_joined-loop-position-preserved : goal.push_joined-loop-position-preserved
push_joined-loop-position-preserved t c = record {
  text = joined-more _ _ _ _ c.args.terms.now c.loop-position.position _ c.loop-position.invariant.text c.in_ok-push_comma.ensures.ok c.in_ok-push_term.ensures.ok c.loop-position-test.true c.index-terms-position.is;
  capacity = omega (arith, c.loop-position.invariant.capacity, c.in_ok-push_comma.ensures.capacity, c.in_ok-push_term.ensures.capacity);
}
