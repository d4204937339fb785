use Rattle.std.proofs.lemmas.Result.{err_from_is_err_and}
use Rattle.tb_terms.proofs.Joined.{kept_through}
use Rattle.tb_terms.proofs.TextLengths.{escaped-full, len-after}
use Rattle.tb_terms.proofs.write.push_escaped.Goals as goal

pub returns-in_err-push_byte-clause-err : goal.returns-in_err-push_byte-clause-err
returns-in_err-push_byte-clause-err c =
    let p = err_from_is_err_and c.from_residual.result c.from_residual.ensures.1 in
    rw p.1 (kept_through _ _ _ _ c.loop-byte.invariant.text c.in_err-push_byte.ensures.err)

pub returns-in_err-push_byte-clause-full : goal.returns-in_err-push_byte-clause-full
returns-in_err-push_byte-clause-full c =
    let p = err_from_is_err_and c.from_residual.result c.from_residual.ensures.1 in
    let at = len-after c.args.into.now c.loop-byte.into _ c.loop-byte.invariant.text in
    rw p.1 (escaped-full c.args.text.now c.loop-byte.byte-index _ _ _ _ c.loop-byte-test.true c.loop-byte.invariant.capacity at c.in_err-push_byte.ensures.full)
