use Rattle.std.proofs.lemmas.Result.{err_from_is_err_and}
use Rattle.tb_terms.proofs.Joined.{kept_through}
use Rattle.tb_iface.proofs.write.push_lines.Goals as goal

pub returns-in_err-push_line-clause-err : goal.returns-in_err-push_line-clause-err
returns-in_err-push_line-clause-err c =
    let p = err_from_is_err_and c.from_residual.result c.from_residual.ensures.1 in
    rw p.1 (kept_through _ _ _ _ c.loop-pattern.invariant c.in_err-push_line.ensures.err)
