use Rattle.std.proofs.lemmas.Result.{err_from_is_err_and}
use Rattle.tb_terms.proofs.Joined.{kept_through}
use Rattle.tb_script.proofs.writing.push_more_names.Goals as goal

pub returns-in_err-push_name-clause-err : goal.returns-in_err-push_name-clause-err
returns-in_err-push_name-clause-err c =
    let p = err_from_is_err_and c.from_residual.result c.from_residual.ensures.1 in
    rw p.1 (kept_through _ _ _ _ c.loop-name.invariant c.in_err-push_name.ensures.err)
