use Rattle.std.proofs.lemmas.Result.{on_err_weaker}
use Rattle.tb_terms.proofs.Joined.{kept_through}
use Rattle.tb_log.proofs.text.push_label.Goals as goal

pub returns-clause-err : goal.returns-clause-err
returns-clause-err c = on_err_weaker c.push_shown_terms.result (kept_through _ _ _ _ c.in_ok-push_head.ensures.ok) c.push_shown_terms.ensures.err
