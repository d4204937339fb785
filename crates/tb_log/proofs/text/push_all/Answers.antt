use Rattle.std.proofs.lemmas.Result.{on_ok_weaker, on_err_weaker}
use Rattle.tb_terms.proofs.Joined.{kept_through}
use Rattle.tb_log.proofs.StepLemmas.{words_pushed}
use Rattle.tb_log.proofs.text.push_all.Goals as goal

pub returns-in_ok-write_term-in-Some-clause-ok : goal.returns-in_ok-write_term-in-Some-clause-ok
returns-in_ok-write_term-in-Some-clause-ok c =
    on_ok_weaker c.push_others.result
    (words_pushed _ _ _ _ c.args.terms.now c.in-Some.first.now c.in-Some.others.now c.in_ok-push-in-Some.ensures.items c.in_ok-write_term-in-Some.ensures.ok c.in-Some.ensures.cases.0)
    c.push_others.ensures.ok

pub returns-in_ok-write_term-in-Some-clause-err : goal.returns-in_ok-write_term-in-Some-clause-err
returns-in_ok-write_term-in-Some-clause-err c =
    on_err_weaker c.push_others.result
    (λ e. kept_through _ _ _ _ c.in_ok-push-in-Some.ensures.items (kept_through _ _ _ _ c.in_ok-write_term-in-Some.ensures.ok e))
    c.push_others.ensures.err
