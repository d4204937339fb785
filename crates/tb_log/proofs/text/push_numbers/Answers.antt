use Rattle.std.proofs.Common.{ℤ, ◌++◌, ◌∙◌, ap, rules, FitsSigned, w64}
use Rattle.std.proofs.lemmas.Int.{to_z-of_z}
use Rattle.std.proofs.lemmas.Result.{on_ok_weaker, on_err_weaker}
use Rattle.tb_terms.specs.Texts.{term_text}
use Rattle.tb_terms.specs.declared.term.Term.TheVariants.{Int}
use Rattle.tb_terms.proofs.Joined.{kept_through}
use Rattle.tb_log.proofs.StepLemmas.{numbers_pushed}
use Rattle.tb_log.proofs.text.push_numbers.Goals as goal

pub returns-in_ok-write_term-in-Some-clause-ok : goal.returns-in_ok-write_term-in-Some-clause-ok
returns-in_ok-write_term-in-Some-clause-ok c =
    let fits : FitsSigned w64 c.in-Some.first.now = search rules in
    let number = to_z-of_z w64 c.in-Some.first.now fits in
    let written = c.in_ok-write_term-in-Some.ensures.ok ∙ ap (λ (n : ℤ). c.push.new.self.items ++ term_text (Int n)) number in
    on_ok_weaker c.push_other_numbers.result
    (numbers_pushed _ _ _ _ c.args.numbers.now c.in-Some.first.now c.in-Some.others.now c.in_ok-push-in-Some.ensures.items written c.in-Some.ensures.cases.0)
    c.push_other_numbers.ensures.ok

pub returns-in_ok-write_term-in-Some-clause-err : goal.returns-in_ok-write_term-in-Some-clause-err
returns-in_ok-write_term-in-Some-clause-err c =
    on_err_weaker c.push_other_numbers.result
    (λ e. kept_through _ _ _ _ c.in_ok-push-in-Some.ensures.items (kept_through _ _ _ _ c.in_ok-write_term-in-Some.ensures.ok e))
    c.push_other_numbers.ensures.err
