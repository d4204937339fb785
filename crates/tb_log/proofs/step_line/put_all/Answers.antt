use Rattle.std.proofs.Common.{ℕ, List, ◌∷◌, ◌++◌, ap, ◌∙◌, arith}
use Rattle.tb_terms.specs.Texts.{term_text}
use Rattle.tb_log.proofs.StepLemmas.{term_words_in_parts}
use Rattle.tb_log.proofs.step_line.put_all.Goals as goal

pub returns-in_ok-end-in-Some-2 : goal.returns-in_ok-end-in-Some-2
returns-in_ok-end-in-Some-2 c =
    let first = c.in_ok-end-in-Some-2.ensures in
    let others = c.in_ok-end-in-Some.ensures in
    let byte = c.put_byte.ensures in (
      omega (arith, first.0, byte.room),
      omega (arith, first.1, others.1, byte.room),
      byte.written
          ∙ (ap (λ (t : List ℕ). 32 ∷ t) (first.2 ∙ ap (λ (t : List ℕ). term_text c.in-Some.first.now ++ t) others.2)
          ∙ term_words_in_parts c.args.terms.now c.in-Some.first.now c.in-Some.others.now _ c.in-Some.ensures.cases.0),
    )
