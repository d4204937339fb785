use Rattle.std.proofs.Common.{ℕ, ℤ, List, ◌∷◌, ◌++◌, ap, ◌∙◌, arith, drop, rules, FitsSigned, w64}
use Rattle.std.proofs.lemmas.Int.{to_z-of_z}
use Rattle.tb_terms.specs.Texts.{term_text}
use Rattle.tb_terms.specs.declared.term.Term.TheVariants.{Int}
use Rattle.tb_log.specs.Seens.{number_terms}
use Rattle.tb_log.proofs.StepLemmas.{numbers_behind_comma, term_words_in_parts}
use Rattle.tb_log.proofs.step_line.put_numbers.Goals as goal

pub returns-in_ok-end-in-Some-2 : goal.returns-in_ok-end-in-Some-2
returns-in_ok-end-in-Some-2 c =
    let first = c.in_ok-end-in-Some-2.ensures in
    let others = c.in_ok-end-in-Some.ensures in
    let byte = c.put_byte.ensures in
    let fits : FitsSigned w64 c.in-Some.first.now = search rules in
    let number = to_z-of_z w64 c.in-Some.first.now fits in
    let written = first.2 ∙ ap (λ (n : ℤ). term_text (Int n) ++ drop c.in_ok-end-in-Some.end c.put_other_numbers.new.line) number in (
      omega (arith, first.0, byte.room),
      omega (arith, first.1, others.1, byte.room),
      byte.written
          ∙ (ap (λ (t : List ℕ). 32 ∷ t) (written ∙ ap (λ (t : List ℕ). term_text (Int c.in-Some.first.now) ++ t) (others.2 ∙ ap (λ (t : List ℕ). t ++ drop c.args.end c.args.line.now) (numbers_behind_comma c.in-Some.others.now)))
          ∙ term_words_in_parts (number_terms c.args.numbers.now) (Int c.in-Some.first.now) (number_terms c.in-Some.others.now) _ (ap number_terms c.in-Some.ensures.cases.0)),
    )
