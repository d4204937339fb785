use Rattle.std.proofs.Common.{◌≡◌, ◌++◌, ◌∷◌, take}
use Rattle.std.specs.List.{flat_map}
use Rattle.tb_terms.specs.Texts.{term_text}
use Rattle.tb_terms.specs.declared.term.Term.TheVariants.{Int}
use Rattle.tb_log.proofs.text.push_other_numbers.Given as goal

abbrev pub invariant-loop-number : goal.invariant-loop-number
invariant-loop-number l = l.into.items ≡ l.initial.into.items ++ flat_map (λ number. 44 ∷ term_text (Int number)) (take l.number-index l.numbers)
