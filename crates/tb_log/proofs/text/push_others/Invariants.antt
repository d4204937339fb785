use Rattle.std.proofs.Common.{◌≡◌, ◌++◌, ◌∷◌, take}
use Rattle.std.specs.List.{flat_map}
use Rattle.tb_terms.specs.Texts.{term_text}
use Rattle.tb_log.proofs.text.push_others.Given as goal

abbrev pub invariant-loop-term : goal.invariant-loop-term
invariant-loop-term l = l.into.items ≡ l.initial.into.items ++ flat_map (λ term. 44 ∷ term_text term) (take l.term-index l.terms)
