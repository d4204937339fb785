use Rattle.std.proofs.Common.{◌≡◌, ◌≤◌, ◌++◌, ◌∷◌, length, drop}
use Rattle.std.specs.List.{flat_map}
use Rattle.tb_terms.specs.Texts.{term_text}
use Rattle.tb_terms.specs.declared.term.Term.TheVariants.{Int}
use Rattle.tb_log.proofs.step_line.put_other_numbers.Given as goal

-- the numbers after the remaining ones are written
abbrev pub invariant-loop-left : goal.invariant-loop-left
invariant-loop-left l = record {
  within : l.left ≤ length l.numbers;
  room : 120 ≤ l.start;
  before : l.start ≤ l.end;
  text : drop l.start l.line ≡ flat_map (λ number. 44 ∷ term_text (Int number)) (drop l.left l.numbers) ++ drop l.end l.initial.line;
}

abbrev pub decreases-loop-left : goal.decreases-loop-left
decreases-loop-left l = l.left
