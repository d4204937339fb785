use Rattle.std.proofs.Common.{◌≡◌, ◌≤◌, ◌++◌, ◌∷◌, length, drop}
use Rattle.std.specs.List.{flat_map}
use Rattle.tb_terms.specs.Texts.{term_text}
use Rattle.tb_log.proofs.step_line.put_others.Given as goal

-- the terms after the remaining ones are written
abbrev pub invariant-loop-left : goal.invariant-loop-left
invariant-loop-left l = record {
  within : l.left ≤ length l.terms;
  room : 120 ≤ l.start;
  before : l.start ≤ l.end;
  text : drop l.start l.line ≡ flat_map (λ term. 44 ∷ term_text term) (drop l.left l.terms) ++ drop l.end l.initial.line;
}

abbrev pub decreases-loop-left : goal.decreases-loop-left
decreases-loop-left l = l.left
