use Rattle.std.proofs.Common.{◌≡◌, ℕ, true, ◌⊎◌}
use Rattle.tb_index.specs.declared.mark.Mark.{Mark}
use Rattle.tb_index.specs.Marks.{wide}
use Rattle.tb_index.specs.Helpers.Pairs.{has, in_many, is_among}
use Rattle.tb_index.proofs.counts.count_many.Given as goal

-- each process that sends under a mark is counted, or its pair is still to come
abbrev pub invariant-loop-pair : goal.invariant-loop-pair
invariant-loop-pair l =
    ((mark : Mark) (its : ℕ) → has l.initial.counted mark its ≡ true → has l.counted mark its ≡ true)
    × ((mark : Mark) (proc : ℕ) → in_many l.many mark proc ≡ true →
    (is_among mark proc l.pair-iterator ≡ true) ⊎ (has l.counted (wide mark) proc ≡ true))
