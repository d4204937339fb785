use Rattle.std.proofs.Common.{◌≡◌, ℕ, true, take}
use Rattle.tb_index.specs.declared.mark.Mark.{Mark}
use Rattle.tb_index.specs.Marks.{wide}
use Rattle.tb_index.specs.Helpers.Pairs.{has, is_in}
use Rattle.tb_index.proofs.counts.count_slot.Given as goal

abbrev pub invariant-loop-pair : goal.invariant-loop-pair
invariant-loop-pair l =
    ((mark : Mark) (its : ℕ) → has l.initial.counted mark its ≡ true → has l.counted mark its ≡ true)
    × ((mark : Mark) (its : ℕ) → is_in (take l.pair-index l.pairs) mark its ≡ true → has l.counted (wide mark) its ≡ true)
