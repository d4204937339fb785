use Rattle.std.proofs.Common.{◌≡◌, ℕ, true, false, take}
use Rattle.tb_index.specs.declared.mark.Mark.{Mark}
use Rattle.tb_index.specs.Marks.{has_mark, wide}
use Rattle.tb_index.specs.Helpers.Pairs.{has}
use Rattle.tb_index.proofs.counts.count_marks.Given as goal

abbrev pub invariant-loop-mark : goal.invariant-loop-mark
invariant-loop-mark l =
    ((mark : Mark) (its : ℕ) → has l.initial.counted mark its ≡ true → has l.counted mark its ≡ true)
    × ((mark : Mark) → has_mark (take l.mark-index l.marks) mark ≡ true → has_mark l.but mark ≡ false → has l.counted (wide mark) l.proc ≡ true)
