use Rattle.std.proofs.Common.{◌≡◌, ℕ, List, true, take}
use Rattle.std.specs.List.{list_any}
use Rattle.tb_index.specs.declared.mark.Mark.{Mark}
use Rattle.tb_index.specs.declared.slot.Pair.{Pair}
use Rattle.tb_index.specs.Marks.{wide}
use Rattle.tb_index.specs.Helpers.Pairs.{has, is_in}
use Rattle.tb_index.proofs.counts.count_few.Given as goal

abbrev pub invariant-loop-slot : goal.invariant-loop-slot
invariant-loop-slot l = (mark : Mark) (its : ℕ) → list_any (λ (pairs : List Pair). is_in pairs mark its) (take l.slot-index l.few) ≡ true →
    has l.counted (wide mark) its ≡ true
