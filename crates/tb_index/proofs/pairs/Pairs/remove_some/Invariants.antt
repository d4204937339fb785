use Rattle.std.proofs.Common.{◌≡◌, ℕ, ◌&&◌, ◌==◌, take, not}
use Rattle.tb_index.specs.declared.mark.Mark.{Mark}
use Rattle.tb_index.specs.Marks.{has_mark}
use Rattle.tb_index.specs.Helpers.Pairs.{has}
use Rattle.tb_index.proofs.pairs.Pairs.remove_some.Given as goal

abbrev pub invariant-loop-mark : goal.invariant-loop-mark
invariant-loop-mark l = (mark : Mark) (its : ℕ) → has l.self mark its
    ≡ (has l.initial.self mark its && not ((has_mark (take l.mark-index l.marks) mark && not (has_mark l.but mark)) && (its == l.proc)))
