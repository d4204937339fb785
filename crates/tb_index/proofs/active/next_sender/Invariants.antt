use Rattle.std.proofs.Common.{take}
use Rattle.std.specs.List.{list_any}
use Rattle.tb_index.specs.declared.mark.Mark.{Mark}
use Rattle.tb_index.specs.Helpers.Pairs.{is_sender, IsFirst}
use Rattle.tb_index.proofs.active.next_sender.Given as goal

abbrev pub invariant-loop-mark : goal.invariant-loop-mark
invariant-loop-mark l = IsFirst (λ proc. list_any (λ (mark : Mark). is_sender l.sending l.fn.counted mark proc) (take l.mark-index l.marks)) l.from l.found
