use Rattle.std.proofs.Common.{◌≡◌, drop}
use Rattle.std.specs.List.{list_any}
use Rattle.tb_index.specs.Marks.{is_mark}
use Rattle.tb_index.proofs.mark.has_mark.Given as goal

abbrev pub invariant-loop-other : goal.invariant-loop-other
invariant-loop-other l = list_any (is_mark l.mark) (drop l.other-index l.marks) ≡ list_any (is_mark l.mark) l.marks
