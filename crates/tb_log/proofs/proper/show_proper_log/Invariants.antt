use Rattle.std.proofs.Common.{take, IsTrue}
use Rattle.std.specs.List.{list_all}
use Rattle.tb_log.specs.Proper.{is_proper_entry}
use Rattle.tb_log.proofs.proper.show_proper_log.Given as goal

abbrev pub invariant-loop-at : goal.invariant-loop-at
invariant-loop-at l = IsTrue (list_all is_proper_entry (take l.at l.log.entries))
