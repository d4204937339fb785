use Rattle.std.proofs.Common.{take, IsTrue}
use Rattle.std.specs.List.{list_all}
use Rattle.tb_syntax.specs.Helpers.ProperKinds.{is_proper_kind}
use Rattle.tb_syntax.proofs.proper.show_proper.Given as goal

abbrev pub invariant-loop-kind : goal.invariant-loop-kind
invariant-loop-kind l = IsTrue (list_all is_proper_kind (take l.kind-index l.kinds))
