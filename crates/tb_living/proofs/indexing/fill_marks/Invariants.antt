use Rattle.std.proofs.Common.{◌≡◌, take}
use Rattle.tb_search.specs.Indexed.{sent_marks}
use Rattle.tb_living.specs.Indexes.{found_marks}
use Rattle.tb_living.proofs.indexing.fill_marks.Given as goal

abbrev pub invariant-loop-ready : goal.invariant-loop-ready
invariant-loop-ready l = record {
  sent : l.marks.sends.items ≡ sent_marks (take l.ready-index l.actions);
  received : l.marks.receives.items ≡ found_marks (take l.ready-index l.actions);
}
