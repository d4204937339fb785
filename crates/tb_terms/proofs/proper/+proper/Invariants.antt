use Rattle.std.proofs.Common.{map, take, IsTrue}
use Rattle.std.specs.List.{list_all}
use Rattle.tb_terms.specs.Proper.{is_proper}
use Rattle.tb_terms.proofs.proper.+proper.Given as goal

abbrev pub invariant-show_all-loop-term : goal.invariant-show_all-loop-term
invariant-show_all-loop-term l = IsTrue (list_all (λ part. part) (map is_proper (take l.term-index l.terms)))
