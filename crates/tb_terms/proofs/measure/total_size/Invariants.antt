use Rattle.std.proofs.Common.{◌≡◌, min, map, sum, take}
use Rattle.tb_terms.specs.Sizes.{term_size}
use Rattle.tb_terms.proofs.measure.total_size.Given as goal

abbrev pub invariant-loop-term : goal.invariant-loop-term
invariant-loop-term l = l.total ≡ min (sum (map term_size (take l.term-index l.terms))) 18446744073709551615
