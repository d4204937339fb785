use Rattle.std.proofs.Common.{◌≡◌, min, map, sum, take}
use Rattle.tb_terms.specs.Sizes.{term_size}
use Rattle.tb_terms.proofs.measure.+size.Given as goal

abbrev pub invariant-sum_of_sizes-loop-term : goal.invariant-sum_of_sizes-loop-term
invariant-sum_of_sizes-loop-term l =
    l.total ≡ min (sum (map term_size (take l.term-index l.terms))) 18446744073709551615
