use Rattle.std.proofs.Common.{◌≡◌, min, map, take}
use Rattle.tb_terms.specs.Sizes.{term_levels, greatest}
use Rattle.tb_terms.proofs.measure.+depth.Given as goal

abbrev pub invariant-greatest_depth-loop-term : goal.invariant-greatest_depth-loop-term
invariant-greatest_depth-loop-term l =
    l.deepest ≡ min (greatest (map term_levels (take l.term-index l.terms))) 18446744073709551615
