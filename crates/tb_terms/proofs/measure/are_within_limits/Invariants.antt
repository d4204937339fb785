use Rattle.std.proofs.Common.{◌≡◌, take, true}
use Rattle.std.specs.List.{All, list_all}
use Rattle.tb_terms.specs.Sizes.{IsWithinLimits, is_within_limits}
use Rattle.tb_terms.proofs.measure.are_within_limits.Given as goal

abbrev pub invariant-loop-term : goal.invariant-loop-term
invariant-loop-term l =
    (list_all is_within_limits (take l.term-index l.terms) ≡ true) × All IsWithinLimits (take l.term-index l.terms)
