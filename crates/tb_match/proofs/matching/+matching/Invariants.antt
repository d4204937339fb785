use Rattle.std.proofs.Common.{◌≡◌, map, drop}
use Rattle.tb_match.specs.Joining.{with_prefix}
use Rattle.tb_match.specs.Matches.{match_term, match_all}
use Rattle.tb_match.proofs.matching.+matching.Given as goal

-- the remaining parts, joined to the binds so far
abbrev pub invariant-match_parts-loop-position : goal.invariant-match_parts-loop-position
invariant-match_parts-loop-position l =
    with_prefix l.binds (match_all (map match_term (drop l.position l.patterns)) (drop l.position l.terms))
    ≡ with_prefix l.initial.binds (match_all (map match_term l.patterns) l.terms)
