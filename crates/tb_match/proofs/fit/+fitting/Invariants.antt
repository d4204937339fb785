use Rattle.std.proofs.Common.{◌≡◌, map, drop, IsTrue}
use Rattle.tb_match.specs.Matches.{match_term, match_all, are_plain}
use Rattle.tb_match.proofs.fit.+fitting.Given as goal

-- the remaining parts decide
abbrev pub invariant-fits_parts-loop-position : goal.invariant-fits_parts-loop-position
invariant-fits_parts-loop-position l =
    (match_all (map match_term (drop l.position l.patterns)) (drop l.position l.terms) ≡ match_all (map match_term l.patterns) l.terms)
    × IsTrue (are_plain (drop l.position l.patterns))
