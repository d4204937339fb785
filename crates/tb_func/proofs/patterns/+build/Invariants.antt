use Rattle.std.proofs.Common.{◌≡◌, map, drop}
use Rattle.tb_func.specs.Helpers.Parts.{as_patterns}
use Rattle.tb_func.specs.Patterns.{pattern_of}
use Rattle.tb_func.specs.Values.{all_of}
use Rattle.tb_func.proofs.Prefixes.{with_prefix}
use Rattle.tb_func.proofs.patterns.+build.Given as goal

-- the remaining expressions, after the patterns found so far
abbrev pub invariant-build_all-loop-expr : goal.invariant-build_all-loop-expr
invariant-build_all-loop-expr l =
    with_prefix (as_patterns l.parts) (all_of (map (pattern_of l.s) (drop l.expr-index l.exprs))) ≡ all_of (map (pattern_of l.s) l.exprs)
