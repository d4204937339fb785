use Rattle.std.proofs.Common.{◌≡◌, map, drop}
use Rattle.tb_func.specs.Values.{value_of, all_of}
use Rattle.tb_func.proofs.Prefixes.{with_prefix}
use Rattle.tb_func.proofs.values.+eval_measured.Given as goal

-- the remaining expressions, after the values found so far
abbrev pub invariant-eval_all-loop-expr : goal.invariant-eval_all-loop-expr
invariant-eval_all-loop-expr l =
    with_prefix l.values.terms.items (all_of (map (value_of l.s) (drop l.expr-index l.exprs))) ≡ all_of (map (value_of l.s) l.exprs)
