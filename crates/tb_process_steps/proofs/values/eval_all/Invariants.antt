use Rattle.std.proofs.Common.{◌≡◌, ◌++◌, map, drop, option_map}
use Rattle.tb_func.specs.Values.{value_of, all_of}
use Rattle.tb_process_steps.proofs.values.eval_all.Given as goal

-- the values so far, followed by the values of the remaining expressions, are the values of all expressions
abbrev pub invariant-loop-expr : goal.invariant-loop-expr
invariant-loop-expr l =
    option_map (λ rest. l.terms ++ rest) (all_of (map (value_of l.store) (drop l.expr-index l.exprs)))
    ≡ all_of (map (value_of l.store) l.exprs)
