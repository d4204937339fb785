use Rattle.std.proofs.Common.{◌≡◌, ◌++◌, drop, option_map}
use Rattle.tb_process_steps.specs.Atoms.{patterns_of}
use Rattle.tb_process_steps.proofs.values.patterns_of.Given as goal

-- the patterns so far, followed by the patterns of the remaining expressions, are the patterns of all expressions
abbrev pub invariant-loop-expr : goal.invariant-loop-expr
invariant-loop-expr l =
    option_map (λ rest. l.patterns ++ rest) (patterns_of l.store (drop l.expr-index l.exprs)) ≡ patterns_of l.store l.exprs
