use Rattle.std.proofs.Common.{◌≡◌, ◌++◌, drop, option_map}
use Rattle.tb_process_steps.specs.Atoms.{patterns_of}
use Rattle.tb_walk.proofs.patterns.message.Given as goal

-- the patterns so far, and then those of the expressions that are left
abbrev pub invariant-loop-expr : goal.invariant-loop-expr
invariant-loop-expr l =
    option_map (λ rest. l.patterns ++ rest) (patterns_of l.store (drop l.expr-index l.exprs)) ≡ patterns_of l.store l.exprs
