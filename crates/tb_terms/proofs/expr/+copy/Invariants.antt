use Rattle.std.proofs.Common.{◌≡◌, take}
use Rattle.tb_terms.proofs.expr.+copy.Given as goal

abbrev pub invariant-copy_all-loop-expr : goal.invariant-copy_all-loop-expr
invariant-copy_all-loop-expr l = l.copies ≡ take l.expr-index l.exprs
