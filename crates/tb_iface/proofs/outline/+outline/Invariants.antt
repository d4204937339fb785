use Rattle.std.proofs.Common.{◌≡◌, map, take}
use Rattle.tb_iface.specs.Outlines.{outline}
use Rattle.tb_iface.proofs.outline.+outline.Given as goal

abbrev pub invariant-outlines-loop-expr : goal.invariant-outlines-loop-expr
invariant-outlines-loop-expr l = l.patterns ≡ map (outline l.sorts) (take l.expr-index l.exprs)
