use Rattle.std.proofs.Common.{◌≡◌, drop}
use Rattle.std.specs.List.{list_all}
use Rattle.tb_body.specs.Exprs.{is_value}
use Rattle.tb_body.proofs.positions.all_values.Given as goal

abbrev pub invariant-loop-expr : goal.invariant-loop-expr
invariant-loop-expr l = list_all (is_value l.slots) (drop l.expr-index l.exprs) ≡ list_all (is_value l.slots) l.exprs
