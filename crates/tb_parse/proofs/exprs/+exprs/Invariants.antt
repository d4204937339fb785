use Rattle.std.proofs.Common.{◌+◌, ◌*◌}
use Rattle.tb_parse.specs.Helpers.Parsing.{expr}
use Rattle.tb_parse.proofs.Parts.{PartsSoFar}
use Rattle.tb_parse.proofs.exprs.+exprs.Given as goal

abbrev pub decreases-expr : goal.decreases-expr
decreases-expr l = 4 * l.room

abbrev pub decreases-exprs : goal.decreases-exprs
decreases-exprs l = 4 * l.room + 1

abbrev pub decreases-arguments : goal.decreases-arguments
decreases-arguments l = 4 * l.room + 2

abbrev pub decreases-list : goal.decreases-list
decreases-list l = 4 * l.room + 2

abbrev pub decreases-kind : goal.decreases-kind
decreases-kind l = 4 * l.room + 3

abbrev pub invariant-exprs-loop-turn : goal.invariant-exprs-loop-turn
invariant-exprs-loop-turn l = PartsSoFar (expr l.room) l.room l.fn.reader l.parts l._turn l.reader
