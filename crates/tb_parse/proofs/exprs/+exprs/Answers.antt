use Rattle.tb_parse.specs.Helpers.Parsing.{expr}
use Rattle.tb_parse.proofs.Exits.{meets_err}
use Rattle.tb_parse.proofs.Parts.{parts_begin, parts_stop, parts_last, parts_more, parts_end}
use Rattle.tb_parse.proofs.exprs.+exprs.Goals as goal

pub exprs-loop-turn-init : goal.exprs-loop-turn-init
exprs-loop-turn-init t c = parts_begin (expr c.args.room) c.args.room c.args.reader.now c.new-parts.ensures

pub exprs-loop-turn-preserved : goal.exprs-loop-turn-preserved
exprs-loop-turn-preserved t c =
    parts_more (expr c.args.room) c.args.room c.args.reader.now c.loop-turn.parts c.loop-turn._turn c.loop-turn.reader
    c.loop-turn-test.true c.loop-turn.invariant c.in_ok-expr.ensures c.in_ok-push.ensures.ok c.eat_sign.ensures.found c.eat_sign.ensures.behind c.if-not-eat_sign.false

pub exprs-returns-in_err-expr : goal.exprs-returns-in_err-expr
exprs-returns-in_err-expr t c =
    meets_err _ _ _ _ _ c.from_residual.ensures.1 c.in_err-expr.ensures
    (λ position e. parts_stop (expr c.args.room) c.args.room c.args.reader.now c.loop-turn.parts c.loop-turn._turn c.loop-turn.reader c.loop-turn-test.true c.loop-turn.invariant e)

pub exprs-returns-then-not-eat_sign : goal.exprs-returns-then-not-eat_sign
exprs-returns-then-not-eat_sign t c =
    parts_last (expr c.args.room) c.args.room c.args.reader.now c.loop-turn.parts c.loop-turn._turn c.loop-turn.reader
    c.loop-turn-test.true c.loop-turn.invariant c.in_ok-expr.ensures c.in_ok-push.ensures.ok c.eat_sign.ensures.found c.eat_sign.ensures.behind c.if-not-eat_sign.true

pub exprs-returns : goal.exprs-returns
exprs-returns t c =
    parts_end (expr c.args.room) c.args.room c.args.reader.now c.loop-turn.parts c.loop-turn._turn c.loop-turn.reader c.loop-turn-test.false c.loop-turn.invariant c.position.ensures
