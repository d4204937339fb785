use Rattle.tb_parse.specs.Helpers.Parsing.{formal}
use Rattle.tb_parse.proofs.Exits.{meets_err}
use Rattle.tb_parse.proofs.Parts.{parts_begin, parts_stop, parts_last, parts_more, parts_end}
use Rattle.tb_parse.proofs.definitions.parted_formals.Goals as goal

pub loop-turn-init : goal.loop-turn-init
loop-turn-init c = parts_begin (formal c.args.room) c.args.room c.args.reader.now c.new-found.ensures

pub loop-turn-preserved : goal.loop-turn-preserved
loop-turn-preserved c =
    parts_more (formal c.args.room) c.args.room c.args.reader.now c.loop-turn.found c.loop-turn._turn c.loop-turn.reader
    c.loop-turn-test.true c.loop-turn.invariant c.in_ok-formal.ensures c.in_ok-push.ensures.ok c.eat_sign.ensures.found c.eat_sign.ensures.behind c.if-not-eat_sign.false

pub returns-in_err-formal : goal.returns-in_err-formal
returns-in_err-formal c =
    meets_err _ _ _ _ _ c.from_residual.ensures.1 c.in_err-formal.ensures
    (λ position e. parts_stop (formal c.args.room) c.args.room c.args.reader.now c.loop-turn.found c.loop-turn._turn c.loop-turn.reader c.loop-turn-test.true c.loop-turn.invariant e)

pub returns-then-not-eat_sign : goal.returns-then-not-eat_sign
returns-then-not-eat_sign c =
    parts_last (formal c.args.room) c.args.room c.args.reader.now c.loop-turn.found c.loop-turn._turn c.loop-turn.reader
    c.loop-turn-test.true c.loop-turn.invariant c.in_ok-formal.ensures c.in_ok-push.ensures.ok c.eat_sign.ensures.found c.eat_sign.ensures.behind c.if-not-eat_sign.true

pub returns : goal.returns
returns c = parts_end (formal c.args.room) c.args.room c.args.reader.now c.loop-turn.found c.loop-turn._turn c.loop-turn.reader c.loop-turn-test.false c.loop-turn.invariant c.position.ensures
