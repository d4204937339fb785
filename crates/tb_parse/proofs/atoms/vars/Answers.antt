use Rattle.tb_parse.specs.Helpers.Parsing.{var}
use Rattle.tb_parse.proofs.Exits.{meets_err}
use Rattle.tb_parse.proofs.Parts.{parts_begin, parts_stop, parts_last, parts_more, parts_end}
use Rattle.tb_parse.proofs.atoms.vars.Goals as goal

pub loop-turn-init : goal.loop-turn-init
loop-turn-init c = parts_begin (var c.args.room) c.args.room c.args.reader.now c.new-found.ensures

pub loop-turn-preserved : goal.loop-turn-preserved
loop-turn-preserved c =
    parts_more (var c.args.room) c.args.room c.args.reader.now c.loop-turn.found c.loop-turn._turn c.loop-turn.reader
    c.loop-turn-test.true c.loop-turn.invariant c.in_ok-var.ensures c.in_ok-push.ensures.ok c.eat_sign.ensures.found c.eat_sign.ensures.behind c.if-not-eat_sign.false

pub returns-in_err-var : goal.returns-in_err-var
returns-in_err-var c =
    meets_err _ _ _ _ _ c.from_residual.ensures.1 c.in_err-var.ensures
    (λ position e. parts_stop (var c.args.room) c.args.room c.args.reader.now c.loop-turn.found c.loop-turn._turn c.loop-turn.reader c.loop-turn-test.true c.loop-turn.invariant e)

pub returns-then-not-eat_sign : goal.returns-then-not-eat_sign
returns-then-not-eat_sign c =
    parts_last (var c.args.room) c.args.room c.args.reader.now c.loop-turn.found c.loop-turn._turn c.loop-turn.reader
    c.loop-turn-test.true c.loop-turn.invariant c.in_ok-var.ensures c.in_ok-push.ensures.ok c.eat_sign.ensures.found c.eat_sign.ensures.behind c.if-not-eat_sign.true

pub returns : goal.returns
returns c = parts_end (var c.args.room) c.args.room c.args.reader.now c.loop-turn.found c.loop-turn._turn c.loop-turn.reader c.loop-turn-test.false c.loop-turn.invariant c.position.ensures
