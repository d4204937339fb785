use Rattle.tb_parse.proofs.Exits.{meets_err}
use Rattle.tb_parse.proofs.Times.{times_begin, times_stop, times_last, times_more, times_end}
use Rattle.tb_parse.proofs.atoms.times.Goals as goal

pub loop-turn-init : goal.loop-turn-init
loop-turn-init c = times_begin c.args.room c.args.room c.args.reader.now c.new-found.ensures

pub loop-turn-preserved : goal.loop-turn-preserved
loop-turn-preserved c =
    times_more c.args.room c.args.room c.args.reader.now c.loop-turn.found c.loop-turn._turn c.loop-turn.reader
    c.loop-turn-test.true c.loop-turn.invariant c.is_time.ensures c.if-not-is_time.false c.in_ok-time.ensures c.in_ok-push.ensures.ok

pub returns-in_err-time : goal.returns-in_err-time
returns-in_err-time c =
    meets_err _ _ _ _ _ c.from_residual.ensures.1 c.in_err-time.ensures
    (λ position e. times_stop c.args.room c.args.room c.args.reader.now c.loop-turn.found c.loop-turn._turn c.loop-turn.reader c.loop-turn-test.true c.loop-turn.invariant c.is_time.ensures c.if-not-is_time.false e)

pub returns-then-not-is_time : goal.returns-then-not-is_time
returns-then-not-is_time c =
    times_last c.args.room c.args.room c.args.reader.now c.loop-turn.found c.loop-turn._turn c.loop-turn.reader c.loop-turn-test.true c.loop-turn.invariant c.is_time.ensures c.if-not-is_time.true

pub returns : goal.returns
returns c = times_end c.args.room c.args.room c.args.reader.now c.loop-turn.found c.loop-turn._turn c.loop-turn.reader c.loop-turn-test.false c.loop-turn.invariant c.position.ensures
