use Rattle.std.proofs.Common.{◌+◌, ◌-◌}
use Rattle.tb_parse.proofs.Exits.{meets_err}
use Rattle.tb_parse.proofs.KeptRows.{kept_begin, kept_last, kept_stop, kept_end}
use Rattle.tb_parse.proofs.definitions.definitions.Goals as goal

pub loop-turn-init : goal.loop-turn-init
loop-turn-init c = kept_begin c.args.room c.args.room c.args.reader.now c.nothing-found.ensures

pub returns-in_err-define : goal.returns-in_err-define
returns-in_err-define c =
    meets_err _ _ _ _ _ c.from_residual.ensures.1 (c.in_err-define.ensures (c.args.room - (c.loop-turn._turn + 1)))
    (λ position e. kept_stop c.args.room c.args.room c.args.reader.now c.loop-turn.found c.loop-turn._turn c.loop-turn.reader c.loop-turn-test.true c.loop-turn.invariant e)

pub returns-then-not-branch : goal.returns-then-not-branch
returns-then-not-branch c =
    kept_last c.args.room c.args.room c.args.reader.now c.loop-turn.found c.loop-turn._turn c.loop-turn.reader
    c.loop-turn-test.true c.loop-turn.invariant c.in_ok-define.ensures c.if-not-branch.true

pub returns : goal.returns
returns c = kept_end c.args.room c.args.room c.args.reader.now c.loop-turn.found c.loop-turn._turn c.loop-turn.reader c.loop-turn-test.false c.loop-turn.invariant c.position.ensures
