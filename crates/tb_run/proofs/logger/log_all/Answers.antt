use Rattle.std.proofs.Common.{sym, subst}
use Rattle.tb_write.specs.Writers.{WriterView}
use Rattle.tb_run.specs.Logging.{Logged}
use Rattle.tb_run.proofs.LogLemmas.{logged_none, logged_on, log_end}
use Rattle.tb_run.proofs.logger.log_all.Goals as goal

pub loop-init : goal.loop-init
loop-init g c =
    subst (λ (w : WriterView). Logged c.args.seat.now c.args.seat.now w (g.O.Sink.taken c.args.out.now) (g.O.Sink.taken c.args.out.now) (g.O.Sink.faults c.args.out.now) (g.O.Sink.faults c.args.out.now)) (sym c.requires.none)
    (logged_none c.args.seat.now (g.O.Sink.taken c.args.out.now) (g.O.Sink.faults c.args.out.now))

pub loop-preserved : goal.loop-preserved
loop-preserved g c =
    logged_on c.args.seat.now c.loop.seat c.log_some.new.seat c.loop.writer c.log_some.new.writer (g.O.Sink.taken c.args.out.now) (g.O.Sink.taken c.loop.out) (g.O.Sink.taken c.log_some.new.out)
    (g.O.Sink.faults c.args.out.now) (g.O.Sink.faults c.loop.out) (g.O.Sink.faults c.log_some.new.out) c.loop.invariant c.in-None-log_some.ensures

pub returns-in-Some-log_some : goal.returns-in-Some-log_some
returns-in-Some-log_some g c =
    log_end c.args.seat.now c.loop.seat c.log_some.new.seat c.loop.writer c.log_some.new.writer (g.O.Sink.taken c.args.out.now) (g.O.Sink.taken c.loop.out) (g.O.Sink.taken c.log_some.new.out)
    (g.O.Sink.faults c.args.out.now) (g.O.Sink.faults c.loop.out) (g.O.Sink.faults c.log_some.new.out) c.loop.invariant c.in-Some-log_some.end c.in-Some-log_some.ensures
