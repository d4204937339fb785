use Rattle.std.proofs.Common.{sym, subst}
use Rattle.tb_run.specs.declared.ends.LogEnd.{LogEnd}
use Rattle.tb_run.specs.Logging.{PutsLast}
use Rattle.tb_run.proofs.LogLemmas.{puts_fault}
use Rattle.tb_run.proofs.logger.put_some.Goals as goal

pub returns-in-Err : goal.returns-in-Err
returns-in-Err g c =
    subst (λ (it : LogEnd). PutsLast c.args.seat.now c.stop.new.seat c.args.piece.now c.args.writer.now c.put_piece.new.writer (g.O.Sink.taken c.args.out.now) (g.O.Sink.taken c.put_piece.new.out) (g.O.Sink.faults c.args.out.now) (g.O.Sink.faults c.put_piece.new.out) it) (sym c.end_of.ensures)
    (puts_fault c.args.seat.now c.stop.new.seat c.args.piece.now c.args.writer.now c.put_piece.new.writer (g.O.Sink.taken c.args.out.now) (g.O.Sink.taken c.put_piece.new.out) (g.O.Sink.faults c.args.out.now) (g.O.Sink.faults c.put_piece.new.out)
    c.in-Err.fault c.stop.ensures c.in-Err.ensures.prefix c.in-Err.ensures.rose)
