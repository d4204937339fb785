use Rattle.tb_run.specs.Logging.{Logged}
use Rattle.tb_run.proofs.logger.log_all.Given as goal

abbrev pub invariant-loop : goal.invariant-loop
invariant-loop g l = Logged l.fn.seat l.seat l.writer (g.O.Sink.taken l.fn.out) (g.O.Sink.taken l.out) (g.O.Sink.faults l.fn.out) (g.O.Sink.faults l.out)
