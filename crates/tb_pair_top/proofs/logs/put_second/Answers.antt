use Rattle.std.proofs.Common.{codes}
use Rattle.std.proofs.lemmas.Result.{on_err_weaker}
use Rattle.tb_edge.proofs.Puts.{WritesPrefix-append, WritesPrefix-more}
use Rattle.tb_log.specs.LogText.{log_text}
use Rattle.tb_pair_top.proofs.logs.put_second.Goals as goal

pub returns-in-Ok-clause-prefix : goal.returns-in-Ok-clause-prefix
returns-in-Ok-clause-prefix g c =
    on_err_weaker c.put_log.result (WritesPrefix-append (g.O.Sink.taken c.args.out.now) (g.O.Sink.taken c.put.new.self) (g.O.Sink.taken c.put_log.new.out) (codes "--\n") (log_text c.args.log.now.entries) c.in-Ok.ensures.ok) c.put_log.ensures.prefix

pub returns-in-Err-clause-prefix : goal.returns-in-Err-clause-prefix
returns-in-Err-clause-prefix g c = WritesPrefix-more (g.O.Sink.taken c.args.out.now) (g.O.Sink.taken c.put.new.self) (codes "--\n") (log_text c.args.log.now.entries) c.in-Err.ensures.prefix
