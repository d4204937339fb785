use Rattle.std.proofs.Common.{◌+◌, ◌++◌, drop}
use Rattle.std.proofs.lemmas.Result.{on_err_weaker}
use Rattle.tb_log.specs.LogText.{log_text_from}
use Rattle.tb_write.proofs.EntryLemmas.{flushed-prefix}
use Rattle.tb_write.proofs.log_writer.LogWriter.put_behind_and_flush.Goals as goal

pub returns-in-Ok-clause-prefix : goal.returns-in-Ok-clause-prefix
returns-in-Ok-clause-prefix g c =
    on_err_weaker c.flush.result
    (flushed-prefix (g.O.Sink.taken c.args.out.now) (g.O.Sink.taken c.put_behind.new.out) (g.O.Sink.taken c.flush.new.out)
    (c.args.self.now.held ++ log_text_from (c.args.self.now.written + 1) (drop c.args.from c.args.log.now.entries)) c.put_behind.new.self.held c.in-Ok.ensures.ok)
    c.flush.ensures.prefix
