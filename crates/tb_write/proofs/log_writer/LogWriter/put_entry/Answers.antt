use Rattle.std.proofs.Common.{◌+◌, ◌++◌}
use Rattle.tb_edge.proofs.Puts.{WritesPrefix-none}
use Rattle.tb_log.specs.LogText.{entry_text}
use Rattle.tb_log.specs.Seens.{entry_seen}
use Rattle.tb_write.proofs.log_writer.LogWriter.put_entry.Goals as goal

pub returns-in-Err-clause-prefix : goal.returns-in-Err-clause-prefix
returns-in-Err-clause-prefix g c = WritesPrefix-none (g.O.Sink.taken c.args.out.now) (c.args.self.now.held ++ entry_text (c.args.self.now.written + 1) (entry_seen c.args.seen.now))
