use Rattle.std.proofs.Common.{◌≡◌, ◌<◌, ◌≤◌, ◌+◌, ◌++◌, drop, length}
use Rattle.tb_edge.specs.Sinks.{Owes}
use Rattle.tb_log.specs.LogText.{log_text_from}
use Rattle.tb_write.proofs.log_writer.LogWriter.put_behind.Given as goal

-- the held bytes and the lines of the remaining entries are still to be written
abbrev pub invariant-loop-at : goal.invariant-loop-at
invariant-loop-at g l = record {
  owed : Owes (g.O.Sink.taken l.initial.out) (g.O.Sink.taken l.out) (l.initial.self.held ++ log_text_from (l.initial.self.written + 1) (drop l.from l.log.entries)) (l.self.held ++ log_text_from (l.self.written + 1) (drop l.at l.log.entries));
  counted : l.self.written + l.from ≡ l.initial.self.written + l.at;
  small : length l.initial.self.held < 32768 → length l.self.held < 32768;
  calm : g.O.Sink.faults l.out ≡ g.O.Sink.faults l.initial.out;
}
