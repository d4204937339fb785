use Rattle.std.proofs.Common.{◌≡◌, ◌<◌, ◌≤◌, ◌+◌, ◌++◌, drop, length}
use Rattle.tb_edge.specs.Sinks.{Owes}
use Rattle.tb_log.specs.LogText.{log_text_from}
use Rattle.tb_write.proofs.log_writer.LogWriter.put.Given as goal

-- the held bytes and the lines of the remaining entries are still to be written
abbrev pub invariant-loop-entry : goal.invariant-loop-entry
invariant-loop-entry g l = record {
  owed : Owes (g.O.Sink.taken l.initial.out) (g.O.Sink.taken l.out) (l.initial.self.held ++ log_text_from (l.initial.self.written + 1) l.entries) (l.self.held ++ log_text_from (l.self.written + 1) (drop l.entry-index l.entries));
  counted : l.self.written ≡ l.initial.self.written + l.entry-index;
  small : length l.initial.self.held < 32768 → length l.self.held < 32768;
  within : l.entry-index ≤ length l.entries;
  calm : g.O.Sink.faults l.out ≡ g.O.Sink.faults l.initial.out;
}
