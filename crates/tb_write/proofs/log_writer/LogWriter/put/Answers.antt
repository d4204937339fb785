use Rattle.std.proofs.Common.{◌+◌, ◌++◌, ◌∙◌, arith}
use Rattle.tb_log.specs.LogText.{log_text_from}
use Rattle.tb_log.specs.Seens.{entry_seen}
use Rattle.tb_write.proofs.EntryLemmas.{entries-next, entries-prefix, entries-all, lent}
use Rattle.tb_write.proofs.log_writer.LogWriter.put.Goals as goal

pub returns-in-Err-clause-prefix : goal.returns-in-Err-clause-prefix
returns-in-Err-clause-prefix g c =
    entries-prefix (g.O.Sink.taken c.args.out.now) (g.O.Sink.taken c.loop-entry.out) (g.O.Sink.taken c.put_entry.new.out) (c.args.self.now.held ++ log_text_from (c.args.self.now.written + 1) c.args.entries.now)
    c.args.entries.now c.loop-entry.self.held c.loop-entry.self.written c.loop-entry.entry-index (entry_seen c.of.result) c.loop-entry-test.true (lent c.args.entries.now c.loop-entry.entry-index c.entry-item.result (entry_seen c.of.result) c.of.ensures c.entry-item.is) c.loop-entry.invariant.owed c.in-Err.ensures.prefix

pub loop-entry-preserved : goal.loop-entry-preserved
loop-entry-preserved g c = record {
  owed = entries-next (g.O.Sink.taken c.args.out.now) (g.O.Sink.taken c.loop-entry.out) (g.O.Sink.taken c.put_entry.new.out) (c.args.self.now.held ++ log_text_from (c.args.self.now.written + 1) c.args.entries.now)
      c.args.entries.now c.loop-entry.self.held c.put_entry.new.self.held c.loop-entry.self.written c.put_entry.new.self.written c.loop-entry.entry-index (entry_seen c.of.result) c.loop-entry-test.true (lent c.args.entries.now c.loop-entry.entry-index c.entry-item.result (entry_seen c.of.result) c.of.ensures c.entry-item.is)
      c.in-Ok.ensures.counted c.loop-entry.invariant.owed c.in-Ok.ensures.ok;
  counted = omega (arith, c.in-Ok.ensures.counted, c.loop-entry.invariant.counted);
  small = λ _. c.in-Ok.ensures.small;
  within = omega (arith, c.loop-entry-test.true);
  calm = c.in-Ok.ensures.calm ∙ c.loop-entry.invariant.calm;
}

pub returns-clause-ok : goal.returns-clause-ok
returns-clause-ok g c =
    entries-all (g.O.Sink.taken c.args.out.now) (g.O.Sink.taken c.loop-entry.out) (c.args.self.now.held ++ log_text_from (c.args.self.now.written + 1) c.args.entries.now)
    c.args.entries.now c.loop-entry.self.held (c.loop-entry.self.written + 1) c.loop-entry.entry-index c.loop-entry-test.false c.loop-entry.invariant.owed
