use Rattle.std.proofs.Common.{◌+◌, ◌++◌, ◌∙◌, arith, drop}
use Rattle.tb_log.specs.LogText.{log_text_from}
use Rattle.tb_log.specs.Seens.{entry_seen}
use Rattle.std.proofs.lemmas.Option.{slice_get_within}
use Rattle.tb_log.proofs.ReadLemmas.{read_is}
use Rattle.tb_write.proofs.EntryLemmas.{entries-next, entries-prefix, entries-all}
use Rattle.tb_write.proofs.log_writer.LogWriter.put_behind.Goals as goal

pub returns-in-Err-clause-prefix : goal.returns-in-Err-clause-prefix
returns-in-Err-clause-prefix g c =
    let entries = c.args.log.now.entries in
    let entry = entry_seen c.at.result in
    entries-prefix (g.O.Sink.taken c.args.out.now) (g.O.Sink.taken c.loop-at.out) (g.O.Sink.taken c.put_entry.new.out) (c.args.self.now.held ++ log_text_from (c.args.self.now.written + 1) (drop c.args.from entries))
    entries c.loop-at.self.held c.loop-at.self.written c.loop-at.at entry (slice_get_within entries c.loop-at.at entry c.at.ensures) (read_is entries c.loop-at.at entry c.at.ensures) c.loop-at.invariant.owed c.in-Err.ensures.prefix

pub loop-at-preserved : goal.loop-at-preserved
loop-at-preserved g c =
    let entries = c.args.log.now.entries in
    let entry = entry_seen c.at.result in
    record {
      owed = entries-next (g.O.Sink.taken c.args.out.now) (g.O.Sink.taken c.loop-at.out) (g.O.Sink.taken c.put_entry.new.out) (c.args.self.now.held ++ log_text_from (c.args.self.now.written + 1) (drop c.args.from entries))
          entries c.loop-at.self.held c.put_entry.new.self.held c.loop-at.self.written c.put_entry.new.self.written c.loop-at.at entry (slice_get_within entries c.loop-at.at entry c.at.ensures) (read_is entries c.loop-at.at entry c.at.ensures)
          c.in-Ok.ensures.counted c.loop-at.invariant.owed c.in-Ok.ensures.ok;
      counted = omega (arith, c.in-Ok.ensures.counted, c.loop-at.invariant.counted);
      small = λ _. c.in-Ok.ensures.small;
      calm = c.in-Ok.ensures.calm ∙ c.loop-at.invariant.calm;
    }

pub returns-clause-ok : goal.returns-clause-ok
returns-clause-ok g c =
    let entries = c.args.log.now.entries in
    entries-all (g.O.Sink.taken c.args.out.now) (g.O.Sink.taken c.loop-at.out) (c.args.self.now.held ++ log_text_from (c.args.self.now.written + 1) (drop c.args.from entries))
    entries c.loop-at.self.held (c.loop-at.self.written + 1) c.loop-at.at (omega arith) c.loop-at.invariant.owed
