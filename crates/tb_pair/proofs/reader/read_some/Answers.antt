use Rattle.std.proofs.Common.{◌∷◌, []}
use Rattle.rtrb.specs.Ring.{received}
use Rattle.tb_log.specs.declared.entry.Entry.TheVariants.{Gave}
use Rattle.tb_run.specs.Outcomes.{is_of}
use Rattle.tb_pair.proofs.PipeLemmas.{dropped_out, goes_out}
use Rattle.tb_pair.proofs.ReaderLemmas.{idle_on, feeds_after, stops_reading, refused_reading}
use Rattle.tb_pair.proofs.reader.read_some.Goals as goal

pub returns-in-Some-clause-work : goal.returns-in-Some-clause-work
returns-in-Some-clause-work g c =
    let t = c.in-Some.ensures in
    idle_on c.args.seat.now c.take_out.new.seat (received c.args.pipe.now.end) c.args.reads.now (Gave 1 t.0 ∷ []) (goes_out c.args.seat.now c.take_out.new.seat t.0 t.1) t.2 (dropped_out (is_of 1) t.0)

pub returns-in-Nothing-clause-work : goal.returns-in-Nothing-clause-work
returns-in-Nothing-clause-work g c =
    let t = c.in-Nothing.ensures in
    feeds_after c.args.seat.now c.take_out.new.seat c.feed.new.seat (received c.args.pipe.now.end) (received c.feed.new.pipe.end) c.args.reads.now c.feed.new.reads c.feed.result t.0 t.1 c.feed.ensures.work

pub returns-then-reads-clause-work : goal.returns-then-reads-clause-work
returns-then-reads-clause-work g c =
    let t = c.in-Closed.ensures in
    feeds_after c.args.seat.now c.take_out.new.seat c.feed-then-reads.new.seat (received c.args.pipe.now.end) (received c.feed-then-reads.new.pipe.end) c.args.reads.now c.feed-then-reads.new.reads c.feed-then-reads.result t.adds t.marks c.feed-then-reads.ensures.work

pub returns-else-reads-clause-work : goal.returns-else-reads-clause-work
returns-else-reads-clause-work g c =
    stops_reading c.args.seat.now c.take_out.new.seat (received c.args.pipe.now.end) c.args.reads.now c.if-reads.false c.in-Closed.ensures

pub returns-in-Ends-clause-work : goal.returns-in-Ends-clause-work
returns-in-Ends-clause-work g c =
    refused_reading c.args.seat.now c.take_out.new.seat (received c.args.pipe.now.end) c.args.reads.now c.in-Ends.end c.in-Ends.ensures
