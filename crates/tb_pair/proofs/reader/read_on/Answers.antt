use Rattle.rtrb.specs.Ring.{received}
use Rattle.tb_pair.proofs.RingLemmas.{consumer_same, consumer_on}
use Rattle.tb_pair.proofs.ReaderLemmas.{reads_none, reads_both, read_to}
use Rattle.tb_pair.proofs.reader.read_on.Goals as goal

pub loop-init : goal.loop-init
loop-init g c = (consumer_same c.args.pipe.now.end, reads_none c.args.seat.now (received c.args.pipe.now.end) c.args.reads)

pub loop-preserved : goal.loop-preserved
loop-preserved g c = (
  consumer_on c.args.pipe.now.end c.loop.pipe.end c.read_some.new.pipe.end c.loop.invariant.0 c.in-None-read_some.ensures.ring,
  reads_both c.loop.reads c.args.seat.now c.loop.seat c.read_some.new.seat (received c.args.pipe.now.end) (received c.loop.pipe.end) (received c.read_some.new.pipe.end) c.args.reads c.read_some.new.reads
      c.loop.invariant.1 c.in-None-read_some.ensures.work,
)

pub returns-in-Some-read_some-clause-work : goal.returns-in-Some-read_some-clause-work
returns-in-Some-read_some-clause-work g c =
    read_to c.args.seat.now c.loop.seat c.read_some.new.seat (received c.args.pipe.now.end) (received c.loop.pipe.end) (received c.read_some.new.pipe.end) c.args.reads c.loop.reads c.in-Some-read_some.end
    c.loop.invariant.1 c.in-Some-read_some.ensures.work
