use Rattle.rtrb.specs.Ring.{sent}
use Rattle.tb_pair.proofs.RingLemmas.{producer_same, producer_on}
use Rattle.tb_pair.proofs.WriterLemmas.{wrote_none, writes_both, wrote_end}
use Rattle.tb_pair.proofs.writer.write_on.Goals as goal

pub loop-init : goal.loop-init
loop-init g c = (producer_same c.args.pipe.now.end, wrote_none c.args.seat.now (sent c.args.pipe.now.end) c.args.pipe.now.flows)

pub loop-preserved : goal.loop-preserved
loop-preserved g c = (
  producer_on c.args.pipe.now.end c.loop.pipe.end c.write_one.new.pipe.end c.loop.invariant.0 c.in-None-write_one.ensures.ring,
  writes_both c.loop.pipe.flows c.args.seat.now c.loop.seat c.write_one.new.seat (sent c.args.pipe.now.end) (sent c.loop.pipe.end) (sent c.write_one.new.pipe.end) c.args.pipe.now.flows c.write_one.new.pipe.flows
      c.loop.invariant.1 c.in-None-write_one.ensures.work,
)

pub returns-in-Some-write_one-clause-work : goal.returns-in-Some-write_one-clause-work
returns-in-Some-write_one-clause-work g c =
    wrote_end c.args.seat.now c.loop.seat c.write_one.new.seat (sent c.args.pipe.now.end) (sent c.loop.pipe.end) (sent c.write_one.new.pipe.end) c.args.pipe.now.flows c.loop.pipe.flows c.write_one.new.pipe.flows c.in-Some-write_one.end
    c.loop.invariant.1 c.in-Some-write_one.ensures.work
