use Rattle.std.proofs.Common.{◌≡◌, arith}
use Rattle.tb_pair.proofs.TickerLemmas.{on_none, on_one, on_end, on_all}
use Rattle.tb_pair.proofs.ticker.tick_all.Goals as goal

pub loop-done-init : goal.loop-done-init
loop-done-init g c = (
  on_none c.args.one.now.seat c.args.other.now.seat c.args.one.now.end c.args.other.now.end (g.C.Clock.told c.args.clock.now) (g.C.Clock.faults c.args.clock.now) c.requires.one.1 c.requires.other.1,
  c.requires.one.0,
  c.requires.other.0,
)

pub loop-done-preserved : goal.loop-done-preserved
loop-done-preserved g c = (
  on_one c.args.one.now.seat c.loop-done.one.seat c.tick_one.new.one.seat c.args.other.now.seat c.loop-done.other.seat c.tick_one.new.other.seat c.loop-done.one.end c.tick_one.new.one.end c.loop-done.other.end c.tick_one.new.other.end
      (g.C.Clock.told c.args.clock.now) (g.C.Clock.told c.loop-done.clock) (g.C.Clock.told c.tick_one.new.clock) (g.C.Clock.faults c.args.clock.now) (g.C.Clock.faults c.loop-done.clock) (g.C.Clock.faults c.tick_one.new.clock) c.loop-done._done
      c.loop-done.invariant.0 c.in-None.ensures.ticked,
  c.in-None.ensures.one,
  c.in-None.ensures.other,
)

pub returns-in-Some-clause-ticked : goal.returns-in-Some-clause-ticked
returns-in-Some-clause-ticked g c =
    let n = c.in-Some.ensures.ticked in
    on_end c.args.one.now.seat c.loop-done.one.seat c.tick_one.new.one.seat c.args.other.now.seat c.loop-done.other.seat c.tick_one.new.other.seat c.loop-done.one.end c.tick_one.new.one.end c.loop-done.other.end c.tick_one.new.other.end
    (g.C.Clock.told c.args.clock.now) (g.C.Clock.told c.loop-done.clock) (g.C.Clock.told c.tick_one.new.clock) (g.C.Clock.faults c.args.clock.now) (g.C.Clock.faults c.loop-done.clock) (g.C.Clock.faults c.tick_one.new.clock) c.loop-done._done
    c.loop-done.invariant.0 c.args.ticks c.in-Some.wanted (let t = c.loop-done-test.true in omega arith) n.0 n.1 n.2 n.3 n.4

pub returns-clause-ticked : goal.returns-clause-ticked
returns-clause-ticked g c =
    let all : c.loop-done._done ≡ c.args.ticks = (let t = c.loop-done-test.false in let u = c.loop-done.auto._done-end in omega arith) in
    on_all c.args.ticks c.args.one.now.seat c.loop-done.one.seat c.args.other.now.seat c.loop-done.other.seat c.loop-done.one.end c.loop-done.other.end (g.C.Clock.told c.args.clock.now) (g.C.Clock.told c.loop-done.clock) (g.C.Clock.faults c.args.clock.now) (g.C.Clock.faults c.loop-done.clock) c.loop-done._done
    all c.loop-done.invariant.0
