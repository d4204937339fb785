use Rattle.std.proofs.Common.{refl}
use Rattle.tb_run.proofs.SeatLemmas.{adds_none}
use Rattle.tb_run.proofs.WriteLemmas.{writes_none, writes_on, writes_end}
use Rattle.tb_run.proofs.writer.write_all.Goals as goal

pub loop-init : goal.loop-init
loop-init g c = (writes_none c.args.lane c.args.seat.now c.args.seat.now (g.O.Outlet.told c.args.outlet.now) (g.O.Outlet.faults c.args.outlet.now) (adds_none c.args.seat.now) (refl, refl), c.requires.room)

pub loop-preserved : goal.loop-preserved
loop-preserved g c = (
  writes_on c.args.lane c.args.seat.now c.loop.seat c.write_one.new.seat (g.O.Outlet.told c.args.outlet.now) (g.O.Outlet.told c.loop.outlet) (g.O.Outlet.told c.write_one.new.outlet)
      (g.O.Outlet.faults c.args.outlet.now) (g.O.Outlet.faults c.loop.outlet) (g.O.Outlet.faults c.write_one.new.outlet) c.loop.invariant.0 c.in-None-write_one.ensures.work,
  c.in-None-write_one.ensures.room,
)

pub returns-in-Some-write_one-clause-work : goal.returns-in-Some-write_one-clause-work
returns-in-Some-write_one-clause-work g c =
    writes_end c.args.lane c.args.seat.now c.loop.seat c.write_one.new.seat (g.O.Outlet.told c.args.outlet.now) (g.O.Outlet.told c.loop.outlet) (g.O.Outlet.told c.write_one.new.outlet)
    (g.O.Outlet.faults c.args.outlet.now) (g.O.Outlet.faults c.loop.outlet) (g.O.Outlet.faults c.write_one.new.outlet) c.in-Some-write_one.end c.loop.invariant.0 c.in-Some-write_one.ensures.work

pub returns-in-Some-write_one-clause-room : goal.returns-in-Some-write_one-clause-room
returns-in-Some-write_one-clause-room g c = c.in-Some-write_one.ensures.room
