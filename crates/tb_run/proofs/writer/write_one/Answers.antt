use Rattle.tb_run.proofs.WriteLemmas.{writes_none, writes_item}
use Rattle.tb_run.proofs.writer.write_one.Goals as goal

pub returns-in-Free-clause-work : goal.returns-in-Free-clause-work
returns-in-Free-clause-work g c =
    writes_none c.args.lane c.args.seat.now c.take_one.new.seat (g.O.Outlet.told c.args.outlet.now) (g.O.Outlet.faults c.args.outlet.now) c.in-Free.ensures.0 c.in-Free.ensures.1

pub returns-in-Holds-clause-work : goal.returns-in-Holds-clause-work
returns-in-Holds-clause-work g c =
    let t = c.in-Holds.ensures in
    let put = c.put_one in
    writes_item c.args.lane c.in-Holds.out c.args.seat.now c.take_one.new.seat put.new.seat (g.O.Outlet.told c.args.outlet.now) (g.O.Outlet.told put.new.outlet) (g.O.Outlet.faults c.args.outlet.now) (g.O.Outlet.faults put.new.outlet)
    t.0 t.1 put.result put.ensures.puts

pub returns-in-Ended-clause-work : goal.returns-in-Ended-clause-work
returns-in-Ended-clause-work g c = c.in-Ended.ensures (g.O.Outlet.told c.args.outlet.now) (g.O.Outlet.faults c.args.outlet.now)
