use Rattle.tb_run.proofs.DeskLemmas.{writer_put}
use Rattle.tb_run.proofs.helping.put_held.Goals as goal

pub invariant_of-desk : goal.invariant_of-desk
invariant_of-desk g c =
    let desk = c.desk.inside in
    let put = c.put_one-end in
    writer_put g.K.Begins.bus g.K.Begins.starts desk.at desk.lane c.in-Holds.out desk.seat put.new.seat (g.O.Outlet.told desk.outlet) (g.O.Outlet.told put.new.outlet) (g.O.Outlet.faults desk.outlet) (g.O.Outlet.faults put.new.outlet)
    desk.stage c.after.result put.result c.in-Holds.ensures.value c.after.ensures c.desk.invariant put.ensures.puts

pub invariant_of-desk-in-Holds-3 : goal.invariant_of-desk-in-Holds-3
invariant_of-desk-in-Holds-3 g c =
    let desk = c.desk.inside in
    let put = c.put_one-end in
    writer_put g.K.Begins.bus g.K.Begins.starts desk.at desk.lane c.in-Holds.out desk.seat put.new.seat (g.O.Outlet.told desk.outlet) (g.O.Outlet.told put.new.outlet) (g.O.Outlet.faults desk.outlet) (g.O.Outlet.faults put.new.outlet)
    desk.stage c.after.result put.result c.in-Holds.ensures.value c.after.ensures c.desk.invariant put.ensures.puts

pub invariant_of-desk-in-Holds-6 : goal.invariant_of-desk-in-Holds-6
invariant_of-desk-in-Holds-6 g c =
    let desk = c.desk.inside in
    let put = c.put_one-end in
    writer_put g.K.Begins.bus g.K.Begins.starts desk.at desk.lane c.in-Holds.out desk.seat put.new.seat (g.O.Outlet.told desk.outlet) (g.O.Outlet.told put.new.outlet) (g.O.Outlet.faults desk.outlet) (g.O.Outlet.faults put.new.outlet)
    desk.stage c.after.result put.result c.in-Holds.ensures.value c.after.ensures c.desk.invariant put.ensures.puts
