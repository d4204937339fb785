use Rattle.tb_run.proofs.DeskLemmas.{writer_begins}
use Rattle.tb_run.proofs.at_desk.put_writer.Goals as goal

pub invariant_of-desk : goal.invariant_of-desk
invariant_of-desk g c =
    writer_begins g.K.Begins.bus g.K.Begins.starts c.args.at c.args.lane c.args.seat (g.O.Outlet.told c.args.outlet) (g.O.Outlet.faults c.args.outlet) c.requires.begun c.requires.own c.requires.lane c.requires.right
