use Rattle.std.proofs.Common.{subst}
use Rattle.tb_run.specs.declared.writer_stage.WriterStage.{WriterStage}
use Rattle.tb_run.specs.Helpers.Desks.{IsWriting}
use Rattle.tb_run.proofs.DeskLemmas.{writer_takes}
use Rattle.tb_run.proofs.helping.take_next.Goals as goal

pub invariant_of-desk : goal.invariant_of-desk
invariant_of-desk g c =
    let desk = c.desk.inside in
    let told = g.O.Outlet.told desk.outlet in
    let faults = g.O.Outlet.faults desk.outlet in
    writer_takes g.K.Begins.bus g.K.Begins.starts desk.at desk.lane desk.seat c.take_one.new.seat told faults c.take_one.result
    (subst (λ (s : WriterStage). IsWriting g.K.Begins.bus g.K.Begins.starts desk.at desk.lane desk.seat told faults s) c.in-Free.is c.desk.invariant) c.take_one.ensures
