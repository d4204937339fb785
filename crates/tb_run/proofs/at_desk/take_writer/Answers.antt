use Rattle.std.proofs.Common.{◌≡◌, ℕ, subst, sym, ◌∙◌, arith}
use Rattle.tb_run.specs.declared.writer_stage.WriterStage.{WriterStage}
use Rattle.tb_run.specs.Helpers.Desks.{IsWriting, HasWritten}
use Rattle.tb_run.proofs.DeskLemmas.{writer_ends}
use Rattle.tb_run.proofs.at_desk.take_writer.Goals as goal
use Rattle.tb_run.proofs.at_desk.take_writer.Goals.{in_default-via-in-Ended+else-its-at, in_default-via-in_default}

pub returns-in-Ended : goal.returns-in-Ended
returns-in-Ended g c =
    let its = c.its.inside in
    let told = g.O.Outlet.told its.outlet in
    let faults = g.O.Outlet.faults its.outlet in
    let same : its.at ≡ c.args.at = omega (arith, c.if-its-at.true) in
    subst (λ (at : ℕ). HasWritten g.K.Begins.bus g.K.Begins.starts at its.seat told faults c.in-Ended.end) same
    (writer_ends g.K.Begins.bus g.K.Begins.starts its.at its.lane its.seat told faults c.in-Ended.end (subst (λ (s : WriterStage). IsWriting g.K.Begins.bus g.K.Begins.starts its.at its.lane its.seat told faults s) c.in-Ended.is c.its.invariant))

pub invariant_of-t-33 : goal.invariant_of-t-33
invariant_of-t-33 g c =
    let its = c.its.inside in
    let told = g.O.Outlet.told its.outlet in
    let faults = g.O.Outlet.faults its.outlet in
    elim c.in_default.branch [
      | in_default-via-in-Ended+else-its-at w ↦ subst (λ (s : WriterStage). IsWriting g.K.Begins.bus g.K.Begins.starts its.at its.lane its.seat told faults s) (w.in-Ended.is ∙ sym w.stage-is) c.its.invariant
      | in_default-via-in_default w ↦ subst (λ (s : WriterStage). IsWriting g.K.Begins.bus g.K.Begins.starts its.at its.lane its.seat told faults s) (sym w.stage-is) c.its.invariant
    ]
