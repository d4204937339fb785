use Rattle.std.proofs.Common.{◌∙◌}
use Rattle.tb_core.specs.Cores.{MakeStep, IsStep}
use Rattle.tb_lock_tests.proofs.CountLemmas.{called_keeps}
use Rattle.tb_lock_tests.proofs.reads.row.Goals as goal

pub loop-preserved : goal.loop-preserved
loop-preserved g c =
    let i = c.loop.invariant in
    let keeps = called_keeps IsStep MakeStep c.loop.seat c.step.new.seat c.step.result c.step.ensures in
    (keeps.0 ∙ i.0, keeps.1 ∙ i.1, keeps.2 ∙ i.2)
