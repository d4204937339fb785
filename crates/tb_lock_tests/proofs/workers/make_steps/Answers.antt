use Rattle.std.proofs.Common.{Ok, ap, ◌∙◌, subst, arith}
use Rattle.tb_core.specs.Cores.{MakeStep, IsStep}
use Rattle.tb_lock.specs.Calls.{Called}
use Rattle.tb_lock_tests.proofs.CountLemmas.{step_grows, called_keeps}
use Rattle.tb_lock_tests.proofs.workers.make_steps.Goals as goal

pub loop-preserved : goal.loop-preserved
loop-preserved g c =
    let i = c.loop.invariant in
    let keeps = called_keeps IsStep MakeStep c.loop.seat c.step.new.seat c.step.result c.step.ensures in
    let more = step_grows c.loop.seat c.step.new.seat (subst (Called IsStep MakeStep c.loop.seat c.step.new.seat) (c.in-Ok-Did.is ∙ ap Ok c.in-Ok-Did.field-0-is) c.step.ensures) in
    let all = i.3 in
    (keeps.0 ∙ i.0, keeps.1 ∙ i.1, keeps.2 ∙ i.2, omega arith)
