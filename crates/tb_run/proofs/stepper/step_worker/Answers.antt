use Rattle.tb_run.proofs.StepLemmas.{steps_none, steps_on, steps_end}
use Rattle.tb_run.proofs.stepper.step_worker.Goals as goal

pub loop-init : goal.loop-init
loop-init g c = steps_none c.args.seat.now

pub loop-preserved : goal.loop-preserved
loop-preserved g c = steps_on c.args.seat.now c.loop.seat c.step_some.new.seat c.loop.invariant c.in-None-step_some.ensures

pub returns-in-Some-step_some : goal.returns-in-Some-step_some
returns-in-Some-step_some g c = steps_end c.args.seat.now c.loop.seat c.step_some.new.seat c.in-Some-step_some.end c.loop.invariant c.in-Some-step_some.ensures
