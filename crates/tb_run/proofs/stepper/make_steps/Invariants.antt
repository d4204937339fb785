use Rattle.tb_run.specs.Helpers.Working.{Steps}
use Rattle.tb_run.proofs.stepper.make_steps.Given as goal

abbrev pub invariant-loop : goal.invariant-loop
invariant-loop g l = Steps l.fn.seat l.seat
