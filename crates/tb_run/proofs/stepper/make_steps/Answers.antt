use Rattle.std.proofs.Common.{Ok, sym, subst, ◌∙◌}
use Rattle.tb_core.specs.declared.answers.Stepped.{Stepped}
use Rattle.tb_core.specs.declared.answers.Stepped.TheVariants as stepped
use Rattle.tb_core.specs.Cores.{MakeStep, IsStep}
use Rattle.tb_lock.specs.Calls.{Called}
use Rattle.tb_run.proofs.StepLemmas.{right_after, row_steps, steps_none}
use Rattle.tb_run.proofs.stepper.make_steps.Goals as goal

pub loop-init : goal.loop-init
loop-init g c = steps_none c.args.seat.now

pub step-requires-clause-own : goal.step-requires-clause-own
step-requires-clause-own g c = c.loop.invariant.adds.bus ∙ c.requires.own ∙ sym c.enter-visit.ensures

pub step-requires-clause-right : goal.step-requires-clause-right
step-requires-clause-right g c = right_after c.args.seat.now c.loop.seat c.loop.invariant c.requires.right

pub loop-preserved : goal.loop-preserved
loop-preserved g c =
    let laws = c.calls_add_their_own.ensures in
    let called = subst (λ (a : Stepped). Called IsStep MakeStep c.loop.seat c.step.new.seat (Ok a)) c.in-Ok-Did.field-0-is c.in-Ok-Did.ensures in
    row_steps laws.seen laws.added c.args.seat.now c.step.new.seat c.requires.right stepped.Did (c.loop.seat, c.loop.invariant, called)

pub returns-in-Ok-Quiet : goal.returns-in-Ok-Quiet
returns-in-Ok-Quiet g c = (
  c.loop.seat,
  c.loop.invariant,
  subst (λ (a : Stepped). Called IsStep MakeStep c.loop.seat c.step.new.seat (Ok a)) c.in-Ok-Quiet.field-0-is c.in-Ok-Quiet.ensures,
)

pub returns-in-Ok-Down : goal.returns-in-Ok-Down
returns-in-Ok-Down g c = (
  c.loop.seat,
  c.loop.invariant,
  subst (λ (a : Stepped). Called IsStep MakeStep c.loop.seat c.step.new.seat (Ok a)) c.in-Ok-Down.field-0-is c.in-Ok-Down.ensures,
)

pub returns-in-Err : goal.returns-in-Err
returns-in-Err g c = (c.loop.seat, c.loop.invariant, c.in-Err.ensures)

pub step-last-requires-clause-own : goal.step-last-requires-clause-own
step-last-requires-clause-own g c = c.loop.invariant.adds.bus ∙ c.requires.own ∙ sym c.enter-visit.ensures

pub step-last-requires-clause-right : goal.step-last-requires-clause-right
step-last-requires-clause-right g c = right_after c.args.seat.now c.loop.seat c.loop.invariant c.requires.right

pub returns : goal.returns
returns g c = (c.loop.seat, c.loop.invariant, c.step-last.ensures)
