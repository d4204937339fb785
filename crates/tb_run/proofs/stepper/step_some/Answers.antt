use Rattle.std.proofs.Common.{Ok, Err, subst, ◌∙◌}
use Rattle.tb_core.specs.declared.answers.Stepped.{Stepped}
use Rattle.tb_core.specs.declared.answers.Stepped.TheVariants as stepped
use Rattle.tb_run.proofs.StepLemmas.{Row, row_bus, row_steps, row_down, row_refused}
use Rattle.tb_run.proofs.stepper.step_some.Goals as goal

pub returns-in-Ok-Did : goal.returns-in-Ok-Did
returns-in-Ok-Did g c =
    let laws = c.calls_add_their_own.ensures in
    let old = c.args.seat.now in
    let new = c.make_steps.new.seat in
    row_steps laws.seen laws.added old new c.requires.right stepped.Did (subst (λ (a : Stepped). Row old new (Ok a)) c.in-Ok-Did.field-0-is c.in-Ok-Did.ensures)

pub returns-in-Ok-Quiet : goal.returns-in-Ok-Quiet
returns-in-Ok-Quiet g c =
    let laws = c.calls_add_their_own.ensures in
    let old = c.args.seat.now in
    let new = c.make_steps.new.seat in
    row_steps laws.seen laws.added old new c.requires.right stepped.Quiet (subst (λ (a : Stepped). Row old new (Ok a)) c.in-Ok-Quiet.field-0-is c.in-Ok-Quiet.ensures)

pub returns-in-Ok-Down : goal.returns-in-Ok-Down
returns-in-Ok-Down g c =
    let laws = c.calls_add_their_own.ensures in
    let old = c.args.seat.now in
    let new = c.make_steps.new.seat in
    row_down laws.seen laws.added old new c.requires.right (subst (λ (a : Stepped). Row old new (Ok a)) c.in-Ok-Down.field-0-is c.in-Ok-Down.ensures)

pub returns-in-Err : goal.returns-in-Err
returns-in-Err g c =
    let laws = c.calls_add_their_own.ensures in
    row_refused laws.seen laws.added c.args.seat.now c.make_steps.new.seat c.requires.right c.in-Err.fault c.refused.new.seat c.refused.result c.in-Err.ensures c.refused.ensures

pub refused-requires : goal.refused-requires
refused-requires g c =
    record { own = row_bus c.args.seat.now c.make_steps.new.seat (Err c.in-Err.fault) c.in-Err.ensures ∙ c.requires.own }
