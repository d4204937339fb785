use Rattle.tb_run.proofs.DeskLemmas.{stepper_ended}
use Rattle.tb_run.proofs.at_desk.step_at.Goals as goal

pub returns-in-Some-take_stepper : goal.returns-in-Some-take_stepper
returns-in-Some-take_stepper g c =
    let ended = c.in-Some-take_stepper.ended in
    let begun = c.requires.begun in
    stepper_ended g.K.Begins.bus g.K.Begins.starts c.args.at c.args.seat ended.seat begun.0 ended.end begun.1 begun.2 c.in-Some-take_stepper.ensures
