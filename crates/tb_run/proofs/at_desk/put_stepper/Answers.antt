use Rattle.tb_run.proofs.DeskLemmas.{stepper_begins}
use Rattle.tb_run.proofs.at_desk.put_stepper.Goals as goal

pub invariant_of-desk : goal.invariant_of-desk
invariant_of-desk g c =
    let begun = c.requires.begun in
    stepper_begins g.K.Begins.bus g.K.Begins.starts c.args.at c.args.seat begun.0 begun.1 begun.2 c.requires.own c.requires.right
