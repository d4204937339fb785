use Rattle.std.proofs.Common.{subst, sym, ◌∙◌}
use Rattle.tb_run.specs.Helpers.Desks.{IsStepping}
use Rattle.tb_run.proofs.DeskLemmas.{not_some, stepper_goes}
use Rattle.tb_run.proofs.helping.make_some.Goals as goal

pub invariant_of-desk : goal.invariant_of-desk
invariant_of-desk g c =
    let desk = c.desk.inside in
    let none = not_some desk.end (sym c.is_some.ensures ∙ c.if-is_some.false) in
    stepper_goes g.K.Begins.bus g.K.Begins.starts desk.at desk.seat c.step_some-end.new.seat c.step_some-end.result (subst (IsStepping g.K.Begins.bus g.K.Begins.starts desk.at desk.seat) none c.desk.invariant) c.step_some-end.ensures
