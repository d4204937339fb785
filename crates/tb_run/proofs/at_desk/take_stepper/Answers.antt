use Rattle.std.proofs.Common.{◌≡◌, ℕ, Option, subst, sym, ◌∙◌, arith}
use Rattle.tb_run.specs.declared.ends.WorkEnd.{WorkEnd}
use Rattle.tb_run.specs.Helpers.Desks.{IsStepping, HasStepped}
use Rattle.tb_run.proofs.DeskLemmas.{stepper_ends}
use Rattle.tb_run.proofs.at_desk.take_stepper.Goals as goal
use Rattle.tb_run.proofs.at_desk.take_stepper.Goals.{in_default-via-in-Some+else-its-at, in_default-via-in_default}

pub returns-in-Some : goal.returns-in-Some
returns-in-Some g c =
    let its = c.its.inside in
    let same : its.at ≡ c.args.at = omega (arith, c.if-its-at.true) in
    subst (λ (at : ℕ). HasStepped g.K.Begins.bus g.K.Begins.starts at its.seat c.in-Some.end) same
    (stepper_ends g.K.Begins.bus g.K.Begins.starts its.at its.seat c.in-Some.end (subst (λ (e : Option WorkEnd). IsStepping g.K.Begins.bus g.K.Begins.starts its.at its.seat e) c.in-Some.is c.its.invariant))

pub invariant_of-t-25 : goal.invariant_of-t-25
invariant_of-t-25 g c =
    let its = c.its.inside in
    elim c.in_default.branch [
      | in_default-via-in-Some+else-its-at w ↦ subst (λ (e : Option WorkEnd). IsStepping g.K.Begins.bus g.K.Begins.starts its.at its.seat e) (w.in-Some.is ∙ sym w.end-is) c.its.invariant
      | in_default-via-in_default w ↦ subst (λ (e : Option WorkEnd). IsStepping g.K.Begins.bus g.K.Begins.starts its.at its.seat e) (sym w.end-is) c.its.invariant
    ]
