use Rattle.std.proofs.Common.{◌∙◌, ap, sym, refl, subst}
use Rattle.tb_body.specs.declared.body.Body.{Body}
use Rattle.tb_process_steps.specs.Walks.{entering, sorts_of}
use Rattle.tb_bus.specs.Buses.{opening_store}
use Rattle.tb_living.specs.Lives.{Begins}
use Rattle.tb_living.proofs.OpenLemmas.{sorts-opening, entered-live}
use Rattle.tb_living.proofs.opening.open_one.Goals as goal

pub start-requires : goal.start-requires
start-requires g c = ap sorts_of c.in_ok-store.ensures ∙ sorts-opening c.args.body.now c.args.actuals ∙ ap (λ (b : Body). b.sorts) (sym c.requires.body)

pub returns : goal.returns
returns g c =
    let view = g.W.Walker.view in
    let plan = c.args.plan.now in
    let store = opening_store c.args.body.now c.args.actuals in
    let sorts = sorts-opening c.args.body.now c.args.actuals ∙ ap (λ (b : Body). b.sorts) (sym c.requires.body) in
    let walking = c.in_ok-walker.ensures.term ∙ ap (entering (view.body_of plan)) c.in_ok-store.ensures in
    subst (Begins view plan c.args.number c.args.process store) (sym c.in_ok-new.ensures) (record {
      number = refl;
      body = refl;
      inbox = c.new.ensures;
      walking = walking;
      live = entered-live view plan store _ c.in_ok-walker.ensures.on walking sorts refl;
      unmarked = record { sends = c.no_marks.ensures.sends; receives = c.no_marks.ensures.receives; stale = refl };
    })
