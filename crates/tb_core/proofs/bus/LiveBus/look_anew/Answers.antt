use Rattle.std.proofs.Common.{subst, sym}
use Rattle.tb_living.specs.Lives.{AreFresh}
use Rattle.tb_core.specs.Helpers.LiveBuses.{StandsAs}
use Rattle.tb_core.specs.declared.bus.LiveBus.{LiveBus}
use Rattle.tb_core.proofs.TickLemmas.{none-stale}
use Rattle.tb_core.proofs.bus.LiveBus.look_anew.Goals.{then-self+in_ok-freshen_all, else-self+in_ok-freshen_noted}
use Rattle.tb_core.proofs.bus.LiveBus.look_anew.Goals as goal

pub returns-clause-same : goal.returns-clause-same
returns-clause-same g c =
    let view = g.W.Walker.view in
    let old = c.args.self.now in
    let bus = c.if-self.self in
    let looked : StandsAs view old bus × AreFresh bus.living.items = elim c.if-self.branch [
      | then-self+in_ok-freshen_all w ↦ subst (λ (b : LiveBus _ _ _). StandsAs view old b × AreFresh b.living.items) (sym w.self-is) (w.freshen_all.ensures.same, w.in_ok-freshen_all.ensures.fresh)
      | else-self+in_ok-freshen_noted w ↦ subst (λ (b : LiveBus _ _ _). StandsAs view old b × AreFresh b.living.items) (sym w.self-is) (w.freshen_noted.ensures.same, w.in_ok-freshen_noted.ensures.fresh)
    ] in
    none-stale view old bus c.clear.new.self looked.0 looked.1
