use Rattle.std.proofs.Common.{◌≡◌, ◌∙◌, ap, subst, sym}
use Rattle.tb_search.specs.Candidates.{rows_of}
use Rattle.tb_search.specs.Views.{offer_of}
use Rattle.tb_bus.specs.declared.action.OwnAction.TheVariants as own
use Rattle.tb_bus.specs.Steps.{label_of}
use Rattle.tb_search.specs.declared.candidate.Candidate.TheVariants.{Own}
use Rattle.tb_search.specs.declared.candidate.Finding.TheVariants.{Plain}
use Rattle.tb_core.specs.Helpers.LiveBuses.{CanLog, IsLogged, move_in, procs_in}
use Rattle.tb_core.specs.Helpers.Makings.{effect_in}
use Rattle.tb_living.specs.declared.done.Done.{Done}
use Rattle.tb_core.proofs.MakeLemmas.{acted-tau, acted-within, acted-named, acted-leaves, acted-advance, acted-made, acted-origin, acted-label}
use Rattle.tb_core.proofs.bus.LiveBus.make_tau.Given.{Over}
use Rattle.tb_core.proofs.bus.LiveBus.make_tau.Goals.{After-finish-label}
use Rattle.tb_core.proofs.bus.LiveBus.make_tau.Goals as goal

pub finish-label-requires-clause-sound : goal.finish-label-requires-clause-sound
finish-label-requires-clause-sound g c = c.leave.ensures.same.sound

pub finish-label-requires-clause-within : goal.finish-label-requires-clause-within
finish-label-requires-clause-within g c =
    let old = c.args.self.now in
    let begun = c.leave.new.self in
    let effect = effect_in begun c.args.at own.Tau Plain in
    let acted = acted-tau g.W.Walker.view old begun c.args.at c.args.index c.in_ok-taken.taken c.requires.sound c.requires.fresh c.requires.found c.in_ok-taken.ensures c.requires.tau c.leave.ensures.same c.leave.ensures.kept c.in_ok-from.ensures.named in
    acted-within g.W.Walker.view old begun begun c.args.at c.args.index effect acted

pub finish-label-requires-clause-named : goal.finish-label-requires-clause-named
finish-label-requires-clause-named g c =
    let old = c.args.self.now in
    let begun = c.leave.new.self in
    let effect = effect_in begun c.args.at own.Tau Plain in
    let acted = acted-tau g.W.Walker.view old begun c.args.at c.args.index c.in_ok-taken.taken c.requires.sound c.requires.fresh c.requires.found c.in_ok-taken.ensures c.requires.tau c.leave.ensures.same c.leave.ensures.kept c.in_ok-from.ensures.named in
    acted-named g.W.Walker.view old begun begun c.args.at c.args.index effect acted

pub finish-label-requires-clause-taken : goal.finish-label-requires-clause-taken
finish-label-requires-clause-taken g c =
    let old = c.args.self.now in
    let begun = c.leave.new.self in
    let effect = effect_in begun c.args.at own.Tau Plain in
    let acted = acted-tau g.W.Walker.view old begun c.args.at c.args.index c.in_ok-taken.taken c.requires.sound c.requires.fresh c.requires.found c.in_ok-taken.ensures c.requires.tau c.leave.ensures.same c.leave.ensures.kept c.in_ok-from.ensures.named in
    acted-advance g.W.Walker.view old begun begun c.args.at c.args.index effect acted c.in_ok-taken.taken c.kind_alone.result.binds c.in_ok-taken.ensures (ap (λ (done : Done). done.binds) c.kind_alone.ensures)

pub returns-clause-made : goal.returns-clause-made
returns-clause-made g c =
    let old = c.args.self.now in
    let begun = c.leave.new.self in
    let effect = effect_in begun c.args.at own.Tau Plain in
    let acted = acted-tau g.W.Walker.view old begun c.args.at c.args.index c.in_ok-taken.taken c.requires.sound c.requires.fresh c.requires.found c.in_ok-taken.ensures c.requires.tau c.leave.ensures.same c.leave.ensures.kept c.in_ok-from.ensures.named in
    let offer = offer_of (procs_in g.W.Walker.view old) (rows_of old.living.items) c.args.at c.args.index in
    let gone = c.finish-label.ensures.gone offer (acted-leaves g.W.Walker.view old begun begun c.args.at c.args.index effect acted c.in_ok-taken.taken c.in_ok-taken.ensures) in
    record {
      sound = gone.sound;
      bus = acted-made g.W.Walker.view old begun begun c.args.at c.args.index effect acted c.finish-label.new.self c.kind_alone.result.binds c.in_ok-from.from.proc gone (ap (λ (done : Done). done.binds) c.kind_alone.ensures) c.in_ok-from.ensures.number;
      origin = acted-origin g.W.Walker.view old begun begun c.args.at c.args.index effect acted c.finish-label.new.self gone.origin;
    }

label-is : (g : Over) (c : After-finish-label g) → c.finish-label.result ≡ label_of (move_in g.W.Walker.view c.args.self.now (Own c.args.at c.args.index Plain))
label-is g c =
    let old = c.args.self.now in
    let begun = c.leave.new.self in
    let effect = effect_in begun c.args.at own.Tau Plain in
    let acted = acted-tau g.W.Walker.view old begun c.args.at c.args.index c.in_ok-taken.taken c.requires.sound c.requires.fresh c.requires.found c.in_ok-taken.ensures c.requires.tau c.leave.ensures.same c.leave.ensures.kept c.in_ok-from.ensures.named in
    let is = c.kind_alone.ensures in
    c.finish-label.ensures.label ∙ acted-label g.W.Walker.view old begun begun c.args.at c.args.index effect acted c.in_ok-from.from c.kind_alone.result
    (ap (λ (done : Done). done.kind) is, ap (λ (done : Done). done.shown) is, ap (λ (done : Done). done.binds) is) c.in_ok-from.ensures.number c.in_ok-from.ensures.atom

pub put_label-requires : goal.put_label-requires
put_label-requires g c = subst (CanLog c.args.log.now) (sym (label-is g (goal.at.put_label-requires g c).After-finish-label)) c.requires.can

pub returns-clause-logged : goal.returns-clause-logged
returns-clause-logged g c = subst (λ label. IsLogged c.args.log.now label c.put_label.new.log) (label-is g (goal.at.returns-clause-logged g c).After-finish-label) c.put_label.ensures.logged
