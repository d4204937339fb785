use Rattle.std.proofs.Common.{◌≡◌, ◌∙◌, subst, sym}
use Rattle.tb_search.specs.Candidates.{rows_of}
use Rattle.tb_search.specs.Views.{offer_of}
use Rattle.tb_bus.specs.Steps.{label_of}
use Rattle.tb_search.specs.declared.candidate.Candidate.TheVariants.{Own}
use Rattle.tb_core.specs.Helpers.LiveBuses.{CanLog, IsLogged, move_in, procs_in}
use Rattle.tb_core.specs.Helpers.Makings.{effect_in}
use Rattle.tb_core.proofs.MakeLemmas.{own-at, acted-own, acted-within, acted-named, acted-leaves, acted-advance, acted-made, acted-origin, acted-label}
use Rattle.tb_core.proofs.bus.LiveBus.make_own.Given.{Over}
use Rattle.tb_core.proofs.bus.LiveBus.make_own.Goals.{After-finish-label}
use Rattle.tb_core.proofs.bus.LiveBus.make_own.Goals as goal

pub act-requires-clause-plain : goal.act-requires-clause-plain
act-requires-clause-plain g c =
    let view = g.W.Walker.view in
    let old = c.args.self.now in
    let begun = c.begin.new.self in
    let own = c.in_ok-from.field-0.own in
    let found = c.args.finding in
    let it = own-at view old begun c.args.at c.args.index c.in_ok-taken.taken own found c.requires.sound c.requires.fresh c.requires.found c.in_ok-taken.ensures c.in_ok-from.ensures.own c.begin.ensures.same c.begin.ensures.kept in
    it.plain

pub act-requires-clause-found : goal.act-requires-clause-found
act-requires-clause-found g c =
    let view = g.W.Walker.view in
    let old = c.args.self.now in
    let begun = c.begin.new.self in
    let own = c.in_ok-from.field-0.own in
    let found = c.args.finding in
    let it = own-at view old begun c.args.at c.args.index c.in_ok-taken.taken own found c.requires.sound c.requires.fresh c.requires.found c.in_ok-taken.ensures c.in_ok-from.ensures.own c.begin.ensures.same c.begin.ensures.kept in
    it.finds

pub finish-label-requires-clause-within : goal.finish-label-requires-clause-within
finish-label-requires-clause-within g c =
    let view = g.W.Walker.view in
    let old = c.args.self.now in
    let begun = c.begin.new.self in
    let own = c.in_ok-from.field-0.own in
    let found = c.args.finding in
    let it = own-at view old begun c.args.at c.args.index c.in_ok-taken.taken own found c.requires.sound c.requires.fresh c.requires.found c.in_ok-taken.ensures c.in_ok-from.ensures.own c.begin.ensures.same c.begin.ensures.kept in
    let mid = c.act.new.self in
    let effect = effect_in begun c.args.at own found in
    let acted = acted-own view old begun mid c.args.at c.args.index own found it c.begin.ensures.same c.begin.ensures.kept c.in_ok-from.ensures.named c.in_ok-done.ensures.changed in
    acted-within view old begun mid c.args.at c.args.index effect acted

pub finish-label-requires-clause-named : goal.finish-label-requires-clause-named
finish-label-requires-clause-named g c =
    let view = g.W.Walker.view in
    let old = c.args.self.now in
    let begun = c.begin.new.self in
    let own = c.in_ok-from.field-0.own in
    let found = c.args.finding in
    let it = own-at view old begun c.args.at c.args.index c.in_ok-taken.taken own found c.requires.sound c.requires.fresh c.requires.found c.in_ok-taken.ensures c.in_ok-from.ensures.own c.begin.ensures.same c.begin.ensures.kept in
    let mid = c.act.new.self in
    let effect = effect_in begun c.args.at own found in
    let acted = acted-own view old begun mid c.args.at c.args.index own found it c.begin.ensures.same c.begin.ensures.kept c.in_ok-from.ensures.named c.in_ok-done.ensures.changed in
    acted-named view old begun mid c.args.at c.args.index effect acted

pub finish-label-requires-clause-taken : goal.finish-label-requires-clause-taken
finish-label-requires-clause-taken g c =
    let view = g.W.Walker.view in
    let old = c.args.self.now in
    let begun = c.begin.new.self in
    let own = c.in_ok-from.field-0.own in
    let found = c.args.finding in
    let it = own-at view old begun c.args.at c.args.index c.in_ok-taken.taken own found c.requires.sound c.requires.fresh c.requires.found c.in_ok-taken.ensures c.in_ok-from.ensures.own c.begin.ensures.same c.begin.ensures.kept in
    let mid = c.act.new.self in
    let effect = effect_in begun c.args.at own found in
    let acted = acted-own view old begun mid c.args.at c.args.index own found it c.begin.ensures.same c.begin.ensures.kept c.in_ok-from.ensures.named c.in_ok-done.ensures.changed in
    acted-advance view old begun mid c.args.at c.args.index effect acted c.in_ok-taken.taken c.in_ok-done.done.binds c.in_ok-taken.ensures c.in_ok-done.ensures.done.2

pub returns-clause-made : goal.returns-clause-made
returns-clause-made g c =
    let view = g.W.Walker.view in
    let old = c.args.self.now in
    let begun = c.begin.new.self in
    let own = c.in_ok-from.field-0.own in
    let found = c.args.finding in
    let it = own-at view old begun c.args.at c.args.index c.in_ok-taken.taken own found c.requires.sound c.requires.fresh c.requires.found c.in_ok-taken.ensures c.in_ok-from.ensures.own c.begin.ensures.same c.begin.ensures.kept in
    let mid = c.act.new.self in
    let effect = effect_in begun c.args.at own found in
    let acted = acted-own view old begun mid c.args.at c.args.index own found it c.begin.ensures.same c.begin.ensures.kept c.in_ok-from.ensures.named c.in_ok-done.ensures.changed in
    let offer = offer_of (procs_in view old) (rows_of old.living.items) c.args.at c.args.index in
    let gone = c.finish-label.ensures.gone offer (acted-leaves view old begun mid c.args.at c.args.index effect acted c.in_ok-taken.taken c.in_ok-taken.ensures) in
    record {
      sound = gone.sound;
      bus = acted-made view old begun mid c.args.at c.args.index effect acted c.finish-label.new.self c.in_ok-done.done.binds c.in_ok-from.field-0.from.proc gone c.in_ok-done.ensures.done.2 c.in_ok-from.ensures.number;
      origin = acted-origin view old begun mid c.args.at c.args.index effect acted c.finish-label.new.self gone.origin;
    }

label-is : (g : Over) (c : After-finish-label g) → c.finish-label.result ≡ label_of (move_in g.W.Walker.view c.args.self.now (Own c.args.at c.args.index c.args.finding))
label-is g c =
    let view = g.W.Walker.view in
    let old = c.args.self.now in
    let begun = c.begin.new.self in
    let own = c.in_ok-from.field-0.own in
    let found = c.args.finding in
    let it = own-at view old begun c.args.at c.args.index c.in_ok-taken.taken own found c.requires.sound c.requires.fresh c.requires.found c.in_ok-taken.ensures c.in_ok-from.ensures.own c.begin.ensures.same c.begin.ensures.kept in
    let mid = c.act.new.self in
    let effect = effect_in begun c.args.at own found in
    let acted = acted-own view old begun mid c.args.at c.args.index own found it c.begin.ensures.same c.begin.ensures.kept c.in_ok-from.ensures.named c.in_ok-done.ensures.changed in
    c.finish-label.ensures.label ∙ acted-label view old begun mid c.args.at c.args.index effect acted c.in_ok-from.field-0.from c.in_ok-done.done c.in_ok-done.ensures.done c.in_ok-from.ensures.number c.in_ok-from.ensures.atom

pub put_label-requires : goal.put_label-requires
put_label-requires g c = subst (CanLog c.args.log.now) (sym (label-is g (goal.at.put_label-requires g c).After-finish-label)) c.requires.can

pub returns-clause-logged : goal.returns-clause-logged
returns-clause-logged g c = subst (λ label. IsLogged c.args.log.now label c.put_label.new.log) (label-is g (goal.at.returns-clause-logged g c).After-finish-label) c.put_label.ensures.logged
