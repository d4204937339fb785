use Rattle.std.proofs.Common.{◌≡◌, ◌∙◌, [], sym, subst, refl}
use Rattle.tb_search.specs.Candidates.{rows_of}
use Rattle.tb_search.specs.Views.{proc_at, offer_of, ready_at, sent_in}
use Rattle.tb_bus.specs.Steps.{label_of}
use Rattle.tb_search.specs.declared.candidate.Candidate.TheVariants.{Handshake}
use Rattle.tb_log.specs.declared.entry.Label.{Label}
use Rattle.tb_log.specs.declared.entry.LabelKind.TheVariants as kind
use Rattle.tb_core.specs.Helpers.LiveBuses.{CanLog, IsLogged, move_in, procs_in}
use Rattle.tb_core.proofs.AdvanceLemmas.{number-kept, leaves-kept}
use Rattle.tb_core.proofs.FreshLemmas.{received-takes}
use Rattle.tb_core.proofs.MakeLemmas.{offer-is, can-advance, kept-number, kept-leaves, place-is, named-first, named-second, index-apart, handshake-made, handshake-label}
use Rattle.tb_core.proofs.bus.LiveBus.make_handshake.Given.{Over}
use Rattle.tb_core.proofs.bus.LiveBus.make_handshake.Goals.{After-advance_both}
use Rattle.tb_core.proofs.bus.LiveBus.make_handshake.Goals as goal

pub take_sent-terms-requires-clause-named : goal.take_sent-terms-requires-clause-named
take_sent-terms-requires-clause-named g c =
    named-first c.args.self.now.stale c.push_reserved.new.self c.push_reserved-2.new.self c.push_reserved-2.new.self c.place_at-from.result.proc c.place_at-to.result.proc _ _
    refl c.push_reserved-2.ensures.items c.push_reserved.ensures.items refl c.place_at-from.ensures.proc

pub advance_both-requires-clause-apart : goal.advance_both-requires-clause-apart
advance_both-requires-clause-apart g c e =
    let old = c.args.self.now in
    let new = c.take_sent-terms.new.self in
    let other = c.args.partner.living in
    let kept = c.take_sent-terms.ensures.others other (index-apart (rows_of old.living.items) c.args.at other c.requires.found.2) in
    c.requires.found.2 (sym (kept-number old.living.items new.living.items c.args.at c.take_sent-terms.ensures.kept) ∙ e ∙ number-kept old.living.items new.living.items other kept)

pub advance_both-requires-clause-named : goal.advance_both-requires-clause-named
advance_both-requires-clause-named g c =
    let old = c.args.self.now in
    let new = c.take_sent-terms.new.self in
    named-first old.stale c.push_reserved.new.self c.push_reserved-2.new.self c.take_sent-terms.new.self.stale c.place_at-from.result.proc c.place_at-to.result.proc _ _
    c.take_sent-terms.ensures.stale c.push_reserved-2.ensures.items c.push_reserved.ensures.items (kept-number old.living.items new.living.items c.args.at c.take_sent-terms.ensures.kept) c.place_at-from.ensures.proc

pub advance_both-requires-clause-other_named : goal.advance_both-requires-clause-other_named
advance_both-requires-clause-other_named g c =
    let old = c.args.self.now in
    let new = c.take_sent-terms.new.self in
    let other = c.args.partner.living in
    let kept = c.take_sent-terms.ensures.others other (index-apart (rows_of old.living.items) c.args.at other c.requires.found.2) in
    named-second c.push_reserved.new.self c.push_reserved-2.new.self new.stale c.place_at-to.result.proc _ _ c.take_sent-terms.ensures.stale c.push_reserved-2.ensures.items (number-kept old.living.items new.living.items other kept) c.place_at-to.ensures.proc

pub advance_both-requires-clause-sent : goal.advance_both-requires-clause-sent
advance_both-requires-clause-sent g c =
    let old = c.args.self.now in
    let offer = offer_of (procs_in g.W.Walker.view old) (rows_of old.living.items) c.args.at c.args.index in
    let is = offer-is g.W.Walker.view old c.args.at c.args.index c.args.sent offer c.requires.sound c.requires.fresh c.requires.found.0.1 c.requires.sent in
    let new = c.take_sent-terms.new.self in
    can-advance g.W.Walker.view old new c.args.at c.args.index c.args.sent [] is c.take_sent-terms.ensures.same.bus
    (kept-leaves g.W.Walker.view old new c.args.at c.args.sent offer c.take_sent-terms.ensures.kept c.take_sent-terms.ensures.same.plans c.requires.sent) refl

pub advance_both-requires-clause-received : goal.advance_both-requires-clause-received
advance_both-requires-clause-received g c =
    let old = c.args.self.now in
    let new = c.take_sent-terms.new.self in
    let rows = rows_of old.living.items in
    let partner = c.args.partner in
    let offer = offer_of (procs_in g.W.Walker.view old) rows partner.living partner.received.action in
    let its = offer-is g.W.Walker.view old partner.living partner.received.action c.args.received offer c.requires.sound c.requires.fresh c.requires.found.1.1 c.requires.received in
    let kept = c.take_sent-terms.ensures.others partner.living (index-apart rows c.args.at partner.living c.requires.found.2) in
    can-advance g.W.Walker.view old new partner.living partner.received.action c.args.received partner.received.binds its c.take_sent-terms.ensures.same.bus
    (leaves-kept g.W.Walker.view old new partner.living c.args.received offer kept c.take_sent-terms.ensures.same.plans c.requires.received)
    (received-takes offer.store (ready_at rows partner.living partner.received.action).action (sent_in (ready_at rows c.args.at c.args.index).action) partner.received.binds its.fits c.requires.found.4)

pub returns-clause-made : goal.returns-clause-made
returns-clause-made g c =
    let old = c.args.self.now in
    let taken = c.take_sent-terms.new.self in
    let new = c.advance_both.new.self in
    let rows = rows_of old.living.items in
    let partner = c.args.partner in
    let offer = offer_of (procs_in g.W.Walker.view old) rows c.args.at c.args.index in
    let received = offer_of (procs_in g.W.Walker.view old) rows partner.living partner.received.action in
    let is = offer-is g.W.Walker.view old c.args.at c.args.index c.args.sent offer c.requires.sound c.requires.fresh c.requires.found.0.1 c.requires.sent in
    let its = offer-is g.W.Walker.view old partner.living partner.received.action c.args.received received c.requires.sound c.requires.fresh c.requires.found.1.1 c.requires.received in
    let kept = c.take_sent-terms.ensures.others partner.living (index-apart rows c.args.at partner.living c.requires.found.2) in
    let went = c.advance_both.ensures offer received (kept-leaves g.W.Walker.view old taken c.args.at c.args.sent offer c.take_sent-terms.ensures.kept c.take_sent-terms.ensures.same.plans c.requires.sent)
    (leaves-kept g.W.Walker.view old taken partner.living c.args.received received kept c.take_sent-terms.ensures.same.plans c.requires.received) in
    record {
      sound = record { in_order = went.sound.in_order; below = went.sound.below; planned = went.sound.planned; live = went.sound.live; fresh = went.sound.fresh; lanes = went.sound.lanes; indexed = went.sound.indexed; rested = went.sound.rested };
      bus = handshake-made g.W.Walker.view old taken new c.args.at c.args.index partner.living partner.received.action partner.received.binds c.place_at-from.result.proc is its c.take_sent-terms.ensures.same.bus
          (kept-number old.living.items taken.living.items c.args.at c.take_sent-terms.ensures.kept) (number-kept old.living.items taken.living.items partner.living kept) went c.place_at-from.ensures.proc;
      origin = went.origin ∙ c.take_sent-terms.ensures.same.origin;
    }

label-is : (g : Over) (c : After-advance_both g) → ◌≡◌ {A = Label} (record { kind = kind.Msg; from = c.place_at-from.result; to = c.place_at-to.result; terms = c.take_sent-terms.result })
    (label_of (move_in g.W.Walker.view c.args.self.now (Handshake c.args.at c.args.index c.args.partner)))
label-is g c =
    let old = c.args.self.now in
    let procs = procs_in g.W.Walker.view old in
    let rows = rows_of old.living.items in
    let partner = c.args.partner in
    let offer = offer_of procs rows c.args.at c.args.index in
    let received = offer_of procs rows partner.living partner.received.action in
    let ready = ready_at rows c.args.at c.args.index in
    let is = offer-is g.W.Walker.view old c.args.at c.args.index c.args.sent offer c.requires.sound c.requires.fresh c.requires.found.0.1 c.requires.sent in
    let its = offer-is g.W.Walker.view old partner.living partner.received.action c.args.received received c.requires.sound c.requires.fresh c.requires.found.1.1 c.requires.received in
    handshake-label c.place_at-from.result c.place_at-to.result (proc_at procs c.args.at) offer (proc_at procs partner.living) received _ (sent_in ready.action) partner.received.binds
    (place-is g.W.Walker.view old c.args.at c.args.index c.place_at-from.result is c.place_at-from.ensures.proc c.place_at-from.ensures.atom)
    (place-is g.W.Walker.view old partner.living partner.received.action c.place_at-to.result its c.place_at-to.ensures.proc c.place_at-to.ensures.atom)
    c.take_sent-terms.ensures.sent

pub put_label-emptied-requires : goal.put_label-emptied-requires
put_label-emptied-requires g c = subst (CanLog c.args.log.now) (sym (label-is g (goal.at.put_label-emptied-requires g c).After-advance_both)) c.requires.can

pub returns-clause-logged : goal.returns-clause-logged
returns-clause-logged g c = subst (λ label. IsLogged c.args.log.now label c.put_label-emptied.new.log) (label-is g (goal.at.returns-clause-logged g c).After-advance_both) c.put_label-emptied.ensures.logged
