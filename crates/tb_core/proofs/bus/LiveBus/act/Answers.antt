use Rattle.std.proofs.Common.{◌≡◌, ◌∙◌, ◌∷◌, [], List, ap, get_or, inl}
use Rattle.tb_terms.specs.declared.term.Term.{Term}
use Rattle.tb_notes.specs.Inboxes.{Held, subscribed, unsubscribed}
use Rattle.tb_bus.specs.Effects.{changed, went_down}
use Rattle.tb_core.specs.Helpers.LiveBuses.{bus_of}
use Rattle.tb_core.specs.Helpers.Makings.{effect_in}
use Rattle.tb_living.specs.declared.done.Done.{Done}
use Rattle.tb_core.proofs.BenchLemmas.{down-changed}
use Rattle.tb_living.proofs.ReadLemmas.{on-err, on-ok, some-at}
use Rattle.tb_core.proofs.HoldLemmas.{held-changed, nothing-changed, stands-held}
use Rattle.tb_living.proofs.HoldLemmas.{held-there}
use Rattle.tb_core.proofs.MakeLemmas.{found-in_row, noted, noted-only, notified-only, spoken-only}
use Rattle.tb_core.proofs.bus.LiveBus.act.Goals as goal

pub returns-in-Tau-clause-changed : goal.returns-in-Tau-clause-changed
returns-in-Tau-clause-changed g c =
    let bus = c.args.self.now in
    let before = some-at bus.living.items c.args.at c.requires.within in
    nothing-changed g.W.Walker.view bus c.args.at before.0 (effect_in bus c.args.at c.args.own c.args.finding) c.requires.sound before.1 (ap (λ own. (effect_in bus c.args.at own c.args.finding).change) c.in-Tau.is)

pub returns-in-Set-clause-changed : goal.returns-in-Set-clause-changed
returns-in-Set-clause-changed g c =
    let bus = c.args.self.now in
    let before = some-at bus.living.items c.args.at c.requires.within in
    nothing-changed g.W.Walker.view bus c.args.at before.0 (effect_in bus c.args.at c.args.own c.args.finding) c.requires.sound before.1 (ap (λ own. (effect_in bus c.args.at own c.args.finding).change) c.in-Set.is)

pub returns-in-NoNote-clause-changed : goal.returns-in-NoNote-clause-changed
returns-in-NoNote-clause-changed g c =
    let bus = c.args.self.now in
    let before = some-at bus.living.items c.args.at c.requires.within in
    nothing-changed g.W.Walker.view bus c.args.at before.0 (effect_in bus c.args.at c.args.own c.args.finding) c.requires.sound before.1 (ap (λ own. (effect_in bus c.args.at own c.args.finding).change) c.in-NoNote.is)

pub returns-in-Print-clause-changed : goal.returns-in-Print-clause-changed
returns-in-Print-clause-changed g c =
    let bus = c.args.self.now in
    let before = some-at bus.living.items c.args.at c.requires.within in
    on-ok c.printed.result (nothing-changed g.W.Walker.view bus c.args.at before.0 (effect_in bus c.args.at c.args.own c.args.finding) c.requires.sound before.1 (ap (λ own. (effect_in bus c.args.at own c.args.finding).change) c.in-Print.is))

pub returns-in_err-subscribe_at-in-Subscribe-clause-err : goal.returns-in_err-subscribe_at-in-Subscribe-clause-err
returns-in_err-subscribe_at-in-Subscribe-clause-err g c =
    on-err c.from_residual.result (stands-held g.W.Walker.view c.args.self.now c.subscribe_at.new.all c.requires.sound c.in_err-subscribe_at-in-Subscribe.ensures.err)

pub returns-in-Subscribe-clause-changed : goal.returns-in-Subscribe-clause-changed
returns-in-Subscribe-clause-changed g c =
    let bus = c.args.self.now in
    let before = some-at bus.living.items c.args.at c.requires.within in
    held-changed g.W.Walker.view bus c.args.at before.0 (effect_in bus c.args.at c.args.own c.args.finding) (subscribed c.in-Subscribe.patterns) c.subscribe_at.new.all c.requires.sound before.1 c.in_ok-subscribe_at-in-Subscribe.ensures.ok (inl (ap (λ (h : Held). h.notes) (held-there bus.living.items c.args.at before.0 before.1)))
    (λ number. ap (λ own. changed (effect_in bus c.args.at own c.args.finding).change number (bus_of g.W.Walker.view bus)) c.in-Subscribe.is)

pub returns-in-Unsubscribe-clause-changed : goal.returns-in-Unsubscribe-clause-changed
returns-in-Unsubscribe-clause-changed g c =
    let bus = c.args.self.now in
    let before = some-at bus.living.items c.args.at c.requires.within in
    held-changed g.W.Walker.view bus c.args.at before.0 (effect_in bus c.args.at c.args.own c.args.finding) (unsubscribed c.in-Unsubscribe.patterns) c.unsubscribe_at.new.all c.requires.sound before.1 c.unsubscribe_at.ensures (inl (ap (λ (h : Held). h.notes) (held-there bus.living.items c.args.at before.0 before.1)))
    (λ number. ap (λ own. changed (effect_in bus c.args.at own c.args.finding).change number (bus_of g.W.Walker.view bus)) c.in-Unsubscribe.is)

pub returns-clause-changed : goal.returns-clause-changed
returns-clause-changed g c =
    let bus = c.args.self.now in
    let went = c.in_ok-go_down-in-Shutdown.ensures in
    let read : Term = c.index-as_slice-0.result in
    let shown : c.as_slice.result.now ≡ c.in-Shutdown.reason ∷ [] = c.as_slice.ensures ∙ ap (λ (done : Done). done.shown) c.in_ok-done-in-Shutdown.ensures in
    let is : read ≡ c.in-Shutdown.reason = c.index-as_slice-0.is ∙ ap (λ (ts : List Term). get_or ts 0 read) shown in
    down-changed g.W.Walker.view bus c.go_down.new.self c.args.at c.in-Shutdown.reason (effect_in bus c.args.at c.args.own c.args.finding) went.sound went.origin went.plans went.living went.stale
    (went.ok ∙ ap (λ (reason : Term). went_down reason (bus_of g.W.Walker.view bus)) is) c.requires.within (ap (λ own. (effect_in bus c.args.at own c.args.finding).change) c.in-Shutdown.is)

pub returns-in-Notify : goal.returns-in-Notify
returns-in-Notify g c =
    let it = notified-only c.args.self.now c.args.at c.args.own c.args.finding c.requires.found c.in-Notify.terms c.in-Notify.is in
    absurd (c.in_default.not-Notify it.0 it.1)

pub take_note-requires-clause-place : goal.take_note-requires-clause-place
take_note-requires-clause-place g c =
    let patterns = c.in-TakeNote.field-0 in
    let found = c.in-TakeNote-finding.found in
    found-in_row c.args.self.now.living.items c.args.at patterns found
    (noted c.args.self.now c.args.at c.args.own c.args.finding c.requires.found patterns found c.in-TakeNote.is c.in-TakeNote-finding.is)

pub returns-in-TakeNote : goal.returns-in-TakeNote
returns-in-TakeNote g c =
    let it = noted-only c.args.self.now c.args.at c.args.own c.args.finding c.requires.found c.in-TakeNote.field-0 c.in-TakeNote.is in
    absurd (c.in_default-finding.not-TakeNote it.0 it.1)

pub returns-in-Speak : goal.returns-in-Speak
returns-in-Speak g c =
    let it = spoken-only c.args.self.now c.args.at c.args.own c.args.finding c.requires.found c.in-Speak.does c.in-Speak.is in
    absurd (c.in_default-finding-2.not-Speak it.0 it.1)
