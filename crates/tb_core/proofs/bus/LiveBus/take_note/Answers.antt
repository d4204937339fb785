use Rattle.std.proofs.Common.{◌<◌, ◌∙◌, ap, inr, length, refl, subst, sym}
use Rattle.tb_notes.specs.Inboxes.{Held, without_note}
use Rattle.tb_bus.specs.Effects.{note_at, taking}
use Rattle.tb_search.specs.Candidates.{row_at, rows_of}
use Rattle.tb_living.specs.Holdings.{held_at}
use Rattle.tb_living.proofs.HoldLemmas.{row-held}
use Rattle.tb_living.proofs.ReadLemmas.{some-at}
use Rattle.tb_core.proofs.HoldLemmas.{held-changed}
use Rattle.tb_core.proofs.MakeLemmas.{note-there}
use Rattle.tb_core.proofs.bus.LiveBus.take_note.Goals as goal

pub take_note_at-requires-clause-place : goal.take_note_at-requires-clause-place
take_note_at-requires-clause-place g c = subst (λ (h : Held). c.args.found.place < length h.notes) (row-held c.args.self.now.living.items c.args.at) c.requires.place

pub returns-clause-changed : goal.returns-clause-changed
returns-clause-changed g c =
    let bus = c.args.self.now in
    let found = c.args.found in
    let before = some-at bus.living.items c.args.at c.requires.within in
    held-changed g.W.Walker.view bus c.args.at before.0 (taking (row_at (rows_of bus.living.items) c.args.at).inbox found) (without_note found.place) c.take_note_at.new.all c.requires.sound before.1 c.take_note_at.ensures.held
    (inr (c.requires.idle before.0 before.1)) (λ number. refl)

pub returns-clause-done : goal.returns-clause-done
returns-clause-done g c =
    let bus = c.args.self.now in
    let found = c.args.found in
    let note = note-there (held_at bus.living.items c.args.at) found.place c.take_note_at.result c.take_note_at.ensures.note in
    (refl, note ∙ ap (λ (h : Held). note_at h found.place) (sym (row-held bus.living.items c.args.at)), refl)
