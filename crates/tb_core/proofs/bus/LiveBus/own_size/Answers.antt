use Rattle.std.proofs.Common.{◌<◌, ◌∙◌, ap, length, min, subst, sym}
use Rattle.std.below.core.specs.declared.int.usize.TheConstants.{MAX}
use Rattle.tb_log.specs.Limits.{terms_size}
use Rattle.tb_bus.specs.Effects.{note_at}
use Rattle.tb_bus.specs.declared.action.OwnAction.{OwnAction}
use Rattle.tb_search.specs.Candidates.{Row, no_row, row_at, row_of, rows_of}
use Rattle.tb_search.specs.FoundEffects.{note_found}
use Rattle.tb_search.specs.declared.candidate.Finding.{Finding}
use Rattle.tb_living.proofs.ReadLemmas.{map-there, read-there, read-through}
use Rattle.tb_core.specs.Helpers.Makings.{effect_in}
use Rattle.tb_core.proofs.MakeLemmas.{found-in_row, note-there, noted}
use Rattle.tb_core.proofs.bus.LiveBus.own_size.Goals as goal

pub note-requires : goal.note-requires
note-requires g c =
    let all = c.args.self.now.living.items in
    let living = c.get.result.now in
    let patterns = c.in-TakeNote.field-0 in
    let found = c.in-TakeNote-finding.found in
    let row = map-there row_of all c.args.at living no_row (read-there all c.args.at living c.requires.within (read-through all c.args.at _ _ c.get.ensures c.index.ensures)) in
    subst (λ (r : Row). found.place < length r.inbox.notes) row
    (found-in_row all c.args.at patterns found (noted c.args.self.now c.args.at c.args.own.now c.args.finding.now c.requires.found patterns found c.in-TakeNote.is c.in-TakeNote-finding.is))

pub returns-in-TakeNote-finding : goal.returns-in-TakeNote-finding
returns-in-TakeNote-finding g c =
    let bus = c.args.self.now in
    let all = bus.living.items in
    let living = c.get.result.now in
    let found = c.in-TakeNote-finding.found in
    let row = map-there row_of all c.args.at living no_row (read-there all c.args.at living c.requires.within (read-through all c.args.at _ _ c.get.ensures c.index.ensures)) in
    c.total_size.ensures
    ∙ ap (λ terms. min (terms_size terms) MAX)
    (c.as_slice.ensures ∙ note-there living.inbox.held found.place c.note.result.now c.note.ensures ∙ ap (λ (r : Row). note_at r.inbox found.place) (sym row)
    ∙ ap (λ (f : Finding). note_at (row_at (rows_of all) c.args.at).inbox (note_found f).place) (sym c.in-TakeNote-finding.is)
    ∙ ap (λ (o : OwnAction). (effect_in bus c.args.at o c.args.finding.now).shown) (sym c.in-TakeNote.is))
