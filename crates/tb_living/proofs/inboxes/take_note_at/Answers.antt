use Rattle.std.proofs.Common.{ap, sym, ◌∙◌}
use Rattle.tb_notes.specs.Inboxes.{without_note}
use Rattle.tb_living.proofs.ReadLemmas.{read-there, read-through}
use Rattle.tb_living.proofs.HoldLemmas.{held-there, held-set}
use Rattle.tb_living.proofs.inboxes.take_note_at.Goals as goal

pub returns-clause-held : goal.returns-clause-held
returns-clause-held g c =
    let all = c.args.all.now.items in
    let living = c.get_mut.result.now in
    let here = read-there all c.args.at living c.requires.within (read-through all c.args.at _ _ c.get_mut.ensures.value c.index_mut.ensures.value) in
    held-set all c.args.at living c.take.new.self here _ (c.take.ensures.held ∙ ap (without_note c.args.place) (sym (held-there all c.args.at living here)))
