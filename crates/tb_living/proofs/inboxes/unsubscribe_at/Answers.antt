use Rattle.std.proofs.Common.{ap, sym, ◌∙◌}
use Rattle.tb_notes.specs.Inboxes.{unsubscribed}
use Rattle.tb_living.proofs.ReadLemmas.{read-there, read-through}
use Rattle.tb_living.proofs.HoldLemmas.{held-there, held-set}
use Rattle.tb_living.proofs.inboxes.unsubscribe_at.Goals as goal

pub returns : goal.returns
returns g c =
    let all = c.args.all.now.items in
    let living = c.get_mut.result.now in
    let here = read-there all c.args.at living c.requires (read-through all c.args.at _ _ c.get_mut.ensures.value c.index_mut.ensures.value) in
    held-set all c.args.at living c.unsubscribe.new.self here _ (c.unsubscribe.ensures.held ∙ ap (unsubscribed c.args.patterns.now) (sym (held-there all c.args.at living here)))
