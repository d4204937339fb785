use Rattle.std.proofs.Common.{ap, sym, ◌∙◌}
use Rattle.std.proofs.lemmas.Result.{on_ok_weaker, on_err_weaker}
use Rattle.tb_notes.specs.Inboxes.{subscribed}
use Rattle.tb_living.proofs.ReadLemmas.{read-there, read-through}
use Rattle.tb_living.proofs.HoldLemmas.{held-there, held-set, same-set}
use Rattle.tb_living.proofs.inboxes.subscribe_at.Goals as goal

pub returns-clause-ok : goal.returns-clause-ok
returns-clause-ok g c =
    let all = c.args.all.now.items in
    let living = c.get_mut.result.now in
    let here = read-there all c.args.at living c.requires.within (read-through all c.args.at _ _ c.get_mut.ensures.value c.index_mut.ensures.value) in
    on_ok_weaker c.subscribe.result (λ h. held-set all c.args.at living c.subscribe.new.self here _ (h ∙ ap (subscribed c.args.patterns) (sym (held-there all c.args.at living here)))) c.subscribe.ensures.ok

pub returns-clause-err : goal.returns-clause-err
returns-clause-err g c =
    let all = c.args.all.now.items in
    let living = c.get_mut.result.now in
    let here = read-there all c.args.at living c.requires.within (read-through all c.args.at _ _ c.get_mut.ensures.value c.index_mut.ensures.value) in
    on_err_weaker c.subscribe.result (same-set all c.args.at living c.subscribe.new.self here) c.subscribe.ensures.err
