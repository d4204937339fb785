use Rattle.std.proofs.Common.{sym, ◌<◌, subst}
use Rattle.std.proofs.lemmas.Result.{on_ok_weaker}
use Rattle.tb_living.proofs.ReadLemmas.{read-there, read-through}
use Rattle.tb_living.proofs.HoldLemmas.{same-set, spare-set, spare-here}
use Rattle.tb_living.proofs.inboxes.reserve_at.Goals as goal

pub returns-clause-same : goal.returns-clause-same
returns-clause-same g c =
    let all = c.args.all.now.items in
    let living = c.get_mut.result.now in
    let here = read-there all c.args.at living c.requires (read-through all c.args.at _ _ c.get_mut.ensures.value c.index_mut.ensures.value) in
    same-set all c.args.at living c.reserve.new.self here c.reserve.ensures.held

pub returns-clause-ok : goal.returns-clause-ok
returns-clause-ok g c =
    let all = c.args.all.now.items in
    let living = c.get_mut.result.now in
    let here = read-there all c.args.at living c.requires (read-through all c.args.at _ _ c.get_mut.ensures.value c.index_mut.ensures.value) in
    on_ok_weaker c.reserve.result (subst (λ n. 0 < n) (sym (spare-here all c.args.at living c.reserve.new.self here))) c.reserve.ensures.ok

pub returns-clause-others : goal.returns-clause-others
returns-clause-others g c other ne =
    let all = c.args.all.now.items in
    let living = c.get_mut.result.now in
    let here = read-there all c.args.at living c.requires (read-through all c.args.at _ _ c.get_mut.ensures.value c.index_mut.ensures.value) in
    spare-set all c.args.at living c.reserve.new.self here other ne
