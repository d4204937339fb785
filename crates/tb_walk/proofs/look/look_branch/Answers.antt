use Rattle.std.proofs.Common.{◌≡◌, ◌++◌, List, map, sym, subst, ◌∙◌, OnOk}
use Rattle.tb_process_steps.specs.Processes.{fresh}
use Rattle.tb_walk.specs.Helpers.Sights.{Sighting, looking, sighted}
use Rattle.tb_walk.proofs.LookLemmas.{all_listed, all_within, some_listed}
use Rattle.tb_walk.proofs.look.look_branch.Goals as goal

pub look_list-requires : goal.look_list-requires
look_list-requires c =
    let some = some_listed c.list-list.result.now (sym c.is_empty.ensures ∙ c.if-is_empty.false) in
    all_within (fresh c.args.code.now.body.tree) c.args.code.now.body.atoms c.args.at c.list-list.result.now c.requires (c.list-list.ensures some)

pub returns-else-is_empty : goal.returns-else-is_empty
returns-else-is_empty c =
    let whole = fresh c.args.code.now.body.tree in
    let some = some_listed c.list-list.result.now (sym c.is_empty.ensures ∙ c.if-is_empty.false) in
    let e = all_listed whole (looking c.args.code.now.body.atoms c.args.clock.now) c.args.base.now c.args.at c.list-list.result.now c.requires (c.list-list.ensures some) in
    subst (λ (l : List Sighting). OnOk c.look_list.result (map (sighted c.args.base.now) c.look_list.new.found ≡ map (sighted c.args.base.now) c.args.found.now ++ l)) (sym e) c.look_list.ensures
