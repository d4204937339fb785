use Rattle.std.proofs.Common.{◌++◌, ◌+◌, List, Option, take, drop, set, remove, ap, sym, ◌∙◌, arith}
use Rattle.std.specs.Option.{option_to_list}
use Rattle.tb_walk.specs.declared.branch.Branch.{Branch}
use Rattle.tb_walk.proofs.EndingLemmas.{put_there, leave_there}
use Rattle.tb_walk.proofs.settle.fall.Goals as goal

pub returns-in-Some : goal.returns-in-Some
returns-in-Some c =
    let more = drop (c.args.at + 1 + c.args.gone) c.args.row.now in
    c.set.ensures ∙ ap (λ (l : List Branch). set l c.args.at c.in-Some.next) c.remove_behind.ensures
    ∙ put_there c.args.row.now more c.args.at c.in-Some.next (let h = c.requires in omega arith)
    ∙ ap (λ (o : Option Branch). take c.args.at c.args.row.now ++ (option_to_list o ++ drop (c.args.at + 1 + c.args.gone) c.args.row.now)) (sym c.in-Some.is)

pub returns-in-None : goal.returns-in-None
returns-in-None c =
    let more = drop (c.args.at + 1 + c.args.gone) c.args.row.now in
    c.remove.ensures.rest ∙ ap (λ (l : List Branch). remove l c.args.at) c.remove_behind.ensures
    ∙ leave_there c.args.row.now more c.args.at (let h = c.requires in omega arith)
    ∙ ap (λ (o : Option Branch). take c.args.at c.args.row.now ++ (option_to_list o ++ drop (c.args.at + 1 + c.args.gone) c.args.row.now)) (sym c.in-None.is)
