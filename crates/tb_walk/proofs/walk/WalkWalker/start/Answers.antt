use Rattle.std.proofs.Common.{[], ◌∷◌, ◌++◌, List, ap, refl, ◌∙◌}
use Rattle.tb_walk.specs.Helpers.Reads.{branch}
use Rattle.tb_walk.specs.declared.branch.Branch.{Branch}
use Rattle.tb_walk.proofs.WalkLemmas.{starts-on, starts-as}
use Rattle.tb_walk.proofs.walk.WalkWalker.start.Goals as goal

pub returns-clause-on : goal.returns-clause-on
returns-clause-on c =
    starts-on c.args._plan.now _ (c.in_ok-push.ensures.ok ∙ ap (λ (row : List Branch). row ++ (branch 0 0 ∷ [])) c.new-row.ensures) refl refl

pub returns-clause-term : goal.returns-clause-term
returns-clause-term c =
    starts-as c.args._plan.now _ c.args.store (c.in_ok-push.ensures.ok ∙ ap (λ (row : List Branch). row ++ (branch 0 0 ∷ [])) c.new-row.ensures)
