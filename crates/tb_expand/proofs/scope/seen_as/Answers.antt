use Rattle.std.proofs.Common.{◌≡◌, ◌∙◌, ap, ◌-◌, Some, None, arith, get_or}
use Rattle.tb_expand.specs.Scopes.{seen_as}
use Rattle.tb_expand.proofs.Blocks.{found_at, not_at}
use Rattle.tb_expand.proofs.scope.seen_as.Goals as goal

-- src/scope.rt:40:13
pub returns-in-Some : goal.returns-in-Some
returns-in-Some c =
    let found : Some c.in-Some.seen.now ≡ seen_as c.args.name.now (get_or c.args.blocks.now (c.loop-left.left - 1) c.index-blocks-left.result)
    = c.in-Some.ensures ∙ ap (seen_as c.args.name.now) (c.as_slice.ensures ∙ c.index-blocks-left.is) in
    found_at c.args.name.now c.args.blocks.now c.index-blocks-left.result c.loop-left.left c.in-Some.seen.now (omega arith) c.loop-left.invariant.0 found
    ∙ c.loop-left.invariant.1

-- src/scope.rt:37:5
pub loop-left-preserved : goal.loop-left-preserved
loop-left-preserved c =
    let none : None ≡ seen_as c.args.name.now (get_or c.args.blocks.now (c.loop-left.left - 1) c.index-blocks-left.result)
    = c.in_default.ensures ∙ ap (seen_as c.args.name.now) (c.as_slice.ensures ∙ c.index-blocks-left.is) in (
      omega arith,
      not_at c.args.name.now c.args.blocks.now c.index-blocks-left.result c.loop-left.left (omega arith) c.loop-left.invariant.0 none
          ∙ c.loop-left.invariant.1,
    )
