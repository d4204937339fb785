use Rattle.std.proofs.Common.{List, Some, ap, sym, subst}
use Rattle.tb_process_steps.specs.Processes.{fresh}
use Rattle.tb_walk.specs.Lefts.{left}
use Rattle.tb_walk.specs.Helpers.Takings.{AreThere}
use Rattle.tb_walk.specs.declared.branch.Branch.{Branch}
use Rattle.tb_walk.proofs.WalkLemmas.{are_there, found_seen, looked}
use Rattle.tb_walk.proofs.walk.WalkWalker.look.Goals as goal

pub look_row-requires : goal.look_row-requires
look_row-requires c =
    let walk = c.args.self.now in
    let whole = fresh c.args.plan.now.body.tree in
    subst (λ (row : List Branch). AreThere whole walk.ticks row) (sym c.as_slice-row.ensures)
    (are_there walk.ticks whole walk.row (left walk.ticks walk.row 0 whole) c.requires.reads)

pub returns-in-Ok-clause-on : goal.returns-in-Ok-clause-on
returns-in-Ok-clause-on c = record {
  reads = c.requires.reads;
  found = λ fresh. (c.args.now, looked c.args.plan.now c.args.self.now c.args.now c.as_slice-row.result.now c.look_row.new.found c.swap.new.x c.args.self.now.spare_is_empty c.as_slice-row.ensures c.in-Ok.ensures c.swap.ensures.x_after);
}

pub returns-in-Ok-clause-seen : goal.returns-in-Ok-clause-seen
returns-in-Ok-clause-seen c =
    ap Some (found_seen c.args.plan.now c.args.self.now c.requires c.args.now c.swap.new.x
    (looked c.args.plan.now c.args.self.now c.args.now c.as_slice-row.result.now c.look_row.new.found c.swap.new.x c.args.self.now.spare_is_empty c.as_slice-row.ensures c.in-Ok.ensures c.swap.ensures.x_after))
