use Rattle.std.proofs.Common.{◌≡◌, ◌<◌, List, length, slice_get, Some, sym, subst}
use Rattle.std.proofs.lemmas.Result.{IfOk-weaker}
use Rattle.tb_process_steps.specs.Processes.{fresh}
use Rattle.tb_walk.specs.Lefts.{left}
use Rattle.tb_walk.specs.Helpers.Takings.{AreThere, IsInRow, IsTakenBy}
use Rattle.tb_walk.specs.declared.branch.Branch.{Branch}
use Rattle.tb_walk.specs.declared.sight.Sight.{Sight}
use Rattle.tb_walk.proofs.SettleLemmas.{taken_found, within_all}
use Rattle.tb_walk.proofs.WalkLemmas.{are_there, is_in_row, looked_anew}
use Rattle.tb_walk.proofs.taking.take_unseen.Goals as goal

pub look_row-requires : goal.look_row-requires
look_row-requires c =
    let walk = c.args.walk.now in
    let whole = fresh c.args.code.now.body.tree in
    subst (λ (row : List Branch). AreThere whole walk.ticks row) (sym c.as_slice-row.ensures)
    (are_there walk.ticks whole walk.row (left walk.ticks walk.row 0 whole) c.requires.on.reads)

pub sight_at-sight-requires : goal.sight_at-sight-requires
sight_at-sight-requires c =
    let found = c.look_row.new.found in
    let all = looked_anew c.args.code.now c.args.walk.now 0 c.as_slice-row.result.now c.new-found.result found c.new-found.ensures c.as_slice-row.ensures c.in_ok-look_row.ensures in
    subst (λ (l : List Sight). c.args.k < length l) (sym c.as_slice.ensures) (within_all c.args.code.now c.args.walk.now c.requires.on 0 found all c.args.k c.requires.within)

pub made-requires : goal.made-requires
made-requires c =
    let found = c.look_row.new.found in
    let one = c.sight_at-sight.result.now in
    let all = looked_anew c.args.code.now c.args.walk.now 0 c.as_slice-row.result.now c.new-found.result found c.new-found.ensures c.as_slice-row.ensures c.in_ok-look_row.ensures in
    let here : slice_get found c.args.k ≡ Some one = subst (λ (l : List Sight). slice_get l c.args.k ≡ Some one) c.as_slice.ensures c.sight_at-sight.ensures in
    subst (λ (row : List Branch). IsInRow (fresh c.args.code.now.body.tree) row one) (sym c.as_slice-row.ensures)
    (is_in_row c.args.code.now c.args.walk.now c.requires.on 0 found all c.args.k one here)

pub returns : goal.returns
returns c =
    let found = c.look_row.new.found in
    let one = c.sight_at-sight.result.now in
    let all = looked_anew c.args.code.now c.args.walk.now 0 c.as_slice-row.result.now c.new-found.result found c.new-found.ensures c.as_slice-row.ensures c.in_ok-look_row.ensures in
    let here : slice_get found c.args.k ≡ Some one = subst (λ (l : List Sight). slice_get l c.args.k ≡ Some one) c.as_slice.ensures c.sight_at-sight.ensures in
    IfOk-weaker c.made.result _ _
    (λ taken t. taken_found c.args.code.now c.args.walk.now c.requires.on 0 found all c.args.k one taken here
    (subst (λ (row : List Branch). IsTakenBy (fresh c.args.code.now.body.tree) c.args.walk.now.ticks row one taken) c.as_slice-row.ensures t))
    c.made.ensures
