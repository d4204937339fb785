use Rattle.std.proofs.Common.{◌≡◌, ◌<◌, List, [], ◌∷◌, length, slice_get, Some, sym, subst}
use Rattle.std.proofs.lemmas.Result.{IfOk-weaker}
use Rattle.tb_process_steps.specs.Processes.{fresh}
use Rattle.tb_walk.specs.Helpers.Reads.{branch}
use Rattle.tb_walk.specs.Helpers.Takings.{IsInRow, IsTakenBy}
use Rattle.tb_walk.specs.declared.branch.Branch.{Branch}
use Rattle.tb_walk.specs.declared.sight.Sight.{Sight}
use Rattle.tb_walk.proofs.SettleLemmas.{found_at, found_within, in_row_at, taken_found}
use Rattle.tb_walk.proofs.TakeLemmas.{ended_begins, entered_begins, left_ended, left_entered}
use Rattle.tb_walk.proofs.taking.take_seen.Goals as goal

pub sight_at-sight-requires : goal.sight_at-sight-requires
sight_at-sight-requires c =
    subst (λ (l : List Sight). c.args.k < length l) (sym c.as_slice.ensures) (found_within c.args.code.now c.args.walk.now c.requires.on c.requires.seen c.args.k c.requires.within)

pub made-requires : goal.made-requires
made-requires c =
    let one = c.sight_at-sight.result.now in
    let found : slice_get c.args.walk.now.found c.args.k ≡ Some one = subst (λ (l : List Sight). slice_get l c.args.k ≡ Some one) c.as_slice.ensures c.sight_at-sight.ensures in
    subst (λ (row : List Branch). IsInRow (fresh c.args.code.now.body.tree) row one) (sym c.as_slice-row.ensures) (in_row_at c.args.code.now c.args.walk.now c.requires.on c.requires.seen c.args.k one found)

pub returns-in-Ended : goal.returns-in-Ended
returns-in-Ended c =
    let walk = c.args.walk.now in
    let one = c.sight_at-sight.result.now in
    let found : slice_get walk.found c.args.k ≡ Some one = subst (λ (l : List Sight). slice_get l c.args.k ≡ Some one) c.as_slice.ensures c.sight_at-sight.ensures in
    let in_row = in_row_at c.args.code.now walk c.requires.on c.requires.seen c.args.k one found in
    found_at c.args.code.now walk c.args.k [] one c.requires.seen found
    (λ b h. ended_begins (fresh c.args.code.now.body.tree) walk.ticks b one.position one.behind (in_row.1 b h).1 c.in-Ended.is)
    (λ b h. left_ended (fresh c.args.code.now.body.tree) walk.ticks b one.position one.behind (in_row.1 b h).1 c.in-Ended.is)

pub returns-in-Entered : goal.returns-in-Entered
returns-in-Entered c =
    let walk = c.args.walk.now in
    let one = c.sight_at-sight.result.now in
    let found : slice_get walk.found c.args.k ≡ Some one = subst (λ (l : List Sight). slice_get l c.args.k ≡ Some one) c.as_slice.ensures c.sight_at-sight.ensures in
    let in_row = in_row_at c.args.code.now walk c.requires.on c.requires.seen c.args.k one found in
    found_at c.args.code.now walk c.args.k (branch c.in-Entered.position walk.ticks ∷ []) one c.requires.seen found
    (λ b h. entered_begins (fresh c.args.code.now.body.tree) walk.ticks b one.position one.behind (in_row.1 b h).1 c.in-Entered.position c.in-Entered.is)
    (λ b h. left_entered (fresh c.args.code.now.body.tree) walk.ticks b one.position one.behind (in_row.1 b h).1 c.in-Entered.position c.in-Entered.is)

pub returns-in-Parted : goal.returns-in-Parted
returns-in-Parted c =
    let walk = c.args.walk.now in
    let one = c.sight_at-sight.result.now in
    let found : slice_get walk.found c.args.k ≡ Some one = subst (λ (l : List Sight). slice_get l c.args.k ≡ Some one) c.as_slice.ensures c.sight_at-sight.ensures in
    let all = c.requires.on.found c.requires.seen in
    IfOk-weaker c.made.result _ _
    (λ taken t. taken_found c.args.code.now walk c.requires.on all.0 walk.found all.1 c.args.k one taken found
    (subst (λ (row : List Branch). IsTakenBy (fresh c.args.code.now.body.tree) walk.ticks row one taken) c.as_slice-row.ensures t))
    c.made.ensures
