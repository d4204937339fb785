use Rattle.std.proofs.Common.{◌<◌, ℕ, ◌+◌, ◌||◌, Option, List, ◌++◌, drop, length, ap, sym, ◌∙◌, arith}
use Rattle.std.specs.Option.{option_to_list}
use Rattle.tb_process_steps.specs.Processes.{fresh}
use Rattle.tb_walk.specs.Helpers.Reads.{any_inside}
use Rattle.tb_walk.specs.Helpers.Rests.{rest_behind}
use Rattle.tb_walk.specs.declared.branch.Branch.{Branch}
use Rattle.tb_walk.proofs.EndingLemmas.{not_true, not_false, one_more, none_above, some_there, enters_there, falls_there}
use Rattle.tb_walk.proofs.ending.what_ends.Goals as goal

pub returns-in_default-clause-rest : goal.returns-in_default-clause-rest
returns-in_default-clause-rest c =
    let whole = fresh c.args.code.now.body.tree in
    none_above whole c.args.ticks c.args.frame c.loop-fallen.frame c.args.before.now c.args.after.now (drop c.loop-fallen.fallen c.args.after.now) c.loop-fallen.invariant.0 c.in_default.is

pub returns-then-any_there-clause-rest : goal.returns-then-any_there-clause-rest
returns-then-any_there-clause-rest c =
    let whole = fresh c.args.code.now.body.tree in
    some_there whole c.args.ticks c.args.frame c.loop-fallen.frame c.args.before.now c.args.after.now (drop c.loop-fallen.fallen c.args.after.now) c.loop-fallen.invariant.0 c.in-Some.at c.first_part-first.result.bound c.in-Some.is c.first_part-first.ensures.bound c.any_there.result (c.any_there.ensures ∙ ap (λ (l : List Branch). any_inside c.in-Some.at c.first_part-first.result.bound c.args.before.now || any_inside c.in-Some.at c.first_part-first.result.bound l) c.left_of-rest.ensures) c.if-any_there.true

pub returns-then-not-first-clause-rest : goal.returns-then-not-first-clause-rest
returns-then-not-first-clause-rest c =
    let whole = fresh c.args.code.now.body.tree in
    enters_there whole c.args.ticks c.args.frame c.loop-fallen.frame c.args.before.now c.args.after.now (drop c.loop-fallen.fallen c.args.after.now) c.loop-fallen.invariant.0 c.in-Some.at c.first_part-first.result.bound c.in-Some.is c.first_part-first.ensures.bound c.any_there.result (c.any_there.ensures ∙ ap (λ (l : List Branch). any_inside c.in-Some.at c.first_part-first.result.bound c.args.before.now || any_inside c.in-Some.at c.first_part-first.result.bound l) c.left_of-rest.ensures)
    c.first_part-first.result.falls c.first_part-first.result.next c.if-any_there.false c.first_part-first.ensures.falls (not_true c.first_part-first.result.falls c.if-not-first.true) c.first_part-first.ensures.next
    ∙ ap (λ (o : Option Branch). option_to_list o ++ drop c.loop-fallen.fallen c.args.after.now) (sym c.entered-next.ensures)

pub loop-fallen-preserved : goal.loop-fallen-preserved
loop-fallen-preserved c =
    let whole = fresh c.args.code.now.body.tree in
    let within : c.loop-fallen.fallen < length c.args.after.now = (let h = c.loop-fallen-test.true in omega arith) in
    let more = one_more c.args.after.now c.loop-fallen.fallen within in
    let falls = falls_there whole c.args.ticks c.args.frame c.loop-fallen.frame c.args.before.now c.args.after.now (drop c.loop-fallen.fallen c.args.after.now) c.loop-fallen.invariant.0 c.in-Some.at c.first_part-first.result.bound c.in-Some.is c.first_part-first.ensures.bound c.any_there.result (c.any_there.ensures ∙ ap (λ (l : List Branch). any_inside c.in-Some.at c.first_part-first.result.bound c.args.before.now || any_inside c.in-Some.at c.first_part-first.result.bound l) c.left_of-rest.ensures)
    c.first_part-first.result.falls more.0 (drop (c.loop-fallen.fallen + 1) c.args.after.now) c.if-any_there.false c.first_part-first.ensures.falls (not_false c.first_part-first.result.falls c.if-not-first.false) more.1 in
    (ap (λ (o : Option ℕ). rest_behind (fresh c.args.code.now.body.tree) c.args.ticks o c.args.before.now (drop (c.loop-fallen.fallen + 1) c.args.after.now)) c.above-frame.ensures.frame ∙ falls, c.above-frame.ensures.within)
