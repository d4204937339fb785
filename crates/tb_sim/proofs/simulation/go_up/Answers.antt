use Rattle.std.proofs.Common.{◌≡◌, drop, ap, false, true, Err}
use Rattle.std.proofs.lemmas.Result.{IfOk-weaker, on_err_weaker}
use Rattle.tb_core.specs.Cores.{MakeStep, Logs, Stays, entries_of, is_full, IsStep}
use Rattle.tb_core.specs.declared.answers.CoreFault.{CoreFault}
use Rattle.tb_core.specs.declared.answers.Stepped.TheVariants.{Did, Quiet, Down}
use Rattle.tb_sim.specs.Helpers.Turns.{HandsInNext, Goes}
use Rattle.tb_sim.proofs.SimLemmas.{goes-limit, goes-did, goes-down, goes-full, goes-quiet, left-quiet}
use Rattle.tb_sim.proofs.simulation.go_up.Goals as goal

pub returns-then-branch-clause-ok : goal.returns-then-branch-clause-ok
returns-then-branch-clause-ok g c =
    goes-limit c.args.steps c.args.feed.now c.args.so_far c.args.core.now c.is_at_limit.new.core c.in_ok-is_at_limit.field-0 c.requires.idle c.in_ok-is_at_limit.ensures.unchanged c.in_ok-is_at_limit.ensures.value c.if-branch.true

pub returns-in-Ok-Did-clause-ok : goal.returns-in-Ok-Did-clause-ok
returns-in-Ok-Did-clause-ok g c =
    let old = c.args.core.now in
    let found : IsStep old Did = rw c.in_ok-is_at_limit.ensures.unchanged at (rw c.in-Ok-Did.field-0-is at c.in-Ok-Did.ensures.found) in
    let logs : Logs old c.step.new.self (entries_of old MakeStep) = rw c.in_ok-is_at_limit.ensures.unchanged at c.in-Ok-Did.ensures.logs in
    let room : is_full old MakeStep ≡ false = rw c.in_ok-is_at_limit.ensures.unchanged at c.in-Ok-Did.ensures.room in
    goes-did c.args.steps c.args.feed.now c.args.so_far old c.step.new.self c.in_ok-is_at_limit.field-0 c.requires.idle c.requires.within c.in_ok-is_at_limit.ensures.value c.if-branch.false found logs room

pub returns-in-Ok-Down-clause-ok : goal.returns-in-Ok-Down-clause-ok
returns-in-Ok-Down-clause-ok g c =
    let old = c.args.core.now in
    let found : IsStep old Down = rw c.in_ok-is_at_limit.ensures.unchanged at (rw c.in-Ok-Down.field-0-is at c.in-Ok-Down.ensures.found) in
    let logs : Logs old c.step.new.self (entries_of old MakeStep) = rw c.in_ok-is_at_limit.ensures.unchanged at c.in-Ok-Down.ensures.logs in
    goes-down c.args.steps c.args.feed.now c.args.so_far old c.step.new.self c.requires.idle found logs

pub returns-in-Ok-Quiet-clause-ok : goal.returns-in-Ok-Quiet-clause-ok
returns-in-Ok-Quiet-clause-ok g c =
    let old = c.args.core.now in
    let found : IsStep old Quiet = rw c.in_ok-is_at_limit.ensures.unchanged at (rw c.in-Ok-Quiet.field-0-is at c.in-Ok-Quiet.ensures.found) in
    let logs : Logs old c.step.new.self (entries_of old MakeStep) = rw c.in_ok-is_at_limit.ensures.unchanged at c.in-Ok-Quiet.ensures.logs in
    let room : is_full old MakeStep ≡ false = rw c.in_ok-is_at_limit.ensures.unchanged at c.in-Ok-Quiet.ensures.room in
    let feed = c.args.feed.now in
    let so_far = c.args.so_far in
    IfOk-weaker c.hand_in_next.result (HandsInNext (drop so_far.inputs feed) so_far c.step.new.self c.hand_in_next.new.core) (Goes c.args.steps feed old so_far c.hand_in_next.new.core)
    (goes-quiet c.args.steps feed so_far old c.step.new.self c.hand_in_next.new.core c.requires.idle c.requires.within c.requires.said found logs room) c.hand_in_next.ensures.ok

pub returns-in-Ok-Quiet-clause-err : goal.returns-in-Ok-Quiet-clause-err
returns-in-Ok-Quiet-clause-err g c =
    let old = c.args.core.now in
    let found : IsStep old Quiet = rw c.in_ok-is_at_limit.ensures.unchanged at (rw c.in-Ok-Quiet.field-0-is at c.in-Ok-Quiet.ensures.found) in
    let logs : Logs old c.step.new.self (entries_of old MakeStep) = rw c.in_ok-is_at_limit.ensures.unchanged at c.in-Ok-Quiet.ensures.logs in
    let room : is_full old MakeStep ≡ false = rw c.in_ok-is_at_limit.ensures.unchanged at c.in-Ok-Quiet.ensures.room in
    on_err_weaker c.hand_in_next.result (left-quiet c.args.steps c.args.feed.now c.args.so_far old c.step.new.self c.hand_in_next.new.core c.requires.idle c.requires.said found logs room) c.hand_in_next.ensures.err

pub returns-in-Err-Full-clause-ok : goal.returns-in-Err-Full-clause-ok
returns-in-Err-Full-clause-ok g c =
    let old = c.args.core.now in
    let stays : Stays old c.step.new.self = rw c.in_ok-is_at_limit.ensures.unchanged at c.in-Err-Full.ensures.err in
    let full : is_full old MakeStep ≡ true = rw c.in_ok-is_at_limit.ensures.unchanged at (c.in-Err-Full.ensures.full (ap (λ (f : CoreFault). Err f) c.in-Err-Full.field-0-is)) in
    goes-full c.args.steps c.args.feed.now c.args.so_far old c.step.new.self c.in_ok-is_at_limit.field-0 c.requires.idle c.requires.said c.requires.within c.in_ok-is_at_limit.ensures.value c.if-branch.false stays full
