use Rattle.std.proofs.Common.{◌≡◌, ◌<◌, List, length, Some, slice_get, ap, sym, subst, ◌∙◌, arith}
use Rattle.tb_bus.specs.Buses.{Proc}
use Rattle.tb_living.proofs.ReadLemmas.{read-there, read-through}
use Rattle.tb_core.specs.Helpers.LiveBuses.{bus_of, procs_in}
use Rattle.tb_why.specs.Helpers.Scenes.{queues_in}
use Rattle.tb_why.specs.Reasons.{waiter_of}
use Rattle.tb_why.proofs.LookLemmas.{all-there, one-more}
use Rattle.tb_why.proofs.WaitLemmas.{procs-long, scene_by, scene-is, seen-long, waiter-is}
use Rattle.tb_why.proofs.explaining.explain.Goals as goal

pub bounds-seen-at : goal.bounds-seen-at
bounds-seen-at g c =
    let long = seen-long g.W.Walker.view c.args.bus.now c.args.seen.now c.requires.seen in
    let same = ap (λ (xs : List _). length xs) c.as_slice-all.ensures.value in
    let t = c.loop-at-test.true in
    omega arith

pub loop-at-preserved : goal.loop-at-preserved
loop-at-preserved g c =
    let view = g.W.Walker.view in
    let bus = c.args.bus.now in
    let seen = c.args.seen.now in
    let at = c.loop-at.at in
    let all = c.as_slice-all.result.now in
    let living = c.get.result.now in
    let within = c.loop-at-test.true in
    let same = ap (λ (xs : List _). length xs) c.as_slice-all.ensures.value in
    let long = seen-long view bus seen c.requires.seen in
    let many = procs-long view bus in
    let seen_within : at < length seen = omega arith in
    let is = read-through all at living c.index-all-at.result c.get.ensures c.index-all-at.is in
    let here = subst (λ (xs : List _). slice_get xs at ≡ Some living) c.as_slice-all.ensures.value (read-there all at living within is) in
    let scene = ap (λ (xs : List _). scene_by bus seen (queues_in xs)) c.as_slice-all.ensures.value ∙ scene-is view bus seen c.requires.seen in
    one-more (waiter_of (bus_of view bus)) (procs_in view bus) at (length all) c.loop-at.waiters c.push.new.self c.in_ok-waiter.field-0 within (same ∙ sym many) c.loop-at.invariant c.in_ok-push.ensures.ok
    (λ (proc : Proc) there. c.in_ok-waiter.ensures ∙ waiter-is view bus seen at living c.index-seen-at.result (scene_by bus seen (queues_in all)) c.requires.seen scene seen_within c.index-seen-at.is here proc there)

pub returns : goal.returns
returns g c =
    let view = g.W.Walker.view in
    let bus = c.args.bus.now in
    let all = c.as_slice-all.result.now in
    let same = ap (λ (xs : List _). length xs) c.as_slice-all.ensures.value in
    all-there (waiter_of (bus_of view bus)) (procs_in view bus) c.loop-at.at (length all) c.loop-at.waiters c.loop-at-test.false (same ∙ sym (procs-long view bus)) c.loop-at.invariant
