use Rattle.std.proofs.lemmas.Result.{err_from_is_err_and}
use Rattle.tb_why.proofs.FollowLemmas.{crowded-here, logs-all, logs-more, logs-no-more, logs-nothing, same-err}
use Rattle.tb_why.proofs.following.follow.Goals as goal

pub loop-entry-init : goal.loop-entry-init
loop-entry-init g c = logs-nothing c.args.core.now

pub loop-entry-preserved : goal.loop-entry-preserved
loop-entry-preserved g c =
    logs-more c.args.core.now c.loop-entry.core c.follow_one.new.core c.args.entries.now c.loop-entry.entry-index c.entry-item.result c.in_ok-follow_one.field-0 c.loop-entry-test.true c.entry-item.is c.if-not-branch.false
    c.loop-entry.invariant c.in_ok-follow_one.ensures.follows

pub returns-then-not-branch-clause-no_trace : goal.returns-then-not-branch-clause-no_trace
returns-then-not-branch-clause-no_trace g c = λ e trace.
    logs-no-more c.args.core.now c.loop-entry.core c.follow_one.new.core c.args.entries.now c.loop-entry.entry-index c.entry-item.result c.in_ok-follow_one.field-0 c.loop-entry-test.true c.entry-item.is c.if-not-branch.true
    c.loop-entry.invariant c.in_ok-follow_one.ensures.follows trace

pub returns-clause-logs : goal.returns-clause-logs
returns-clause-logs g c = logs-all c.args.core.now c.loop-entry.core c.args.entries.now c.loop-entry.entry-index c.loop-entry-test.false c.loop-entry.invariant

pub returns-in_err-follow_one-clause-full : goal.returns-in_err-follow_one-clause-full
returns-in_err-follow_one-clause-full g c =
    let p = err_from_is_err_and c.from_residual.result c.from_residual.ensures.1 in
    rw (p.1, p.2) (λ e.
    crowded-here c.args.core.now c.loop-entry.core c.args.entries.now c.loop-entry.entry-index c.entry-item.result c.loop-entry-test.true c.entry-item.is c.loop-entry.invariant (c.in_err-follow_one.ensures.full (same-err _ _ e)))
