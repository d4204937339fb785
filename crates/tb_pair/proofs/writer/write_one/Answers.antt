use Rattle.std.proofs.Common.{Ok, subst, refl, arith}
use Rattle.tb_log.specs.Shapes.{IsLane}
use Rattle.rtrb.specs.Ring.{sent}
use Rattle.tb_core.specs.declared.answers.TakeOut.TheVariants as taken
use Rattle.tb_core.specs.declared.answers.TakeOut.{TakeOut}
use Rattle.tb_core.specs.Cores.{HandOut}
use Rattle.tb_lock.specs.Calls.{IsTaken, Called}
use Rattle.tb_run.proofs.SeatLemmas.{refused_by}
use Rattle.tb_run.proofs.WriteLemmas.{takes_out, called_same, out_in_shape}
use Rattle.tb_pair.proofs.PipeLemmas.{closes_as, refused_as}
use Rattle.tb_pair.proofs.WriterLemmas.{nothing_on, taken_on}
use Rattle.tb_pair.proofs.writer.write_one.Goals as goal

one_lane : IsLane 1
one_lane = (omega arith, omega arith)

pub pass_on-requires : goal.pass_on-requires
pass_on-requires g c =
    let called = subst (λ (a : TakeOut). Called (IsTaken 1) (HandOut 1) c.args.seat.now c.take_out.new.seat (Ok a)) c.in-Ok-Out.field-0-is c.in-Ok-Out.ensures in
    out_in_shape c.entries_are_in_shape.ensures.trace 1 c.args.seat.now c.take_out.new.seat c.in-Ok-Out.out called

pub returns-in-Ok-Out-clause-work : goal.returns-in-Ok-Out-clause-work
returns-in-Ok-Out-clause-work g c =
    let called = subst (λ (a : TakeOut). Called (IsTaken 1) (HandOut 1) c.args.seat.now c.take_out.new.seat (Ok a)) c.in-Ok-Out.field-0-is c.in-Ok-Out.ensures in
    let laws = c.calls_add_their_own.ensures in
    let answer = taken.Out c.in-Ok-Out.out in
    taken_on c.args.seat.now c.take_out.new.seat c.in-Ok-Out.out c.args.pipe.now.flows c.pass_on.new.pipe.flows (sent c.args.pipe.now.end) (sent c.pass_on.new.pipe.end)
    (takes_out laws.seen laws.added 1 c.args.seat.now c.take_out.new.seat answer c.requires.writes called) (called_same 1 c.args.seat.now c.take_out.new.seat answer called) c.pass_on.ensures.passed

pub returns-in-Ok-Nothing-clause-work : goal.returns-in-Ok-Nothing-clause-work
returns-in-Ok-Nothing-clause-work g c =
    let called = subst (λ (a : TakeOut). Called (IsTaken 1) (HandOut 1) c.args.seat.now c.take_out.new.seat (Ok a)) c.in-Ok-Nothing.field-0-is c.in-Ok-Nothing.ensures in
    let laws = c.calls_add_their_own.ensures in
    nothing_on c.args.seat.now c.take_out.new.seat (sent c.args.pipe.now.end) c.args.pipe.now.flows
    (takes_out laws.seen laws.added 1 c.args.seat.now c.take_out.new.seat taken.Nothing c.requires.writes called) (called_same 1 c.args.seat.now c.take_out.new.seat taken.Nothing called)

pub returns-in-Ok-Closed-clause-work : goal.returns-in-Ok-Closed-clause-work
returns-in-Ok-Closed-clause-work g c =
    let called = subst (λ (a : TakeOut). Called (IsTaken 1) (HandOut 1) c.args.seat.now c.take_out.new.seat (Ok a)) c.in-Ok-Closed.field-0-is c.in-Ok-Closed.ensures in
    let laws = c.calls_add_their_own.ensures in
    record { ends = closes_as laws.seen laws.added c.args.seat.now c.take_out.new.seat c.requires.writes called; sent = refl; same = refl }

pub returns-in-Err-clause-work : goal.returns-in-Err-clause-work
returns-in-Err-clause-work g c =
    let laws = c.calls_add_their_own.ensures in
    let e = refused_as c.args.seat.now c.refused.new.seat c.refused.result
    (refused_by laws.seen laws.added (IsTaken 1) (HandOut 1) c.args.seat.now c.take_out.new.seat c.refused.new.seat c.in-Err.fault c.refused.result one_lane c.requires.writes c.in-Err.ensures c.refused.ensures) in
    record { ends = e.0; sent = refl; same = refl }
