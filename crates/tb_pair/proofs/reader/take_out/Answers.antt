use Rattle.std.proofs.Common.{Ok, subst, arith}
use Rattle.tb_core.specs.declared.answers.TakeOut.TheVariants as taken
use Rattle.tb_core.specs.declared.answers.TakeOut.{TakeOut}
use Rattle.tb_core.specs.Cores.{HandOut}
use Rattle.tb_log.specs.Shapes.{IsLane}
use Rattle.tb_lock.specs.Calls.{IsTaken, Called}
use Rattle.tb_run.proofs.SeatLemmas.{adds_none, marks_none, refused_by}
use Rattle.tb_run.proofs.WriteLemmas.{takes_out, called_same}
use Rattle.tb_pair.proofs.PipeLemmas.{closes_as, refused_as}
use Rattle.tb_pair.proofs.reader.take_out.Goals as goal

one_lane : IsLane 1
one_lane = (omega arith, omega arith)

pub returns-then-not-calls_for : goal.returns-then-not-calls_for
returns-then-not-calls_for g c = (adds_none c.args.seat.now, marks_none c.args.seat.now)

pub returns-in-Ok-Out : goal.returns-in-Ok-Out
returns-in-Ok-Out g c =
    let called = subst (λ (a : TakeOut). Called (IsTaken 1) (HandOut 1) c.args.seat.now c.take_out.new.seat (Ok a)) c.in-Ok-Out.field-0-is c.in-Ok-Out.ensures in
    let laws = c.calls_add_their_own.ensures in
    let answer = taken.Out c.in-Ok-Out.out in
    (c.in-Ok-Out.out, takes_out laws.seen laws.added 1 c.args.seat.now c.take_out.new.seat answer c.requires.writes called, called_same 1 c.args.seat.now c.take_out.new.seat answer called)

pub returns-in-Ok-Nothing : goal.returns-in-Ok-Nothing
returns-in-Ok-Nothing g c =
    let called = subst (λ (a : TakeOut). Called (IsTaken 1) (HandOut 1) c.args.seat.now c.take_out.new.seat (Ok a)) c.in-Ok-Nothing.field-0-is c.in-Ok-Nothing.ensures in
    let laws = c.calls_add_their_own.ensures in
    (takes_out laws.seen laws.added 1 c.args.seat.now c.take_out.new.seat taken.Nothing c.requires.writes called, called_same 1 c.args.seat.now c.take_out.new.seat taken.Nothing called)

pub returns-in-Ok-Closed : goal.returns-in-Ok-Closed
returns-in-Ok-Closed g c =
    let called = subst (λ (a : TakeOut). Called (IsTaken 1) (HandOut 1) c.args.seat.now c.take_out.new.seat (Ok a)) c.in-Ok-Closed.field-0-is c.in-Ok-Closed.ensures in
    let laws = c.calls_add_their_own.ensures in
    closes_as laws.seen laws.added c.args.seat.now c.take_out.new.seat c.requires.writes called

pub returns-in-Err : goal.returns-in-Err
returns-in-Err g c =
    let laws = c.calls_add_their_own.ensures in
    refused_as c.args.seat.now c.refused.new.seat c.refused.result
    (refused_by laws.seen laws.added (IsTaken 1) (HandOut 1) c.args.seat.now c.take_out.new.seat c.refused.new.seat c.in-Err.fault c.refused.result one_lane c.requires.writes c.in-Err.ensures c.refused.ensures)
