use Rattle.std.proofs.Common.{Ok, subst}
use Rattle.tb_core.specs.declared.answers.TakeOut.TheVariants as taken
use Rattle.tb_core.specs.Cores.{HandOut}
use Rattle.tb_core.specs.declared.answers.TakeOut.{TakeOut}
use Rattle.tb_lock.specs.Calls.{IsTaken, Called}
use Rattle.tb_run.proofs.SeatLemmas.{refused_by}
use Rattle.tb_run.proofs.WriteLemmas.{takes_out, called_same, closes, out_in_shape, writes_refused}
use Rattle.tb_run.proofs.writer.take_one.Goals as goal

pub returns-in-Ok-Out : goal.returns-in-Ok-Out
returns-in-Ok-Out g c =
    let called = subst (λ (a : TakeOut). Called (IsTaken c.args.lane) (HandOut c.args.lane) c.args.seat.now c.take_out.new.seat (Ok a)) c.in-Ok-Out.field-0-is c.in-Ok-Out.ensures in
    let laws = c.calls_add_their_own.ensures in
    let lane = c.args.lane in
    let old = c.args.seat.now in
    let new = c.take_out.new.seat in
    let answer = taken.Out c.in-Ok-Out.out in
    (takes_out laws.seen laws.added lane old new answer c.requires.right called, called_same lane old new answer called, out_in_shape c.entries_are_in_shape.ensures.trace lane old new c.in-Ok-Out.out called)

pub returns-in-Ok-Nothing : goal.returns-in-Ok-Nothing
returns-in-Ok-Nothing g c =
    let called = subst (λ (a : TakeOut). Called (IsTaken c.args.lane) (HandOut c.args.lane) c.args.seat.now c.take_out.new.seat (Ok a)) c.in-Ok-Nothing.field-0-is c.in-Ok-Nothing.ensures in
    let laws = c.calls_add_their_own.ensures in
    let lane = c.args.lane in
    let old = c.args.seat.now in
    let new = c.take_out.new.seat in
    (takes_out laws.seen laws.added lane old new taken.Nothing c.requires.right called, called_same lane old new taken.Nothing called)

pub returns-in-Ok-Closed : goal.returns-in-Ok-Closed
returns-in-Ok-Closed g c =
    let called = subst (λ (a : TakeOut). Called (IsTaken c.args.lane) (HandOut c.args.lane) c.args.seat.now c.take_out.new.seat (Ok a)) c.in-Ok-Closed.field-0-is c.in-Ok-Closed.ensures in
    let laws = c.calls_add_their_own.ensures in
    λ told faults. closes c.args.lane c.args.seat.now c.take_out.new.seat told faults laws.seen laws.added c.requires.right called

pub returns-in-Err : goal.returns-in-Err
returns-in-Err g c =
    let laws = c.calls_add_their_own.ensures in
    let lane = c.args.lane in
    λ told faults. writes_refused lane c.args.seat.now c.refused.new.seat told faults c.refused.result
    (refused_by laws.seen laws.added (IsTaken lane) (HandOut lane) c.args.seat.now c.take_out.new.seat c.refused.new.seat c.in-Err.fault c.refused.result c.requires.lane c.requires.right c.in-Err.ensures c.refused.ensures)
