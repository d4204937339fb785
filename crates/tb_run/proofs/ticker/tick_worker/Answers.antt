use Rattle.std.proofs.Common.{◌≡◌, sym, arith, inr, refl, false}
use Rattle.tb_run.proofs.TickLemmas.{ticks_none, ticks_on, ticks_end, ticks_over, ticked_none}
use Rattle.tb_run.proofs.ticker.tick_worker.Goals as goal

pub loop-done-init : goal.loop-done-init
loop-done-init g c = ticks_none c.args.seat.now (g.C.Clock.told c.args.clock.now) (g.C.Clock.faults c.args.clock.now)

pub loop-done-preserved : goal.loop-done-preserved
loop-done-preserved g c =
    ticks_on c.args.seat.now c.loop-done.seat c.tick_one.new.seat (g.C.Clock.told c.args.clock.now) (g.C.Clock.told c.loop-done.clock) (g.C.Clock.told c.tick_one.new.clock) (g.C.Clock.faults c.args.clock.now) (g.C.Clock.faults c.loop-done.clock) (g.C.Clock.faults c.tick_one.new.clock) c.loop-done._done 1 c.loop-done.invariant c.in-None.ensures

pub returns-in-Some : goal.returns-in-Some
returns-in-Some g c =
    ticks_end c.args.seat.now c.loop-done.seat c.tick_one.new.seat (g.C.Clock.told c.args.clock.now) (g.C.Clock.told c.loop-done.clock) (g.C.Clock.told c.tick_one.new.clock) (g.C.Clock.faults c.args.clock.now) (g.C.Clock.faults c.loop-done.clock) (g.C.Clock.faults c.tick_one.new.clock) c.loop-done._done
    (λ count. ⊥) (λ count. count ≡ c.args.ticks) 1 c.args.ticks (λ k never. absurd never) (let t = c.loop-done-test.true in omega arith) c.in-Some.end c.loop-done.invariant c.in-Some.ensures

pub returns : goal.returns
returns g c =
    let seat = c.loop-done.seat in
    let told = g.C.Clock.told c.loop-done.clock in
    let faults = g.C.Clock.faults c.loop-done.clock in
    let all : c.loop-done._done ≡ c.args.ticks = (let t = c.loop-done-test.false in let u = c.loop-done.auto._done-end in omega arith) in
    ticks_end c.args.seat.now seat c.no_more.new.seat (g.C.Clock.told c.args.clock.now) told told (g.C.Clock.faults c.args.clock.now) faults faults c.loop-done._done
    (λ count. count ≡ 0) (λ count. count ≡ c.args.ticks) 0 c.args.ticks (λ k e. omega (arith, all, e)) (omega (arith, all)) c.no_more.result c.loop-done.invariant
    (ticks_over seat c.no_more.new.seat told told faults faults (omega arith) (λ count. count ≡ 0) 0 false (sym (ticked_none told)) c.no_more.result refl (inr refl) c.no_more.ensures)
