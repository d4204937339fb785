use Rattle.std.proofs.Common.{◌+◌, List, ap, arith}
use Rattle.tb_log.specs.declared.entry.Entry.{Entry}
use Rattle.tb_core.specs.Cores.{ends_quiet}
use Rattle.tb_sim.specs.Helpers.Turns.{Goes}
use Rattle.tb_sim.specs.declared.ends.Turned.TheVariants as turned
use Rattle.tb_sim.proofs.SimLemmas.{begun, led-nothing, led-on, led-ends, led-left, left-fewer}
use Rattle.tb_sim.proofs.simulation.simulate.Goals as goal

pub loop-next-init : goal.loop-next-init
loop-next-init g c = record {
  led = led-nothing c.args.steps c.args.feed.now begun c.args.core.now;
  within = record { steps_made = omega arith; inputs_fed = omega arith };
  said = ap (λ (log : List Entry). ends_quiet log) c.requires.fresh;
}

pub loop-next-preserved : goal.loop-next-preserved
loop-next-preserved g c =
    let so_far = c.loop-next.so_far in
    let next = c.in-Ok-On.next in
    let gone : Goes c.args.steps c.args.feed.now c.loop-next.core so_far c.go.new.core (turned.On next) = rw c.in-Ok-On.field-0-is at c.in-Ok-On.ensures.ok in
    record {
      led = led-on c.args.steps c.args.feed.now c.args.core.now c.loop-next.core c.go.new.core begun so_far next c.loop-next.invariant.led gone.0;
      within = gone.1;
      said = gone.2;
    }

pub loop-next-smaller : goal.loop-next-smaller
loop-next-smaller g c =
    let so_far = c.loop-next.so_far in
    let gone : Goes c.args.steps c.args.feed.now c.loop-next.core so_far c.go.new.core (turned.On c.in-Ok-On.next) = rw c.in-Ok-On.field-0-is at c.in-Ok-On.ensures.ok in
    left-fewer c.loop-next.core c.go.new.core gone.0.origin gone.3

pub returns-in-Ok-End-clause-ok : goal.returns-in-Ok-End-clause-ok
returns-in-Ok-End-clause-ok g c =
    let so_far = c.loop-next.so_far in
    let gone : Goes c.args.steps c.args.feed.now c.loop-next.core so_far c.go.new.core (turned.End c.in-Ok-End.end) = rw c.in-Ok-End.field-0-is at c.in-Ok-End.ensures.ok in
    led-ends c.args.steps c.args.feed.now c.args.core.now c.loop-next.core c.go.new.core so_far c.in-Ok-End.end c.requires.fresh c.loop-next.invariant.led gone

pub returns-in-Err-clause-err : goal.returns-in-Err-clause-err
returns-in-Err-clause-err g c =
    led-left c.args.steps c.args.feed.now c.args.core.now c.loop-next.core c.go.new.core c.loop-next.so_far c.requires.fresh c.loop-next.invariant.led c.in-Err.ensures.err
