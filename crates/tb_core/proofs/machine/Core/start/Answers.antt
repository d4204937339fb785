use Rattle.std.proofs.Common.{◌≡◌, ◌≤◌, ◌∙◌, ◌+◌, List, ap, arith, length, subst, sym}
use Rattle.tb_log.specs.declared.entry.Entry.{Entry}
use Rattle.tb_bus.specs.declared.origin.Origin.{Origin}
use Rattle.tb_bus.specs.Buses.{Bus, start}
use Rattle.tb_bus.specs.Traces.{IsTrace, replay}
use Rattle.tb_living.proofs.OpenLemmas.{few-roots}
use Rattle.tb_core.proofs.machine.Core.start.Goals as goal

pub invariant_of-result : goal.invariant_of-result
invariant_of-result g c =
    let bus = c.in_ok-bus.bus in
    let log = c.new-log.result in
    let opens = c.in_ok-bus.ensures in
    let few = few-roots c.args.program.bodies c.args.program.roots c.args.program.tools c.args.program.in_range in
    let ticks : bus.ticks ≡ 0 = ap (λ (b : Bus). b.now) opens.bus in
    let next : bus.marks.next_number ≡ length c.args.program.roots + 1 = ap (λ (b : Bus). b.next_number) opens.bus in
    let tool : bus.bench.next_tool ≡ 1 = ap (λ (b : Bus). b.bench.next_tool) opens.bus in
    record {
      sound = opens.sound;
      bus_is = opens.bus ∙ ap start (sym opens.origin) ∙ ap (replay (start bus.origin)) (sym c.new-log.ensures.entries);
      trace = subst (λ (entries : List Entry). IsTrace (start bus.origin) entries) (sym c.new-log.ensures.entries) tt;
      limit = c.new-log.ensures.limit ∙ ap (λ (o : Origin). o.limit) (sym opens.origin);
      within = subst (λ (entries : List Entry). length entries ≤ log.limit) (sym c.new-log.ensures.entries) (omega arith);
      few = subst (λ (o : Origin). o.limit ≤ 4000000) (sym opens.origin) c.requires.limit;
      ticks = omega arith;
      next = omega arith;
      tools = omega arith;
    }
