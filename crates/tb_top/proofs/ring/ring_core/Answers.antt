use Rattle.std.proofs.Common.{List, [], subst}
use Rattle.tb_bus.specs.Buses.{start}
use Rattle.tb_bus.specs.Traces.{IsTrace}
use Rattle.tb_bus.specs.declared.origin.Origin.{Origin}
use Rattle.tb_log.specs.declared.entry.Entry.{Entry}
use Rattle.tb_log.specs.declared.entry.Input.{Input}
use Rattle.tb_sim.specs.Simulation.{IsSim, limits_of, sim_start}
use Rattle.tb_top.specs.Ring.{most_of_ring, summary}
use Rattle.tb_top.specs.Helpers.Parts.{PutsWhole}
use Rattle.tb_top.proofs.Parts.{summary-written}
use Rattle.tb_top.proofs.ring.ring_core.Goals as goal

pub returns-in-Ok-clause-outcome : goal.returns-in-Ok-clause-outcome
returns-in-Ok-clause-outcome g c =
    let origin = c.args.core.now.origin in
    let old = g.O.Sink.taken c.args.out.now in
    let new = g.O.Sink.taken c.put_summary.new.out in
    let log = c.simulate-2.new.core.log in
    let last = c.in-Ok.end in
    let ran : IsSim (limits_of most_of_ring origin) (sim_start (start origin) []) log last =
    subst (λ (inputs : List Input). IsSim (limits_of most_of_ring origin) (sim_start (start origin) inputs) log last) c.empty.ensures c.in-Ok.ensures.ok in
    let trace : IsTrace (start origin) log = subst (λ (o : Origin). IsTrace (start o) log) c.in-Ok.ensures.origin c.log.ensures.trace in
    let put : PutsWhole (summary c.args.n log) last old new c.put_summary.result =
    subst (λ (l : List Entry). PutsWhole (summary c.args.n l) last old new c.put_summary.result) c.log.ensures.value c.put_summary.ensures.outcome in
    summary-written c.args.n origin log last old new c.put_summary.result c.requires.origin ran trace put
