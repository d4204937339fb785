use Rattle.std.proofs.Common.{◌≤◌, List, length, subst}
use Rattle.std.specs.Prelude.{IsTrue}
use Rattle.std.specs.List.{list_all}
use Rattle.tb_log.specs.Proper.{is_proper_entry}
use Rattle.tb_bus.specs.Buses.{start}
use Rattle.tb_bus.specs.Traces.{IsTrace}
use Rattle.tb_bus.specs.declared.origin.Origin.{Origin}
use Rattle.tb_log.specs.LogText.{log_text}
use Rattle.tb_log.specs.declared.entry.Entry.{Entry}
use Rattle.tb_top.specs.Helpers.Parts.{PutsText}
use Rattle.tb_top.proofs.Parts.{log-written}
use Rattle.tb_top.proofs.sim.sim_core.Goals as goal

pub returns-in-Ok-clause-outcome : goal.returns-in-Ok-clause-outcome
returns-in-Ok-clause-outcome g c =
    let old = g.O.Sink.taken c.args.out.now in
    let new = g.O.Sink.taken c.put_simulation.new.out in
    let log = c.simulate.new.core.log in
    let last = c.in-Ok.end in
    let trace : IsTrace (start c.args.core.now.origin) log =
    subst (λ (o : Origin). IsTrace (start o) log) c.in-Ok.ensures.origin c.log.ensures.trace in
    let proper : IsTrue (list_all is_proper_entry log) =
    subst (λ (l : List Entry). IsTrue (list_all is_proper_entry l)) c.log.ensures.value c.put_simulation.ensures.proper in
    let within : length log ≤ c.args.core.now.origin.limit = subst (λ (o : Origin). length log ≤ o.limit) c.in-Ok.ensures.origin c.log.ensures.within in
    let put : PutsText (log_text log) last old new c.put_simulation.result =
    subst (λ (l : List Entry). PutsText (log_text l) last old new c.put_simulation.result) c.log.ensures.value c.put_simulation.ensures.outcome in
    log-written c.args.steps c.args.core.now.origin c.args.feed.now log last old new c.put_simulation.result c.in-Ok.ensures.ok trace proper within put
