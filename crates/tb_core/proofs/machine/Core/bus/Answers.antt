use Rattle.std.proofs.Common.{sym}
use Rattle.tb_core.specs.Helpers.LiveBuses.{bus_of}
use Rattle.tb_core.proofs.CoreLemmas.{bus-seen}
use Rattle.tb_core.proofs.machine.Core.bus.Goals as goal

pub returns-clause-value : goal.returns-clause-value
returns-clause-value g c =
    let core = c.self.inside in
    sym (bus-seen (bus_of g.W.Walker.view core.bus) core.bus.origin core.log core.stopped c.args.self.now c.self.invariant.bus_is c.self.view_is)
