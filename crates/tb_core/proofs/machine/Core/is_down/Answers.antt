use Rattle.std.proofs.Common.{ap, sym}
use Rattle.tb_bus.specs.Buses.{Bus}
use Rattle.tb_core.specs.Helpers.LiveBuses.{bus_of}
use Rattle.tb_core.proofs.CoreLemmas.{bus-seen}
use Rattle.tb_core.proofs.machine.Core.is_down.Goals as goal

pub returns : goal.returns
returns g c =
    let core = c.self.inside in
    ap (λ (b : Bus). b.down) (sym (bus-seen (bus_of g.W.Walker.view core.bus) core.bus.origin core.log core.stopped c.args.self.now c.self.invariant.bus_is c.self.view_is))
