use Rattle.std.proofs.Common.{◌∙◌, ap, sym}
use Rattle.tb_tools.specs.Lanes.{lane_at, lane_state}
use Rattle.tb_bus.specs.Buses.{Bus}
use Rattle.tb_core.specs.Helpers.LiveBuses.{bus_of}
use Rattle.tb_core.proofs.CoreLemmas.{bus-seen}
use Rattle.tb_core.proofs.machine.Core.lane_state.Goals as goal

pub returns : goal.returns
returns g c =
    let core = c.self.inside in
    c.lane_state.ensures
    ∙ ap (λ (b : Bus). lane_state (lane_at c.args.lane b.bench)) (sym (bus-seen (bus_of g.W.Walker.view core.bus) core.bus.origin core.log core.stopped c.args.self.now c.self.invariant.bus_is c.self.view_is))
