use Rattle.std.proofs.Common.{◌∙◌, ap, subst, sym, IsSome}
use Rattle.tb_tools.specs.Finding.{first_out, next_out}
use Rattle.tb_bus.specs.Buses.{Bus}
use Rattle.tb_core.specs.Helpers.LiveBuses.{bus_of}
use Rattle.tb_core.proofs.CoreLemmas.{bus-seen}
use Rattle.tb_core.proofs.machine.Core.first_out.Goals as goal

pub returns-clause-lane : goal.returns-clause-lane
returns-clause-lane g c =
    let core = c.self.inside in
    c.first_out.ensures.lane
    ∙ ap (λ (b : Bus). first_out b.bench) (sym (bus-seen (bus_of g.W.Walker.view core.bus) core.bus.origin core.log core.stopped c.args.self.now c.self.invariant.bus_is c.self.view_is))

pub returns-clause-some : goal.returns-clause-some
returns-clause-some g c lane found =
    let core = c.self.inside in
    subst (λ (b : Bus). IsSome (next_out lane b.bench))
    (sym (bus-seen (bus_of g.W.Walker.view core.bus) core.bus.origin core.log core.stopped c.args.self.now c.self.invariant.bus_is c.self.view_is)) (c.first_out.ensures.some lane found)
