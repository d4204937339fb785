use Rattle.std.proofs.Common.{◌≡◌, ◌∙◌, None, ap, sym}
use Rattle.std.specs.Option.{option_copied, is_some}
use Rattle.tb_tools.specs.Finding.{next_out}
use Rattle.tb_bus.specs.Buses.{Bus}
use Rattle.tb_core.specs.Helpers.LiveBuses.{bus_of}
use Rattle.tb_core.proofs.CoreLemmas.{bus-seen}
use Rattle.tb_core.proofs.machine.Core.has_out.Goals as goal

pub returns-in-Some : goal.returns-in-Some
returns-in-Some g c =
    let core = c.self.inside in
    let bus = bus_of g.W.Walker.view core.bus in
    let same = bus-seen bus core.bus.origin core.log core.stopped c.args.self.now c.self.invariant.bus_is c.self.view_is in
    sym (ap (λ (b : Bus). is_some (next_out c.args.lane b.bench)) same ∙ ap is_some (sym c.next_out.ensures ∙ ap option_copied c.in-Some.is))

pub returns-in-None : goal.returns-in-None
returns-in-None g c =
    let core = c.self.inside in
    let bus = bus_of g.W.Walker.view core.bus in
    let none : next_out c.args.lane bus.bench ≡ None = sym c.next_out.ensures ∙ ap option_copied c.in-None.is in
    let same = bus-seen bus core.bus.origin core.log core.stopped c.args.self.now c.self.invariant.bus_is c.self.view_is in
    sym (ap (λ (b : Bus). is_some (next_out c.args.lane b.bench)) same ∙ ap is_some none)
