use Rattle.std.proofs.Common.{◌∙◌, ap, sym}
use Rattle.tb_bus.specs.Steps.{steps}
use Rattle.tb_core.specs.Helpers.LiveBuses.{bus_of, move_in}
use Rattle.tb_core.specs.Cores.{has_any}
use Rattle.tb_core.proofs.CoreLemmas.{bus-seen}
use Rattle.tb_core.proofs.GoLemmas.{any-found}
use Rattle.tb_core.proofs.machine.Core.has_step.Goals as goal

pub returns-clause-value : goal.returns-clause-value
returns-clause-value g c =
    let core = c.self.inside in
    let now = c.freshen.new.self in
    c.is_some.ensures
    ∙ any-found (bus_of g.W.Walker.view now) (move_in g.W.Walker.view now) c.in_ok-first_candidate.field-0 (sym c.in_ok-first_candidate.ensures.found)
    ∙ ap (λ b. has_any (steps b)) c.freshen.ensures.same.bus
    ∙ ap (λ b. has_any (steps b)) (sym (bus-seen (bus_of g.W.Walker.view core.bus) core.bus.origin core.log core.stopped c.args.self.now c.self.invariant.bus_is c.self.view_is))
