use Rattle.std.proofs.Common.{subst}
use Rattle.tb_bus.specs.declared.origin.Origin.{Origin}
use Rattle.tb_top.specs.Helpers.Parts.{IsSimulated}
use Rattle.tb_top.proofs.sim.sim_fed.Goals as goal

pub returns-in-Ok-clause-outcome : goal.returns-in-Ok-clause-outcome
returns-in-Ok-clause-outcome g c =
    subst (λ (o : Origin). IsSimulated c.args.steps o c.args.feed.now (g.O.Sink.taken c.args.out.now) (g.O.Sink.taken c.sim_core-outcome.new.out) c.sim_core-outcome.result) c.in-Ok.ensures.origin c.sim_core-outcome.ensures.outcome
