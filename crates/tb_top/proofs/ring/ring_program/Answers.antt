use Rattle.std.proofs.Common.{◌≡◌, subst, ap}
use Rattle.tb_body.specs.declared.program.Program.{Program}
use Rattle.tb_bus.specs.declared.origin.Origin.{Origin}
use Rattle.tb_top.specs.Helpers.Parts.{IsRingSimulated}
use Rattle.tb_top.proofs.ring.ring_program.Goals as goal

pub returns-in-Ok-clause-outcome : goal.returns-in-Ok-clause-outcome
returns-in-Ok-clause-outcome g c =
    let same : c.in-Ok.core.origin.program ≡ c.args.program = ap (λ (origin : Origin). origin.program) c.in-Ok.ensures.origin in
    subst (λ (program : Program). IsRingSimulated program c.args.n (g.O.Sink.taken c.args.out.now) (g.O.Sink.taken c.ring_core-outcome.new.out) c.ring_core-outcome.result) same c.ring_core-outcome.ensures.outcome
