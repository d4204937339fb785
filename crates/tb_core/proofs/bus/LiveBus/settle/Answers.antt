use Rattle.tb_core.proofs.SetLemmas.{stands-settled, stands-then}
use Rattle.tb_core.proofs.bus.LiveBus.settle.Goals as goal

pub returns-in_err-settle_speakers-clause-same : goal.returns-in_err-settle_speakers-clause-same
returns-in_err-settle_speakers-clause-same g c =
    stands-then g.W.Walker.view c.args.self.now c.settle_roused.new.self c.settle_speakers.new.self c.settle_roused.ensures.same c.settle_speakers.ensures.same

pub returns-clause-same : goal.returns-clause-same
returns-clause-same g c =
    stands-settled g.W.Walker.view c.args.self.now c.settle_speakers.new.self
    (stands-then g.W.Walker.view c.args.self.now c.settle_roused.new.self c.settle_speakers.new.self c.settle_roused.ensures.same c.settle_speakers.ensures.same)
    c.in_ok-settle_speakers.ensures.settled
