use Rattle.tb_living.proofs.ReadLemmas.{on-ok}
use Rattle.tb_core.proofs.SetLemmas.{stands-then}
use Rattle.tb_core.proofs.bus.LiveBus.freshen.Goals as goal

pub returns-clause-same : goal.returns-clause-same
returns-clause-same g c = stands-then g.W.Walker.view c.args.self.now c.settle.new.self c.look_anew.new.self c.settle.ensures.same c.look_anew.ensures.same

pub returns-clause-settled : goal.returns-clause-settled
returns-clause-settled g c = on-ok c.look_anew.result (c.look_anew.ensures.same.calm c.in_ok-settle.ensures.settled)
