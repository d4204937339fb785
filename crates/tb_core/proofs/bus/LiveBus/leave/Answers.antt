use Rattle.tb_core.proofs.MakeLemmas.{kept-same}
use Rattle.tb_core.proofs.bus.LiveBus.leave.Goals as goal

pub returns-in_err-push-clause-kept : goal.returns-in_err-push-clause-kept
returns-in_err-push-clause-kept g c = kept-same c.args.self.now.living.items c.args.at c.requires.within
