use Rattle.tb_lock.proofs.RightLemmas.{covers}
use Rattle.tb_lock.proofs.rights.Rights.cover.Goals as goal

pub returns : goal.returns
returns c = covers c.args.some.now c.args.self.now
