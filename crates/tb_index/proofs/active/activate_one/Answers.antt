use Rattle.tb_index.proofs.SideLemmas as sides
use Rattle.tb_index.proofs.active.activate_one.Goals as goal

pub activate_received-requires-clause-opened : goal.activate_received-requires-clause-opened
activate_received-requires-clause-opened c = sides.told-open c.args.side c.args.counts.now.opened c.args.across.now c.args.counts.now.pairs c.args.mark c.in-Receives.is c.requires
