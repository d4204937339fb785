use Rattle.tb_index.proofs.SideLemmas as sides
use Rattle.tb_index.proofs.active.quiet_side.Goals as goal

pub loop-mark-init : goal.loop-mark-init
loop-mark-init c = sides.all-kept c.args.side c.args.active.now.items c.args.pairs.now

pub loop-mark-preserved : goal.loop-mark-preserved
loop-mark-preserved c = sides.still-kept c.args.side c.args.active.now.items c.loop-mark.active.items c.quiet_one.new.active.items c.args.pairs.now c.loop-mark.invariant c.quiet_one.ensures
