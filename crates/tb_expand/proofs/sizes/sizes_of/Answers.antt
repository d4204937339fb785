use Rattle.std.proofs.Common.{arith, refl}
use Rattle.tb_expand.proofs.SizesKept.{kept_next, all_kept}
use Rattle.tb_expand.proofs.sizes.sizes_of.Goals as goal

pub loop-position-preserved : goal.loop-position-preserved
loop-position-preserved c =
    kept_next c.args.names.now.script.now c.args.order.now c.loop-position.sizes c.keep_size.new.sizes c.loop-position.position-index _ c.requires
    (omega arith) refl c.loop-position.invariant c.keep_size.ensures

pub returns : goal.returns
returns c =
    all_kept c.args.names.now.script.now c.args.order.now c.loop-position.sizes c.loop-position.position-index c.requires (omega arith) c.loop-position.invariant
