use Rattle.tb_index.proofs.GatherLemmas.{gathered-triple}
use Rattle.tb_index.proofs.gather.gather_many.Goals as goal

pub loop-pair-preserved : goal.loop-pair-preserved
loop-pair-preserved c = gathered-triple c.args.many.now c.args.found.now c.loop-pair.found c.gather_one.new.found c.args.sent c.in-Some.pair.now c.loop-pair.pair-iterator c.next.new.self c.in-Some.ensures.steps
    c.in_ok-gather_one.ensures c.loop-pair.invariant.0 c.loop-pair.invariant.1 c.loop-pair.invariant.2 c.loop-pair.invariant.3
