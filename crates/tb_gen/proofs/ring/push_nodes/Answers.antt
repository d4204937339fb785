use Rattle.std.proofs.Common.{◌+◌, ◌-◌, ◌++◌, arith}
use Rattle.tb_gen.specs.Ring.{nodes_text}
use Rattle.tb_gen.proofs.Nodes.{put-one}
use Rattle.tb_gen.proofs.ring.push_nodes.Goals as goal

pub loop-process-preserved : goal.loop-process-preserved
loop-process-preserved c = record {
  within = omega (arith, c.loop-process-test.true);
  text = put-one c.loop-process.into.items c.push_later.new.into.items c.loop-process.process c.args.n (c.args.into.now.items ++ nodes_text 2 (c.args.n - 2)) c.loop-process-test.true c.in_ok-push_later.ensures c.loop-process.invariant.text;
}
