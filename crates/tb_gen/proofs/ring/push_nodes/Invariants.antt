use Rattle.std.proofs.Common.{◌≡◌, ◌≤◌, ◌-◌, ◌++◌}
use Rattle.tb_gen.specs.Ring.{nodes_text}
use Rattle.tb_gen.proofs.ring.push_nodes.Given as goal

abbrev pub decreases-loop-process : goal.decreases-loop-process
decreases-loop-process l = l.n - l.process

-- with the remaining processes, they are all processes
abbrev pub invariant-loop-process : goal.invariant-loop-process
invariant-loop-process l = record {
  within : l.process ≤ l.n;
  text : l.into.items ++ nodes_text l.process (l.n - l.process) ≡ l.fn.into.items ++ nodes_text 2 (l.n - 2);
}
