use Rattle.std.proofs.Common.{◌≡◌, ◌++◌, drop, map}
use Rattle.tb_code.specs.Helpers.Blanks.{blank}
use Rattle.tb_code.proofs.lists.add_blanks.Given as goal

-- the spans so far, followed by the spans of the remaining nodes
abbrev pub invariant-loop-node : goal.invariant-loop-node
invariant-loop-node l = l.spans ++ map blank (drop l.node-index l.nodes) ≡ l.fn.spans ++ map blank l.nodes
