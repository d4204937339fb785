use Rattle.std.proofs.Common.{◌≡◌, length}
use Rattle.tb_parse.specs.Helpers.Heights.{joined, join_of}
use Rattle.tb_parse.proofs.built.joined.Given as goal

abbrev pub invariant-loop-x : goal.invariant-loop-x
invariant-loop-x l = joined (join_of l.chain) l.prefix l.whole ≡ joined (join_of l.chain) l.fn.prefix l.fn.last

abbrev pub decreases-loop-x : goal.decreases-loop-x
decreases-loop-x l = length l.prefix
