use Rattle.std.proofs.Common.{◌+◌, ◌*◌}
use Rattle.tb_parse.specs.Helpers.Heights.{rank}
use Rattle.tb_parse.proofs.Chains.{ChainSoFar}
use Rattle.tb_parse.proofs.Stars.{StarsSoFar}
use Rattle.tb_parse.proofs.procs.+procs.Given as goal

abbrev pub decreases-prim : goal.decreases-prim
decreases-prim l = 16 * l.room

abbrev pub decreases-turns : goal.decreases-turns
decreases-turns l = 16 * l.room + 1

abbrev pub decreases-member : goal.decreases-member
decreases-member l = 16 * l.room + 2 * rank l.link + 2

abbrev pub decreases-chain : goal.decreases-chain
decreases-chain l = 16 * l.room + 2 * rank l.link + 3

abbrev pub decreases-sides : goal.decreases-sides
decreases-sides l = 16 * l.room + 10

abbrev pub decreases-test : goal.decreases-test
decreases-test l = 16 * l.room + 11

abbrev pub decreases-block : goal.decreases-block
decreases-block l = 16 * l.room + 11

abbrev pub decreases-lower_proc : goal.decreases-lower_proc
decreases-lower_proc l = 16 * l.room + 12

abbrev pub decreases-prim_of : goal.decreases-prim_of
decreases-prim_of l = 16 * l.room + 13

abbrev pub invariant-chain-loop-turn : goal.invariant-chain-loop-turn
invariant-chain-loop-turn l = ChainSoFar l.link l.room l.fn.reader l.prefix l._turn l.reader

abbrev pub invariant-turns-loop-turn : goal.invariant-turns-loop-turn
invariant-turns-loop-turn l = StarsSoFar l.room l.fn.reader l.whole l._turn l.reader
