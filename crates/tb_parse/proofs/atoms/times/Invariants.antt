use Rattle.tb_parse.proofs.Times.{TimesSoFar}
use Rattle.tb_parse.proofs.atoms.times.Given as goal

abbrev pub invariant-loop-turn : goal.invariant-loop-turn
invariant-loop-turn l = TimesSoFar l.room l.room l.fn.reader l.found l._turn l.reader
