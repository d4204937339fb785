use Rattle.tb_parse.proofs.KeptRows.{KeptSoFar}
use Rattle.tb_parse.proofs.definitions.definitions.Given as goal

abbrev pub invariant-loop-turn : goal.invariant-loop-turn
invariant-loop-turn l = KeptSoFar l.room l.room l.fn.reader l.found l._turn l.reader
