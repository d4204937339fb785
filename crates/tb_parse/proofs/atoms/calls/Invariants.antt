use Rattle.tb_parse.specs.Helpers.Parsing.{call}
use Rattle.tb_parse.proofs.Parts.{PartsSoFar}
use Rattle.tb_parse.proofs.atoms.calls.Given as goal

abbrev pub invariant-loop-turn : goal.invariant-loop-turn
invariant-loop-turn l = PartsSoFar (call l.room) l.room l.fn.reader l.found l._turn l.reader
