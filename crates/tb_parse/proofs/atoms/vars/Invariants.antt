use Rattle.tb_parse.specs.Helpers.Parsing.{var}
use Rattle.tb_parse.proofs.Parts.{PartsSoFar}
use Rattle.tb_parse.proofs.atoms.vars.Given as goal

abbrev pub invariant-loop-turn : goal.invariant-loop-turn
invariant-loop-turn l = PartsSoFar (var l.room) l.room l.fn.reader l.found l._turn l.reader
