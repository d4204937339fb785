use Rattle.tb_parse.specs.Helpers.Parsing.{formal}
use Rattle.tb_parse.proofs.Parts.{PartsSoFar}
use Rattle.tb_parse.proofs.definitions.parted_formals.Given as goal

abbrev pub invariant-loop-turn : goal.invariant-loop-turn
invariant-loop-turn l = PartsSoFar (formal l.room) l.room l.fn.reader l.found l._turn l.reader
