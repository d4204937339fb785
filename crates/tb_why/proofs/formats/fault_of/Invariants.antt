use Rattle.std.proofs.Common.{◌≡◌, drop, false}
use Rattle.tb_why.specs.Formats.{fault_from}
use Rattle.tb_why.specs.Helpers.Scenes.{fault_at}
use Rattle.tb_why.proofs.formats.fault_of.Given as goal

-- what is left of the format decides
abbrev pub invariant-loop-letter : goal.invariant-loop-letter
invariant-loop-letter l = fault_at l.reading (drop l.letter-index l.format) l.terms ≡ fault_from false 1 l.format l.terms
