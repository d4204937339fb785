use Rattle.std.proofs.Common.{◌≡◌, false, drop}
use Rattle.tb_func.specs.Helpers.Outputs.{in_all}
use Rattle.tb_func.specs.Printing.{printed}
use Rattle.tb_func.proofs.printing.printed.Given as goal

-- the remaining bytes, after the text so far
abbrev pub invariant-loop-byte : goal.invariant-loop-byte
invariant-loop-byte l = in_all l.printer (drop l.byte-index l.format) l.args ≡ printed false l.format l.args
