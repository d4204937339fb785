use Rattle.std.proofs.Common.{◌≡◌, min, take}
use Rattle.tb_read.specs.Helpers.Limits.{tokens_size}
use Rattle.tb_read.proofs.limits.tokens_size.Given as goal

abbrev pub invariant-loop-token : goal.invariant-loop-token
invariant-loop-token l = l.total ≡ min (tokens_size (take l.token-index l.tokens)) 18446744073709551615
