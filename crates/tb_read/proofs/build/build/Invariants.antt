use Rattle.std.proofs.Common.{◌≡◌, reverse, vec_len}
use Rattle.tb_read.specs.Helpers.Building.{built_from, nothing}
use Rattle.tb_read.proofs.build.build.Given as goal

-- the remaining tokens, the last first, complete the result of all tokens
abbrev pub invariant-loop-token : goal.invariant-loop-token
invariant-loop-token l = built_from l.builder (reverse l.tokens.items) ≡ built_from nothing l.fn.tokens.items

abbrev pub decreases-loop-token : goal.decreases-loop-token
decreases-loop-token l = vec_len l.tokens
