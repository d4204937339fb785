use Rattle.std.proofs.Common.{length}
use Rattle.tb_verify.specs.Helpers.Followed.{IsFollowed}
use Rattle.tb_verify.proofs.verifying.verify_lines.Given as goal

-- the core has followed the lines so far
abbrev pub invariant-lines : goal.invariant-lines
invariant-lines g l = IsFollowed l.fn.core.origin l.log l.rest l.core

abbrev pub decreases-lines : goal.decreases-lines
decreases-lines g l = length l.rest
