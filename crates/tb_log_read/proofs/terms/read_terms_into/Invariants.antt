use Rattle.std.proofs.Common.{◌≡◌, length}
use Rattle.tb_log_read.specs.Helpers.Terms.{terms_of, with_prefix}
use Rattle.tb_log_read.proofs.terms.read_terms_into.Given as goal

-- the terms so far, and the terms of the remaining bytes
abbrev pub invariant-parts : goal.invariant-parts
invariant-parts l = with_prefix l.terms (terms_of l.rest) ≡ terms_of l.bytes

abbrev pub decreases-parts : goal.decreases-parts
decreases-parts l = length l.rest
