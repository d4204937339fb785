-- A term that passes the test for the limits is within them.
use Rattle.std.proofs.Common.{◌≡◌, true, nat_le}
use Rattle.std.proofs.lemmas.Bool.{and_parts, leb-true}
use Rattle.tb_terms.specs.declared.term.Term.{Term}
use Rattle.tb_terms.specs.Sizes.{term_size, term_levels, most_term_size, most_term_levels, is_within_limits, IsWithinLimits}

pub within-limits : (term : Term) → is_within_limits term ≡ true → IsWithinLimits term
unfolding is_within_limits
within-limits term h =
    let both = and_parts (nat_le (term_size term) most_term_size) (nat_le (term_levels term) most_term_levels) h in
    record { size = leb-true (term_size term) most_term_size both.0; levels = leb-true (term_levels term) most_term_levels both.1 }
