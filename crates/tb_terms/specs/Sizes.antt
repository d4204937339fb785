-- The size and the depth of a term, and which terms are within the limits.
use Rattle.std.specs.Prelude.{ℕ, ◌+◌, ◌≤◌, Bool, ◌&&◌, nat_le, List, length, sum, fold, max}
use Rattle.tb_terms.specs.declared.term.Term.{Term}
use Rattle.tb_terms.specs.declared.term.Term.TheOpen.{Term-F, Int, Str, Appl, List as ListOf}
use Rattle.tb_terms.specs.declared.term.Term.TheFolds.{fold-Term}

-- one for the node, plus the bytes of its name or string, plus the sizes of its parts
abbrev pub size_step : Term-F ℕ → ℕ
size_step (Int number) = 1
size_step (Str bytes) = 1 + length bytes
size_step (Appl name parts) = 1 + length name + sum parts
size_step (ListOf parts) = 1 + sum parts

abbrev pub term_size : Term → ℕ
term_size = fold-Term ℕ size_step

abbrev pub greatest : List ℕ → ℕ
greatest numbers = fold max 0 numbers

-- one more than the depth of the deepest part, or one if there are no parts
abbrev pub levels_step : Term-F ℕ → ℕ
levels_step (Int number) = 1
levels_step (Str bytes) = 1
levels_step (Appl name parts) = 1 + greatest parts
levels_step (ListOf parts) = 1 + greatest parts

abbrev pub term_levels : Term → ℕ
term_levels = fold-Term ℕ levels_step

-- the limits of the size and of the depth
abbrev pub most_term_size : ℕ
most_term_size = 65536

abbrev pub most_term_levels : ℕ
most_term_levels = 64

pub record IsWithinLimits (term : Term) : Type 0 where
  pub size : term_size term ≤ most_term_size
  pub levels : term_levels term ≤ most_term_levels

-- `IsWithinLimits` as a test
unfoldable pub is_within_limits : Term → Bool
is_within_limits term = nat_le (term_size term) most_term_size && nat_le (term_levels term) most_term_levels
