-- A set of numbers as bits of words, and its next number.
use Rattle.std.specs.Prelude.{◌≡◌, ℕ, ◌*◌, ◌/◌, ◌%◌, ◌<◌, ◌≤◌, List, length, slice_index, Option, Some, None}
use Rattle.std.specs.Int.{bit_at}

-- 1 if the number is in the set, else 0
abbrev pub bit_in : List ℕ → ℕ → ℕ
bit_in words n = bit_at (slice_index words (n / 64)) (n % 64)

-- the first position from `from` on whose bit is 1, or none
abbrev pub IsNextBit : (ℕ → ℕ) → ℕ → Option ℕ → Type 0
IsNextBit bit from None = (k : ℕ) → from ≤ k → bit k ≡ 0
IsNextBit bit from (Some n) = (from ≤ n) × (bit n ≡ 1) × ((k : ℕ) → from ≤ k → k < n → bit k ≡ 0)

-- the maximum number of words in a row
abbrev pub most_words : ℕ
most_words = 67108864

-- the upper row has a bit for each word of the lower row that isn't 0, and no other bit
pub record IsTwoRows (low high : List ℕ) : Type 0 where
  pub empty : (word : ℕ) → bit_in high word ≡ 0 → slice_index low word ≡ 0
  pub filled : (word : ℕ) → bit_in high word ≡ 1 → 0 < slice_index low word
  pub long : length low ≤ 64 * length high
  pub few : length low ≤ most_words
  pub few_high : length high ≤ most_words
