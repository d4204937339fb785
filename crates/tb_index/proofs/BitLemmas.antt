-- Bits of words.
use Rattle.std.proofs.Common.{◌≡◌, ◌≢◌, ℕ, ◌+◌, ◌-◌, ◌*◌, ◌/◌, ◌%◌, ◌^◌, ◌<◌, ◌≤◌, List, [], ◌∷◌, length, slice_index, slice_set, ap, sym, ◌∙◌, arith, Some, None, Option, ◌⊎◌, inl, inr, ⊎_elim, pow-add, get_or, zero, suc}
use Rattle.std.proofs.lemmas.Bool.{cases_eq, cases_lt}
use Rattle.std.proofs.lemmas.List.{get_or-set_other, get_or-set_same, get_or_past}
use Rattle.std.proofs.lemmas.Nat.Bits.{bit_at_above, bit_at-zero}
use Rattle.std.proofs.Math.Nat.{div-div-eq-div-mul}
use Rattle.std.specs.Int.{bit_at}
use Rattle.tb_index.specs.Helpers.Bits.{bit_in, IsNextBit, IsTwoRows}

-- a written word is read at its place
pub bit_in-written : (words : List ℕ) (n v : ℕ) → n / 64 < length words → bit_in (slice_set words (n / 64) v) n ≡ bit_at v (n % 64)
bit_in-written words n v l = ap (λ w. bit_at w (n % 64)) (get_or-set_same words (n / 64) v 0 l)

pub bit_in-apart : (words : List ℕ) (n k v : ℕ) → k / 64 ≢ n / 64 → bit_in (slice_set words (n / 64) v) k ≡ bit_in words k
bit_in-apart words n k v apart = ap (λ w. bit_at w (k % 64)) (get_or-set_other words (n / 64) (k / 64) v 0 apart)

-- one bit of a word changes, and the other bits don't
bit_in-others-by : (words : List ℕ) (n k v : ℕ) → n / 64 < length words → k ≢ n →
    ((i : ℕ) → i < 64 → i ≢ n % 64 → bit_at v i ≡ bit_at (slice_index words (n / 64)) i) → ((k / 64) ≡ (n / 64)) ⊎ ((k / 64) ≢ (n / 64)) → bit_in (slice_set words (n / 64) v) k ≡ bit_in words k
bit_in-others-by words n k v l apart keeps (inl same) =
    let here : get_or (slice_set words (n / 64) v) (k / 64) 0 ≡ v = ap (λ j. get_or (slice_set words (n / 64) v) j 0) same ∙ get_or-set_same words (n / 64) v 0 l in
    let there : get_or words (k / 64) 0 ≡ get_or words (n / 64) 0 = ap (λ j. get_or words j 0) same in
    let other : (k % 64) ≢ (n % 64) = λ e. apart (omega arith) in
    ap (λ w. bit_at w (k % 64)) here ∙ keeps (k % 64) (omega arith) other ∙ sym (ap (λ w. bit_at w (k % 64)) there)
bit_in-others-by words n k v l apart keeps (inr other) = bit_in-apart words n k v other

pub bit_in-others : (words : List ℕ) (n k v : ℕ) → n / 64 < length words → k ≢ n →
    ((i : ℕ) → i < 64 → i ≢ n % 64 → bit_at v i ≡ bit_at (slice_index words (n / 64)) i) → bit_in (slice_set words (n / 64) v) k ≡ bit_in words k
bit_in-others words n k v l apart keeps = bit_in-others-by words n k v l apart keeps (cases_eq (k / 64) (n / 64))

-- a word with a bit isn't 0
pub filled : (word bit : ℕ) → bit_at word bit ≡ 1 → 0 < word
filled zero bit e = absurd (let z : bit_at 0 bit ≡ 0 = bit_at-zero bit in cc)
filled (suc word) bit e = omega arith

-- a bit of a word that was shifted
pub shifted : (word from i : ℕ) → bit_at (word / 2 ^ from) i ≡ bit_at word (from + i)
shifted word from i = ap (λ n. n % 2) (div-div-eq-div-mul word (2 ^ from) (2 ^ i) ∙ ap (λ n. word / n) (sym (pow-add 2 from i)))

-- the first bit of the shifted word is the first bit from a position on
pub next-shifted : (word from found : ℕ) → IsNextBit (bit_at (word / 2 ^ from)) 0 (Some found) → IsNextBit (bit_at word) from (Some (from + found))
next-shifted word from found h = (
  omega arith,
  sym (shifted word from found) ∙ h.1,
  λ k l m. let i : ℕ = k - from in
      let e : from + i ≡ k = omega arith in
      ap (bit_at word) (sym e) ∙ sym (shifted word from i) ∙ h.2 i (omega arith) (omega arith),
)

pub none-shifted : (word from k : ℕ) → word / 2 ^ from ≡ 0 → from ≤ k → bit_at word k ≡ 0
none-shifted word from k e l =
    let i : ℕ = k - from in
    let s : from + i ≡ k = omega arith in
    ap (bit_at word) (sym s) ∙ sym (shifted word from i) ∙ ap (λ w. bit_at w i) e ∙ bit_at-zero i

pub in_word : (words : List ℕ) (at bit : ℕ) → bit < 64 → bit_in words (64 * at + bit) ≡ bit_at (slice_index words at) bit
in_word words at bit l =
    let word : (64 * at + bit) / 64 ≡ at = omega arith in
    let place : (64 * at + bit) % 64 ≡ bit = omega arith in
    ap (λ j. bit_at (get_or words j 0) ((64 * at + bit) % 64)) word ∙ ap (λ i. bit_at (get_or words at 0) i) place

-- a bit found in the word at a place is found in the row
pub next-here : (words : List ℕ) (from bit : ℕ) → IsNextBit (bit_at (slice_index words (from / 64))) (from % 64) (Some bit) → bit < 64 →
    IsNextBit (bit_in words) from (Some (64 * (from / 64) + bit))
next-here words from bit h l = (
  omega (arith, h.0),
  in_word words (from / 64) bit l ∙ h.1,
  λ k m n. let same : k / 64 ≡ from / 64 = omega (arith, h.0) in
      ap (λ j. bit_at (get_or words j 0) (k % 64)) same ∙ h.2 (k % 64) (omega arith) (omega arith),
)

-- no bit in the words from one place up to another
abbrev pub Empty : List ℕ → ℕ → ℕ → Type 0
Empty words from to = (word : ℕ) → from ≤ word → word < to → slice_index words word ≡ 0

-- after a word, the first bit is that of the next word that isn't 0
pub next-behind : (words : List ℕ) (at other bit : ℕ) → at < other → Empty words (at + 1) other → IsNextBit (bit_at (slice_index words other)) 0 (Some bit) → bit < 64 →
    IsNextBit (bit_in words) (64 * (at + 1)) (Some (64 * other + bit))
next-behind words at other bit l empty h small = (
  omega arith,
  in_word words other bit small ∙ h.1,
  λ k m n. ⊎_elim
      (λ (same : k / 64 ≡ other). ap (λ j. bit_at (get_or words j 0) (k % 64)) same ∙ h.2 (k % 64) (omega arith) (omega arith))
      (λ (apart : (k / 64) ≢ other). ap (λ w. bit_at w (k % 64)) (empty (k / 64) (omega arith) (omega arith)) ∙ bit_at-zero (k % 64))
      (cases_eq (k / 64) other),
)

pub none-behind : (words : List ℕ) (at : ℕ) → ((word : ℕ) → at < word → slice_index words word ≡ 0) → IsNextBit (bit_in words) (64 * (at + 1)) None
none-behind words at empty = λ k l. ap (λ w. bit_at w (k % 64)) (empty (k / 64) (omega arith)) ∙ bit_at-zero (k % 64)

-- if the rest of a word has no bit, the first bit is the first one after the word
pub next-on : (words : List ℕ) (from : ℕ) (found : Option ℕ) → IsNextBit (bit_at (slice_index words (from / 64))) (from % 64) None → IsNextBit (bit_in words) (64 * (from / 64 + 1)) found →
    IsNextBit (bit_in words) from found
next-on words from None empty h = λ k l. ⊎_elim
    (λ (same : k / 64 ≡ from / 64). ap (λ j. bit_at (get_or words j 0) (k % 64)) same ∙ empty (k % 64) (omega arith))
    (λ (apart : (k / 64) ≢ (from / 64)). h k (omega arith))
    (cases_eq (k / 64) (from / 64))
next-on words from (Some found) empty h = (
  omega (arith, h.0),
  h.1,
  λ k l m. ⊎_elim
      (λ (same : k / 64 ≡ from / 64). ap (λ j. bit_at (get_or words j 0) (k % 64)) same ∙ empty (k % 64) (omega arith))
      (λ (apart : (k / 64) ≢ (from / 64)). h.2 k (omega arith) m)
      (cases_eq (k / 64) (from / 64)),
)

-- a word has no bit past its width
pub within-word : (word bit : ℕ) → word < 2 ^ 64 → bit_at word bit ≡ 1 → bit < 64
within-word word bit small e = ⊎_elim
    (λ (l : bit < 64). l)
    (λ (l : 64 ≤ bit). absurd (let z : bit_at word bit ≡ 0 = bit_at_above word 64 bit small l in cc))
    (cases_lt bit 64)

-- a word with a bit is within the row
pub within-row : (words : List ℕ) (n : ℕ) → bit_in words n ≡ 1 → n / 64 < length words
within-row words n e = ⊎_elim
    (λ (l : n / 64 < length words). l)
    (λ (l : length words ≤ n / 64). absurd (let z : bit_in words n ≡ 0 = ap (λ w. bit_at w (n % 64)) (get_or_past words (n / 64) 0 l) ∙ bit_at-zero (n % 64) in cc))
    (cases_lt (n / 64) (length words))

-- a bit that is set in the lower row is set in the upper one
pub rows-inserted : (low high now above : List ℕ) (at : ℕ) → IsTwoRows low high → length now ≡ length low → length above ≡ length high →
    ((word : ℕ) → word ≢ at → slice_index now word ≡ slice_index low word) → 0 < slice_index now at →
    bit_in above at ≡ 1 → ((word : ℕ) → word ≢ at → bit_in above word ≡ bit_in high word) → IsTwoRows now above
rows-inserted low high now above at rows same_low same_high others some set kept = record {
  empty = λ word e. ⊎_elim
      (λ (same : word ≡ at). absurd (let one : bit_in above word ≡ 1 = ap (bit_in above) same ∙ set in cc))
      (λ (apart : word ≢ at). others word apart ∙ rows.empty word (sym (kept word apart) ∙ e))
      (cases_eq word at);
  filled = λ word e. ⊎_elim
      (λ (same : word ≡ at). let more : get_or now word 0 ≡ get_or now at 0 = ap (λ w. get_or now w 0) same in omega arith)
      (λ (apart : word ≢ at). let more = rows.filled word (sym (kept word apart) ∙ e) in let as_before = others word apart in omega arith)
      (cases_eq word at);
  long = let long = rows.long in omega arith;
  few = let few = rows.few in omega arith;
  few_high = let few = rows.few_high in omega arith;
}

-- if a word becomes 0, its bit in the upper row is cleared
pub rows-emptied : (low high now above : List ℕ) (at : ℕ) → IsTwoRows low high → length now ≡ length low → length above ≡ length high →
    ((word : ℕ) → word ≢ at → slice_index now word ≡ slice_index low word) → slice_index now at ≡ 0 →
    bit_in above at ≡ 0 → ((word : ℕ) → word ≢ at → bit_in above word ≡ bit_in high word) → IsTwoRows now above
rows-emptied low high now above at rows same_low same_high others none clear kept = record {
  empty = λ word e. ⊎_elim
      (λ (same : word ≡ at). ap (λ w. get_or now w 0) same ∙ none)
      (λ (apart : word ≢ at). others word apart ∙ rows.empty word (sym (kept word apart) ∙ e))
      (cases_eq word at);
  filled = λ word e. ⊎_elim
      (λ (same : word ≡ at). absurd (let zero_there : bit_in above word ≡ 0 = ap (bit_in above) same ∙ clear in cc))
      (λ (apart : word ≢ at). let more = rows.filled word (sym (kept word apart) ∙ e) in let as_before = others word apart in omega arith)
      (cases_eq word at);
  long = let long = rows.long in omega arith;
  few = let few = rows.few in omega arith;
  few_high = let few = rows.few_high in omega arith;
}

-- if a changed word isn't 0, the upper row needn't change
pub rows-lessened : (low high now : List ℕ) (at : ℕ) → IsTwoRows low high → length now ≡ length low →
    ((word : ℕ) → word ≢ at → slice_index now word ≡ slice_index low word) → slice_index now at ≤ slice_index low at → slice_index now at ≢ 0 → IsTwoRows now high
rows-lessened low high now at rows same_low others less some = record {
  empty = λ word e. ⊎_elim
      (λ (same : word ≡ at). absurd (
      let before = rows.empty word e in
      let there : get_or low word 0 ≡ get_or low at 0 = ap (λ w. get_or low w 0) same in
      some (omega arith)))
      (λ (apart : word ≢ at). others word apart ∙ rows.empty word e)
      (cases_eq word at);
  filled = λ word e. ⊎_elim
      (λ (same : word ≡ at). let there : get_or now word 0 ≡ get_or now at 0 = ap (λ w. get_or now w 0) same in omega arith)
      (λ (apart : word ≢ at). let more = rows.filled word e in let as_before = others word apart in omega arith)
      (cases_eq word at);
  long = let long = rows.long in omega arith;
  few = let few = rows.few in omega arith;
  few_high = rows.few_high;
}

-- the next bit of the upper row and the first bit of its word are the next bit after a word
pub next-two_rows : (low high : List ℕ) (at other bit : ℕ) → IsTwoRows low high → IsNextBit (bit_in high) (at + 1) (Some other) → IsNextBit (bit_at (slice_index low other)) 0 (Some bit) → bit < 64 →
    IsNextBit (bit_in low) (64 * (at + 1)) (Some (64 * other + bit))
next-two_rows low high at other bit rows h found small =
    next-behind low at other bit (omega (arith, h.0)) (λ word l m. rows.empty word (h.2 word l m)) found small

pub none-two_rows : (low high : List ℕ) (at : ℕ) → IsTwoRows low high → IsNextBit (bit_in high) (at + 1) None → IsNextBit (bit_in low) (64 * (at + 1)) None
none-two_rows low high at rows h = none-behind low at (λ word l. rows.empty word (h word (omega arith)))

-- a word that isn't 0 is within the row
pub filled-within : (words : List ℕ) (at : ℕ) → 0 < slice_index words at → at < length words
filled-within words at some = ⊎_elim
    (λ (l : at < length words). l)
    (λ (l : length words ≤ at). absurd (let z : get_or words at 0 ≡ 0 = get_or_past words at 0 l in omega arith))
    (cases_lt at (length words))

-- a word that is read within a row is the word at its place
pub read : (words : List ℕ) (at value : ℕ) → at < length words → value ≡ get_or words at value → value ≡ get_or words at 0
read [] at value l e = absurd (omega arith)
read (word ∷ words) zero value l e = e
read (word ∷ words) (suc at) value l e = read words at value (omega arith) e

pub written : (words : List ℕ) (at value : ℕ) → at < length words → slice_index (slice_set words at value) at ≡ value
written words at value l = get_or-set_same words at value 0 l
