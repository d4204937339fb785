-- Lines and columns, byte by byte.
use Rattle.std.proofs.Common.{◌≡◌, ℕ, suc, ◌+◌, Bool, true, false, not, cond, List, [], ◌∷◌, ◌++◌, length, filter, ap, ◌∙◌, arith}
use Rattle.std.specs.List.{fold}
use Rattle.std.proofs.lemmas.List.Sums.{fold-append}
use Rattle.tb_source_map.specs.declared.spot.Spot.{Spot}
use Rattle.tb_source_map.specs.Spots.{is_newline, goes_on, first_spot, spot_after, spot_behind, lines_ended, characters}

abbrev spot_at : ℕ → ℕ → Spot
spot_at line column = record { line = line; column = column }

abbrev begins : ℕ → Bool
begins byte = not (goes_on byte)

-- the line and the column of the next byte, by whether this byte is a newline or continues a character
abbrev after_by : Bool → Bool → Spot → Spot
after_by newline on s = cond newline (spot_at (s.line + 1) 1) (cond on s (spot_at s.line (s.column + 1)))

-- the number of elements that a filter keeps, by whether it keeps the first one
abbrev kept_by : Bool → ℕ → List ℕ → ℕ
kept_by keep byte others = length (cond keep (byte ∷ others) others)

line_more : (n m k : ℕ) → n ≡ (m + 1) + k → n ≡ m + suc k
line_more n m k e = omega arith

pub lines_counted : (before : List ℕ) (s : Spot) → (fold spot_after s before).line ≡ s.line + lines_ended before
lines_counted [] s = omega arith
lines_counted (byte ∷ rest) s = of (λ t. lines_counted rest t) (is_newline byte) (goes_on byte) where
  of : ((t : Spot) → (fold spot_after t rest).line ≡ t.line + lines_ended rest)
      → (newline on : Bool) → (fold spot_after (after_by newline on s) rest).line ≡ s.line + kept_by newline byte (filter is_newline rest)
  of known true on = line_more _ s.line (lines_ended rest) (known (spot_at (s.line + 1) 1))
  of known false true = known s
  of known false false = known (spot_at s.line (s.column + 1))

column_more : (n c : ℕ) → (n + 1) + c ≡ n + suc c
column_more n c = omega arith

column_same : (n : ℕ) → n ≡ n + 0
column_same n = omega arith

none_left : (n : ℕ) → suc n ≡ 0 → ⊥
none_left n e = omega arith

pub columns_counted : (line : List ℕ) (s : Spot) → lines_ended line ≡ 0 → fold spot_after s line ≡ spot_at s.line (s.column + characters line)
columns_counted [] s is = ap (spot_at s.line) (column_same s.column)
columns_counted (byte ∷ rest) s is = of (λ t ended. columns_counted rest t ended) (is_newline byte) (goes_on byte) is where
  of : ((t : Spot) → lines_ended rest ≡ 0 → fold spot_after t rest ≡ spot_at t.line (t.column + characters rest))
      → (newline on : Bool) → kept_by newline byte (filter is_newline rest) ≡ 0
      → fold spot_after (after_by newline on s) rest ≡ spot_at s.line (s.column + kept_by (not on) byte (filter begins rest))
  of known true on ended = absurd (none_left (lines_ended rest) ended)
  of known false true ended = known s ended
  of known false false ended = known (spot_at s.line (s.column + 1)) ended ∙ ap (spot_at s.line) (column_more s.column (characters rest))

pub first_line : (line : List ℕ) → lines_ended line ≡ 0 → spot_behind line ≡ spot_at 1 (characters line + 1)
first_line line is = columns_counted line first_spot is ∙ ap (spot_at 1) (swapped (characters line)) where
  swapped : (n : ℕ) → 1 + n ≡ n + 1
  swapped n = omega arith

pub later_line : (before line : List ℕ) → lines_ended line ≡ 0 → spot_behind (before ++ 10 ∷ line) ≡ spot_at (lines_ended before + 2) (characters line + 1)
later_line before line is =
    fold-append spot_after first_spot before (10 ∷ line)
    ∙ columns_counted line (spot_at ((spot_behind before).line + 1) 1) is
    ∙ both_same (lines_counted before first_spot) where
      both_same : (spot_behind before).line ≡ 1 + lines_ended before → spot_at ((spot_behind before).line + 1) (1 + characters line) ≡ spot_at (lines_ended before + 2) (characters line + 1)
      both_same e = ap (λ (n : ℕ). spot_at (n + 1) (1 + characters line)) e ∙ (λ i. spot_at (lines (lines_ended before) i) (columns (characters line) i)) where
        lines : (n : ℕ) → (1 + n) + 1 ≡ n + 2
        lines n = omega arith

        columns : (n : ℕ) → 1 + n ≡ n + 1
        columns n = omega arith
