-- The prefix that a failed write keeps, and the comma before the next of several texts.
use Rattle.std.specs.Prelude.{◌≡◌, ℕ, zero, suc, List, [], ◌∷◌, length, take}

-- the new bytes begin with the old ones
abbrev pub KeepsPrefix : List ℕ → List ℕ → Type 0
KeepsPrefix old new = take (length old) new ≡ old

-- the comma before the text at this position: none before the first
abbrev pub comma_before : ℕ → List ℕ
comma_before zero = []
comma_before (suc position) = 44 ∷ []
