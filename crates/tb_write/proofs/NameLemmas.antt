-- Names, joined by commas.
use Rattle.std.proofs.Common.{◌≡◌, ℕ, List, [], ◌∷◌, ◌++◌, ap, append-nil}
use Rattle.std.specs.List.{flat_map, join_with_byte}

-- the first name, and a comma and the name for each other name
pub joined-more : (first : List ℕ) (others : List (List ℕ)) → first ++ flat_map (λ (name : List ℕ). 44 ∷ name) others ≡ join_with_byte 44 (first ∷ others)
joined-more first [] = append-nil first
joined-more first (next ∷ others) = ap (λ (rest : List ℕ). first ++ 44 ∷ rest) (joined-more next others)
