-- Parts of a list, by their indices in it.
use Rattle.std.proofs.Common.{◌≡◌, ℕ, ◌+◌, zero, suc, List, [], ◌∷◌, ◌++◌, map, take, drop, refl, ap, ◌∙◌, Some, add-one, slice_get}
use Rattle.std.specs.Bool.{⊤}

-- these elements are in the list, one after another, the first at this index
abbrev pub StandAt : {A : Type 0} → List A → ℕ → List A → Type 0
StandAt all at [] = ⊤
StandAt all at (x ∷ xs) = (slice_get all at ≡ Some x) × StandAt all (at + 1) xs

stand-shift : {A : Type 0} (y : A) (all : List A) (at : ℕ) (xs : List A) → StandAt all at xs → StandAt (y ∷ all) (at + 1) xs
stand-shift y all at [] h = tt
stand-shift y all at (x ∷ xs) h = (rw add-one h.0, stand-shift y all (at + 1) xs h.1)

-- a list is a part of itself from 0 on
pub stand-whole : {A : Type 0} (xs : List A) → StandAt xs 0 xs
stand-whole [] = tt
stand-whole (x ∷ xs) = (refl, stand-shift x xs 0 xs (stand-whole xs))

-- the rest of a list after some elements is a part from their number on
pub stand-drop : {A : Type 0} (k : ℕ) (xs : List A) → StandAt xs k (drop k xs)
stand-drop zero xs = stand-whole xs
stand-drop (suc k) [] = tt
stand-drop (suc k) (x ∷ xs) =
    let t = stand-shift x xs k (drop k xs) (stand-drop k xs) in
    rw add-one at t

-- the first elements are a part from 0 on
pub stand-take : {A : Type 0} (k : ℕ) (xs : List A) → StandAt xs 0 (take k xs)
stand-take zero xs = tt
stand-take (suc k) [] = tt
stand-take (suc k) (x ∷ xs) = (refl, stand-shift x xs 0 (take k xs) (stand-take k xs))

pub map-twice : {A B C : Type 0} (f : B → C) (g : A → B) (xs : List A) → map f (map g xs) ≡ map (λ x. f (g x)) xs
map-twice f g [] = refl
map-twice f g (x ∷ xs) = ap (λ ys. f (g x) ∷ ys) (map-twice f g xs)

pub both-append : {A : Type 0} (a b c d : List A) → a ≡ b → c ≡ d → a ++ c ≡ b ++ d
both-append a b c d e f = ap (λ xs. xs ++ c) e ∙ ap (λ xs. b ++ xs) f
