-- The positions of names among definitions, and the definitions at these positions.
use Rattle.std.proofs.Common.{◌≡◌, ℕ, suc, ◌+◌, ◌<◌, Bool, true, false, cond, List, [], ◌∷◌, ◌++◌, map, length, get_or, take, slice_get, Option, Some, None, refl, ap, sym, ◌∙◌, arith, add-one}
use Rattle.std.specs.Prelude.{option_map, option_and_then, is_some, find}
use Rattle.std.specs.Str.{bytes_eq}
use Rattle.std.specs.Borrow.{Bor}
use Rattle.std.specs.HashMap.{HashMap, UpdatesBy}
use Rattle.std.proofs.Math.Seq.{take-suc}
use Rattle.std.proofs.lemmas.List.{map-append, length-map, length-take-le}
use Rattle.std.proofs.lemmas.Slice.Eq.{bytes_eq-Decides}
use Rattle.std.proofs.lemmas.Map.Text.{hash_map_updates_str}
use Rattle.tb_types.specs.NamePositions.{position_in, position_of, kept}

abbrev next : ℕ → ℕ
next position = position + 1

-- the definition at the first position of a name is the definition that a search for the name finds
get_next : {A : Type 0} (x : A) (xs : List A) (o : Option ℕ) → option_and_then (slice_get (x ∷ xs)) (option_map next o) ≡ option_and_then (slice_get xs) o
get_next x xs None = refl
get_next x xs (Some position) = ap (λ n. slice_get (x ∷ xs) n) (add-one position)

pub found_at : {A : Type 0} (name_of : A → List ℕ) (xs : List A) (name : List ℕ)
    → option_and_then (slice_get xs) (position_of (map name_of xs) name) ≡ find (λ x. bytes_eq (name_of x) name) xs
found_at name_of [] name = refl
found_at name_of (x ∷ xs) name = step (bytes_eq (name_of x) name) (found_at name_of xs name) where
  step : (b : Bool) → option_and_then (slice_get xs) (position_of (map name_of xs) name) ≡ find (λ y. bytes_eq (name_of y) name) xs
      → option_and_then (slice_get (x ∷ xs)) (cond b (Some 0) (option_map next (position_of (map name_of xs) name))) ≡ cond b (Some x) (find (λ y. bytes_eq (name_of y) name) xs)
  step true ih = refl
  step false ih = get_next x xs (position_of (map name_of xs) name) ∙ ih

kept_next : (o : Option ℕ) (b : Bool) (position : ℕ) → option_map next (kept o b position) ≡ kept (option_map next o) b (position + 1)
kept_next (Some old) b position = refl
kept_next None true position = refl
kept_next None false position = refl

-- the positions after one more name at the end
position_behind : (names : List (List ℕ)) (more name : List ℕ) → position_of (names ++ more ∷ []) name ≡ kept (position_of names name) (bytes_eq more name) (length names)
position_behind [] more name = step (bytes_eq more name) where
  step : (b : Bool) → cond b (Some 0) (option_map next None) ≡ cond b (Some 0) None
  step true = refl
  step false = refl
position_behind (first ∷ names) more name = step (bytes_eq first name) (position_behind names more name) where
  step : (b : Bool) → position_of (names ++ more ∷ []) name ≡ kept (position_of names name) (bytes_eq more name) (length names)
      → cond b (Some 0) (option_map next (position_of (names ++ more ∷ []) name)) ≡ kept (cond b (Some 0) (option_map next (position_of names name))) (bytes_eq more name) (suc (length names))
  step true ih = refl
  step false ih =
      ap (option_map next) ih ∙ kept_next (position_of names name) (bytes_eq more name) (length names)
      ∙ ap (kept (option_map next (position_of names name)) (bytes_eq more name)) (add-one (length names))

-- one more definition
pub position_more : {A : Type 0} (name_of : A → List ℕ) (xs : List A) (at : ℕ) (x : A) (name : List ℕ) (before : Option ℕ) → at < length xs → x ≡ get_or xs at x
    → before ≡ position_of (map name_of (take at xs)) name → kept before (bytes_eq (name_of x) name) at ≡ position_of (map name_of (take (at + 1) xs)) name
position_more name_of xs at x name before within here e =
    let more : take (at + 1) xs ≡ take at xs ++ (x ∷ []) = ap (λ n. take n xs) (add-one at) ∙ take-suc xs at x within ∙ ap (λ y. take at xs ++ (y ∷ [])) (sym here) in
    let long : length (map name_of (take at xs)) ≡ at = length-map (take at xs) name_of ∙ length-take-le at xs (omega arith) in
    ap (λ o. kept o (bytes_eq (name_of x) name) at) e
    ∙ ap (kept (position_of (map name_of (take at xs)) name) (bytes_eq (name_of x) name)) (sym long)
    ∙ sym (position_behind (map name_of (take at xs)) (name_of x) name)
    ∙ ap (λ ys. position_of ys name) (sym (map-append name_of (take at xs) (x ∷ [])))
    ∙ ap (λ ys. position_of (map name_of ys) name) (sym more)

same_name : (name other : List ℕ) → bytes_eq name other ≡ true → name ≡ other
same_name name other h = (bytes_eq-Decides name other).0 h

none_there : (o : Option ℕ) → is_some o ≡ false → o ≡ None
none_there None h = refl
none_there (Some position) h = cc

kept_other : (o : Option ℕ) (position : ℕ) → o ≡ kept o false position
kept_other None position = refl
kept_other (Some old) position = refl

-- a name without a position gets this position
kept_after : (old : List ℕ → Option ℕ) (name other : List ℕ) (position : ℕ) → is_some (old name) ≡ false
    → cond (bytes_eq name other) (Some position) (old other) ≡ kept (old other) (bytes_eq name other) position
kept_after old name other position h = step (bytes_eq name other) refl where
  step : (b : Bool) → bytes_eq name other ≡ b → cond b (Some position) (old other) ≡ kept (old other) b position
  step true e = ap (λ o. kept o true position) (sym (none_there (old name) h) ∙ ap old (same_name name other e))
  step false e = kept_other (old other) position

pub kept_new : {S : Type 0} (name : List ℕ) (old new : HashMap (Bor (List ℕ)) ℕ S) (position : ℕ)
    → UpdatesBy (λ x y. bytes_eq x.now y.now) (λ key. bytes_eq name key.now) old new (Some position) → is_some (position_in old name) ≡ false
    → (other : List ℕ) → position_in new other ≡ kept (position_in old other) (bytes_eq name other) position
kept_new name old new position updates h other = hash_map_updates_str name old new (Some position) updates other ∙ kept_after (position_in old) name other position h

-- a name with a position stays as it is if it gets another position and then its own again
pub kept_again : {S : Type 0} (name : List ℕ) (old mid new : HashMap (Bor (List ℕ)) ℕ S) (position first : ℕ)
    → UpdatesBy (λ x y. bytes_eq x.now y.now) (λ key. bytes_eq name key.now) old mid (Some position)
    → UpdatesBy (λ x y. bytes_eq x.now y.now) (λ key. bytes_eq name key.now) mid new (Some first) → Some first ≡ position_in old name
    → (other : List ℕ) → position_in new other ≡ kept (position_in old other) (bytes_eq name other) position
kept_again name old mid new position first once again there other =
    hash_map_updates_str name mid new (Some first) again other
    ∙ ap (cond (bytes_eq name other) (Some first)) (hash_map_updates_str name old mid (Some position) once other)
    ∙ step (bytes_eq name other) refl where
      step : (b : Bool) → bytes_eq name other ≡ b → cond b (Some first) (cond b (Some position) (position_in old other)) ≡ kept (position_in old other) b position
      step true e = ap (λ o. kept o true position) (there ∙ ap (position_in old) (same_name name other e))
      step false e = kept_other (position_in old other) position

-- the definition at the position of a name is the definition that a search for the name finds
pub found_by : {A : Type 0} (name_of : A → List ℕ) (xs : List A) (name : List ℕ) (o : Option ℕ) → o ≡ position_of (map name_of xs) name
    → option_and_then (slice_get xs) o ≡ find (λ x. bytes_eq (name_of x) name) xs
found_by name_of xs name o e = ap (option_and_then (slice_get xs)) e ∙ found_at name_of xs name
