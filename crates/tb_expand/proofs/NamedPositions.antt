-- The positions of names among definitions, if the names differ.
use Rattle.std.proofs.Common.{◌≡◌, ℕ, zero, suc, ◌+◌, ◌⊎◌, inl, inr, Bool, true, false, cond, List, [], ◌∷◌, slice_get, Option, Some, None, option_map, Contains, bytes_eq, refl, ap, sym, ◌∙◌, subst, add-one}
use Rattle.std.proofs.lemmas.Option.{same_Some}
use Rattle.std.proofs.lemmas.Slice.Eq.{bytes_eq-Decides}
use Rattle.tb_types.specs.NamePositions.{position_of}
use Rattle.tb_expand.specs.Acts.{position_of as position_or_end}
use Rattle.tb_expand.specs.Cycles.{Differ}
use Rattle.tb_expand.proofs.Readings.{none_in, contains_at, contains_cases}

abbrev next : ℕ → ℕ
next position = position + 1

-- the name at the position of a name is this name
pub found_there : (names : List (List ℕ)) (name : List ℕ) (position : ℕ) → position_of names name ≡ Some position → slice_get names position ≡ Some name
found_there [] name position h = cc
found_there (first ∷ names) name position h = step (bytes_eq first name) refl (position_of names name) (found_there names name) h where
  behind : (o : Option ℕ) → ((p : ℕ) → o ≡ Some p → slice_get names p ≡ Some name) → option_map next o ≡ Some position → slice_get (first ∷ names) position ≡ Some name
  behind None ih e = cc
  behind (Some p) ih e =
      let here : position ≡ suc p = sym (same_Some (p + 1) position e) ∙ add-one p in
      subst (λ (n : ℕ). slice_get (first ∷ names) n ≡ Some name) (sym here) (ih p refl)

  step : (b : Bool) → bytes_eq first name ≡ b → (o : Option ℕ) → ((p : ℕ) → o ≡ Some p → slice_get names p ≡ Some name)
      → cond b (Some 0) (option_map next o) ≡ Some position → slice_get (first ∷ names) position ≡ Some name
  step true e o ih h =
      let here : position ≡ 0 = sym (same_Some 0 position h) in
      subst (λ (n : ℕ). slice_get (first ∷ names) n ≡ Some name) (sym here) (ap (λ (n : List ℕ). Some n) ((bytes_eq-Decides first name).0 e))
  step false e o ih h = behind o ih h

-- a name in the list has a position
pub position_there : (names : List (List ℕ)) (name : List ℕ) → Contains names name → (position : ℕ) × (position_of names name ≡ Some position)
position_there [] name c = absurd (none_in name c)
position_there (first ∷ names) name c = step (bytes_eq first name) refl (λ i. position_there names name i) where
  further : (first ≡ name) ⊎ Contains names name → bytes_eq first name ≡ false → Contains names name
  further (inl e) h = let is_same : bytes_eq first name ≡ true = (bytes_eq-Decides first name).1 e in cc
  further (inr i) h = i

  step : (b : Bool) → bytes_eq first name ≡ b → (Contains names name → (position : ℕ) × (position_of names name ≡ Some position))
      → (position : ℕ) × (cond b (Some 0) (option_map next (position_of names name)) ≡ Some position)
  step true e ih = (0, refl)
  step false e ih = let r = ih (further (contains_cases first names name c) e) in (r.0 + 1, ap (option_map next) r.1)

-- if names differ, the position of each name is the index at which the name is
pub position_is : (names : List (List ℕ)) → Differ names → (name : List ℕ) (position : ℕ) → slice_get names position ≡ Some name → position_of names name ≡ Some position
position_is [] d name position h = cc
position_is (first ∷ names) d name zero h = step (bytes_eq first name) refl where
  is_same : first ≡ name
  is_same = same_Some first name h

  step : (b : Bool) → bytes_eq first name ≡ b → cond b (Some 0) (option_map next (position_of names name)) ≡ Some 0
  step true e = refl
  step false e = let also : bytes_eq first name ≡ true = (bytes_eq-Decides first name).1 is_same in cc
position_is (first ∷ names) d name (suc position) h = step (bytes_eq first name) refl (position_is names d.1 name position h) where
  step : (b : Bool) → bytes_eq first name ≡ b → position_of names name ≡ Some position → cond b (Some 0) (option_map next (position_of names name)) ≡ Some (suc position)
  step true e ih = absurd (d.0 (subst (λ (n : List ℕ). Contains names n) (sym ((bytes_eq-Decides first name).0 e)) (contains_at names position name h)))
  step false e ih = ap (option_map next) ih ∙ ap (λ (n : ℕ). Some n) (add-one position)

-- the position in the form of `Acts`: a name that isn't in the list has the length of the list
pub position_in_both : (names : List (List ℕ)) (name : List ℕ) (position : ℕ) → position_of names name ≡ Some position → position_or_end name names ≡ position
position_in_both [] name position h = cc
position_in_both (first ∷ names) name position h = step (bytes_eq first name) (position_of names name) (position_in_both names name) h where
  behind : (o : Option ℕ) → ((p : ℕ) → o ≡ Some p → position_or_end name names ≡ p) → option_map next o ≡ Some position → position_or_end name names + 1 ≡ position
  behind None ih e = cc
  behind (Some p) ih e = ap next (ih p refl) ∙ same_Some (p + 1) position e

  step : (b : Bool) (o : Option ℕ) → ((p : ℕ) → o ≡ Some p → position_or_end name names ≡ p)
      → cond b (Some 0) (option_map next o) ≡ Some position → cond b 0 (position_or_end name names + 1) ≡ position
  step true o ih h = same_Some 0 position h
  step false o ih h = behind o ih h
