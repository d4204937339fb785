-- The innermost variable of a name is among the first variables, or else among the others.
use Rattle.std.proofs.Common.{◌≡◌, ℕ, Bool, true, false, cond, List, [], ◌∷◌, ◌++◌, Option, Some, None, refl}
use Rattle.std.specs.Str.{bytes_eq}
use Rattle.tb_terms.specs.declared.sort.Sort.{Sort}
use Rattle.tb_types.specs.declared.scope.Known.{Known}
use Rattle.tb_types.specs.Scopes.{sort_in}

pub found_inside : (first others : List Known) (name : List ℕ) (s : Sort) → ◌≡◌ {A = Option Sort} (Some s) (sort_in first name) → sort_in (first ++ others) name ≡ Some s
found_inside [] others name s e = cc
found_inside (known ∷ first) others name s e = step (bytes_eq known.name name) (found_inside first others name s) e where
  step : (b : Bool) → (◌≡◌ {A = Option Sort} (Some s) (sort_in first name) → sort_in (first ++ others) name ≡ Some s)
      → ◌≡◌ {A = Option Sort} (Some s) (cond b (Some known.sort) (sort_in first name)) → cond b (Some known.sort) (sort_in (first ++ others) name) ≡ Some s
  step true ih h = cc
  step false ih h = ih h

pub found_outside : (first others : List Known) (name : List ℕ) → ◌≡◌ {A = Option Sort} None (sort_in first name) → sort_in (first ++ others) name ≡ sort_in others name
found_outside [] others name e = refl
found_outside (known ∷ first) others name e = step (bytes_eq known.name name) (found_outside first others name) e where
  step : (b : Bool) → (◌≡◌ {A = Option Sort} None (sort_in first name) → sort_in (first ++ others) name ≡ sort_in others name)
      → ◌≡◌ {A = Option Sort} None (cond b (Some known.sort) (sort_in first name)) → cond b (Some known.sort) (sort_in (first ++ others) name) ≡ sort_in others name
  step true ih h = cc
  step false ih h = ih h
