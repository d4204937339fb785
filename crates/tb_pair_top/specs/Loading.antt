-- A claim about one of the two scripts, and the requested files.
use Rattle.std.specs.Prelude.{◌≡◌, ◌⊎◌, ℕ, List, [], ◌∷◌, ◌++◌, Option}
use Rattle.tb_load.specs.Loading.{IsAccepted}

-- only the first script's file was requested
abbrev pub AsksFirst : List ℕ → List (List ℕ) → List (List ℕ) → Type 0
AsksFirst first old new = new ≡ old ++ first ∷ []

-- only the files of both scripts were requested, in order
abbrev pub AsksBoth : List ℕ → List ℕ → List (List ℕ) → List (List ℕ) → Type 0
AsksBoth first second old new = new ≡ old ++ first ∷ second ∷ []

-- `Is` holds for the file of the first script, and only this file was requested; or the first
-- script is accepted, `Is` holds for the file of the second script, and both files were requested.
abbrev pub IsOfOne : (Option (List ℕ) → Type 0) → (List ℕ → Option (List ℕ)) → List ℕ → List ℕ
    → List (List ℕ) → List (List ℕ) → Type 0
IsOfOne Is held first second old new =
    (Is (held first) × AsksFirst first old new)
    ⊎ (IsAccepted (held first) × Is (held second) × AsksBoth first second old new)
