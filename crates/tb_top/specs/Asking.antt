-- The files that a command requests.
use Rattle.std.specs.Prelude.{◌≡◌, ◌⊎◌, ℕ, List, [], ◌∷◌, ◌++◌, Option, Result, Ok, Err}
use Rattle.tb_load.specs.Loading.{IsAccepted}
use Rattle.tb_top.specs.declared.fault.Fault.{Fault}
use Rattle.tb_top.specs.declared.fault.Fault.TheVariants.{Script, File, NoMemory}

-- the script's file was requested, and nothing else
abbrev pub AsksScript : List ℕ → List (List ℕ) → List (List ℕ) → Type 0
AsksScript script old new = new ≡ old ++ script ∷ []

-- The script's file was requested, and then the other files. The reported content of the script's
-- file is accepted.
abbrev pub AsksAll : Option (List ℕ) → List ℕ → List (List ℕ) → List (List ℕ) → List (List ℕ)
    → Type 0
AsksAll told script others old new = IsAccepted told × (new ≡ old ++ script ∷ others)

-- The files that a command with a script and other files requests, by its answer: the script's file
-- at most once, then each of the others at most once.
abbrev pub AsksBeside : {A : Type 0} → Option (List ℕ) → List ℕ → List (List ℕ) → List (List ℕ)
    → List (List ℕ) → Result A Fault → Type 0
-- the script was rejected: only its file was requested
AsksBeside told script others old new (Err (Script fault)) = AsksScript script old new
-- a file could not be read: only the script's file was requested, or all files
AsksBeside told script others old new (Err File) =
    AsksScript script old new ⊎ AsksAll told script others old new
-- memory ran out: no file was requested, only the script's file, or all files
AsksBeside told script others old new (Err NoMemory) =
    (new ≡ old) ⊎ (AsksScript script old new ⊎ AsksAll told script others old new)
-- at any other answer, all files were requested
AsksBeside told script others old new _ = AsksAll told script others old new

-- the files that a command requests, by the names of its files in order, of which the first is its
-- script's; nothing if there are none
abbrev pub Asks : {A : Type 0} → (List ℕ → Option (List ℕ)) → List (List ℕ) → List (List ℕ)
    → List (List ℕ) → Result A Fault → Type 0
Asks held [] old new answer = new ≡ old
Asks held (script ∷ others) old new answer = AsksBeside (held script) script others old new answer
