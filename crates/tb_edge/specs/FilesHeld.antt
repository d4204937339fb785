-- The answer of a call of files that report their contents, and the names that were requested.
use Rattle.std.specs.Prelude.{◌≡◌, ℕ, ◌<◌, ◌≤◌, Option, Result, Ok, Err, List, [], ◌∷◌, ◌++◌, length, IfSome}
use Rattle.tb_edge.specs.declared.files.Loaded.{Loaded}
use Rattle.tb_edge.specs.declared.files.Loaded.TheVariants.{Bytes, TooLong}
use Rattle.tb_edge.specs.declared.files.FilesFault.{FilesFault}
use Rattle.tb_edge.specs.declared.files.FilesFault.TheVariants.{Failed, NoMemory}

-- the answer has at most this many bytes, or is a number above this one
abbrev pub IsWithin : ℕ → Loaded → Type 0
IsWithin most (Bytes bytes) = length bytes ≤ most
IsWithin most (TooLong len) = most < len

-- the reported bytes are the loaded ones, or their number is the answer
abbrev pub IsOf : Option (List ℕ) → Loaded → Type 0
IsOf told (Bytes bytes) = IfSome told (λ held. bytes ≡ held)
IsOf told (TooLong len) = IfSome told (λ held. len ≡ length held)

-- each answer except out of memory adds the name
abbrev pub asked_after : Result Loaded FilesFault → List (List ℕ) → List ℕ → List (List ℕ)
asked_after (Ok loaded) asked name = asked ++ name ∷ []
asked_after (Err Failed) asked name = asked ++ name ∷ []
asked_after (Err NoMemory) asked name = asked

-- Some of these names were requested: a prefix of the list, in order.
pub record AsksSome (names old new : List (List ℕ)) : Type 0 where
  pub asked : List (List ℕ)
  pub others : List (List ℕ)
  pub first : asked ++ others ≡ names
  pub is : new ≡ old ++ asked
