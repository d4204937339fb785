-- What is at the position of an error of a number.
use Rattle.std.specs.Prelude.{◌≡◌, ℕ, ℤ, Bool, true, false, List, [], ◌∷◌, ◌++◌, IsTrue, take}
use Rattle.std.specs.List.{prefix_len}
use Rattle.tb_terms.specs.Names.{is_digit}
use Rattle.tb_terms.specs.declared.term.Term.{Term}
use Rattle.tb_read.specs.Spelling.{is_digits, SpellsNumber, Reads}

-- the bytes before this position, followed by this text, can be continued to a source that parses as a term
abbrev pub Writes : List ℕ → List ℕ → ℕ → Type 0
Writes text bytes position = (rest : List ℕ) × (term : Term) × Reads (take position bytes ++ (text ++ rest)) term

-- a term can begin at this position: the digit 0 can be there, and the empty string in quotes can be there
abbrev pub TakesTerm : List ℕ → ℕ → Type 0
TakesTerm bytes position = Writes (48 ∷ []) bytes position × Writes (34 ∷ 34 ∷ []) bytes position

abbrev pub signed : Bool → List ℕ → List ℕ
signed true digits = 45 ∷ digits
signed false digits = digits

-- The bytes are an optional minus sign, these digits, and the rest. The rest doesn't begin with a digit.
pub record IsNumeral (negative : Bool) (digits rest bytes : List ℕ) : Type 0 where
  pub parts : bytes ≡ signed negative digits ++ rest
  pub are_digits : IsTrue (is_digits digits)
  pub are_all : prefix_len is_digit rest ≡ 0

-- the bytes begin with a point and a digit
abbrev pub HasPoint : List ℕ → Type 0
HasPoint rest = (digit : ℕ) × (more : List ℕ) × (rest ≡ 46 ∷ digit ∷ more) × IsTrue (is_digit digit)

-- the bytes begin with a number that a point and a digit follow
abbrev pub BeginsReal : List ℕ → Type 0
BeginsReal bytes = (negative : Bool) × (digits : List ℕ) × (rest : List ℕ) × IsNumeral negative digits rest bytes × HasPoint rest

-- the bytes begin with an integer that 64 bits can't hold
abbrev pub BeginsTooFar : List ℕ → Type 0
BeginsTooFar bytes =
    (negative : Bool) × (digits : List ℕ) × (rest : List ℕ) × IsNumeral negative digits rest bytes × (HasPoint rest → ⊥)
    × ((number : ℤ) → SpellsNumber number (signed negative digits) → ⊥)
