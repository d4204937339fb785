-- Which bytes parse as a term: the tokens of the term, each in one of its spellings, with whitespace before, between, and after them.
use Rattle.std.specs.Prelude.{◌≡◌, ℕ, ◌+◌, ◌-◌, ◌*◌, ◌^◌, ◌<◌, ◌≤◌, ℤ, pos, neg_ℤ, Bool, false, not, ◌&&◌, ◌||◌, ◌==◌, nat_le, List, [], ◌∷◌, ◌++◌, Some, fold, IsTrue, ◌⊎◌}
use Rattle.std.specs.List.{list_all}
use Rattle.tb_terms.specs.Names.{is_digit, is_name, is_string}
use Rattle.tb_terms.specs.Texts.{escape_letter}
use Rattle.tb_terms.specs.declared.term.Term.{Term}
use Rattle.tb_read.specs.declared.token.Token.{Token}
use Rattle.tb_read.specs.declared.token.Token.TheVariants.{Int, Str, Name, LeftParen, RightParen, LeftBracket, RightBracket, Comma}
use Rattle.tb_read.specs.Tokens.{tokens_of}

abbrev pub is_blank : ℕ → Bool
is_blank byte = (byte == 9) || (byte == 10) || (byte == 13) || (byte == 32)

abbrev pub is_digits : List ℕ → Bool
is_digits [] = false
is_digits (digit ∷ digits) = is_digit digit && list_all is_digit digits

abbrev pub digits_value : List ℕ → ℕ
digits_value digits = fold (λ value digit. 10 * value + (digit - 48)) 0 digits

-- A number: decimal digits, with or without leading zeros. If the number is negative, a minus sign is directly before the digits; if it
-- is 0, a minus sign can be there. 64 bits hold the number.
pub record SpellsNumber (number : ℤ) (text : List ℕ) : Type 0 where
  pub digits : List ℕ
  pub are_digits : IsTrue (is_digits digits)
  pub signed : ((text ≡ digits) × (number ≡ pos (digits_value digits)) × (digits_value digits < 2 ^ 63)) ⊎ ((text ≡ 45 ∷ digits) × (number ≡ neg_ℤ (pos (digits_value digits))) × (digits_value digits ≤ 2 ^ 63))

-- a byte that represents itself in a string
abbrev pub is_plain : ℕ → Bool
is_plain byte = (nat_le 32 byte || (byte == 9)) && not (byte == 34) && not (byte == 92)

-- the spelling of one byte of a string: the byte itself, or a backslash and its letter
abbrev pub SpellsByte : ℕ → List ℕ → Type 0
SpellsByte byte text =
    (IsTrue (is_plain byte) × (text ≡ byte ∷ [])) ⊎ ((letter : ℕ) × (escape_letter byte ≡ Some letter) × (text ≡ 92 ∷ letter ∷ []))

abbrev pub SpellsBytes : List ℕ → List ℕ → Type 0
SpellsBytes [] text = text ≡ []
SpellsBytes (byte ∷ bytes) text = (prefix : List ℕ) × (rest : List ℕ) × (text ≡ prefix ++ rest) × SpellsByte byte prefix × SpellsBytes bytes rest

pub record SpellsString (bytes text : List ℕ) : Type 0 where
  pub is : IsTrue (is_string bytes)
  pub inner : List ℕ
  pub quoted : text ≡ 34 ∷ inner ++ 34 ∷ []
  pub spelled : SpellsBytes bytes inner

abbrev pub SpellsToken : Token → List ℕ → Type 0
SpellsToken (Int number) text = SpellsNumber number text
SpellsToken (Str bytes) text = SpellsString bytes text
SpellsToken (Name name) text = IsTrue (is_name name) × (text ≡ name)
SpellsToken LeftParen text = text ≡ 40 ∷ []
SpellsToken RightParen text = text ≡ 41 ∷ []
SpellsToken LeftBracket text = text ≡ 91 ∷ []
SpellsToken RightBracket text = text ≡ 93 ∷ []
SpellsToken Comma text = text ≡ 44 ∷ []

-- the tokens in order, with any whitespace before, between, and after them
abbrev pub Spaced : List Token → List ℕ → Type 0
Spaced [] bytes = IsTrue (list_all is_blank bytes)
Spaced (token ∷ tokens) bytes =
    (blanks : List ℕ) × (text : List ℕ) × (rest : List ℕ) × (bytes ≡ blanks ++ text ++ rest) × IsTrue (list_all is_blank blanks) × SpellsToken token text × Spaced tokens rest

-- the bytes parse as the term
abbrev pub Reads : List ℕ → Term → Type 0
Reads bytes term = Spaced (tokens_of term) bytes
