-- The error of a source that has no sequence of tokens within the limit, and its position: the first from the left.
use Rattle.std.specs.Prelude.{◌≡◌, ℕ, ◌+◌, ◌<◌, not, List, [], ◌∷◌, ◌++◌, length, IsTrue, ◌⊎◌}
use Rattle.tb_read.specs.Spelling.{is_blank, SpellsBytes, SpellsString}
use Rattle.tb_read.specs.Positions.{BeginsReal, BeginsTooFar}
use Rattle.tb_lex.specs.Gaps.{IsGap}
use Rattle.tb_lex.specs.Tokens.{most_tokens, IsPiece, TokensThen}
use Rattle.tb_lex.specs.declared.token.Token.{Token}
use Rattle.tb_lex.specs.declared.fault.LexFault.{LexFault}
use Rattle.tb_lex.specs.declared.fault.LexFault.TheVariants as fault

-- the bytes begin with neither whitespace nor a comment, and aren't empty
abbrev pub IsBegun : List ℕ → Type 0
IsBegun bytes = (byte : ℕ) × (rest : List ℕ) × (bytes ≡ byte ∷ rest) × IsTrue (not (is_blank byte)) × ((more : List ℕ) → bytes ≡ 37 ∷ 37 ∷ more → ⊥)

-- the bytes begin with a byte other than a quote, and no prefix of them is a piece
abbrev pub BeginsNothing : List ℕ → Type 0
BeginsNothing bytes = (byte : ℕ) × (rest : List ℕ) × (bytes ≡ byte ∷ rest) × (byte ≡ 34 → ⊥) × ((text tail : List ℕ) → bytes ≡ text ++ tail → IsPiece text → ⊥)

-- the spelling of some string begins with these bytes
abbrev pub BeginsString : List ℕ → Type 0
BeginsString prefix = (tail : List ℕ) × (bytes : List ℕ) × SpellsString bytes (prefix ++ tail)

-- a quote and these bytes begin the spelling of a string, and aren't all of it
abbrev pub IsInString : List ℕ → Type 0
IsInString inner = (byte : ℕ) × (tail : List ℕ) × (bytes : List ℕ) × SpellsString bytes (34 ∷ inner ++ byte ∷ tail)

-- a quote and the inside of a string, and then a newline (LF) or the end of the source
abbrev pub IsOpenString : List ℕ → Type 0
IsOpenString bytes = (inner : List ℕ) × (stop : List ℕ) × (bytes ≡ 34 ∷ inner ++ stop) × IsInString inner × ((stop ≡ []) ⊎ ((more : List ℕ) × (stop ≡ 10 ∷ more)))

-- no escape is cut off: each byte represents itself, or belongs to an escape (a backslash and its letter)
abbrev pub IsUncut : List ℕ → Type 0
IsUncut inner = (put : List ℕ) × SpellsBytes put inner

-- a backslash that begins no escape: the byte after it isn't a newline (LF), and no string can continue with it
abbrev pub IsBadEscape : List ℕ → ℕ → List ℕ → Type 0
IsBadEscape inner byte rest = (byte ≡ 92) × ((letter : ℕ) × (more : List ℕ) × (rest ≡ letter ∷ more) × (letter ≡ 10 → ⊥) × (BeginsString (34 ∷ inner ++ 92 ∷ letter ∷ []) → ⊥))

-- `at` is the position of a wrong byte, other than a newline (LF), in the string whose quote is at `position`. No string begins
-- with the bytes from the quote through this byte, or the byte is a backslash that begins no escape.
abbrev pub HasBadByte : ℕ → ℕ → List ℕ → Type 0
HasBadByte at position bytes =
    (inner : List ℕ) × (byte : ℕ) × (rest : List ℕ) × (bytes ≡ 34 ∷ inner ++ byte ∷ rest) × (at ≡ position + 1 + length inner)
    × IsInString inner × IsUncut inner × (byte ≡ 10 → ⊥)
    × ((BeginsString (34 ∷ inner ++ byte ∷ []) → ⊥) ⊎ IsBadEscape inner byte rest)

-- the bytes, which begin at this position, begin with this error; `TooMany` and `NoMemory` have no condition here
abbrev pub IsFault : LexFault → ℕ → List ℕ → Type 0
IsFault (fault.BadByte at) position bytes = ((at ≡ position) × BeginsNothing bytes) ⊎ HasBadByte at position bytes
IsFault (fault.OpenString at) position bytes = (at ≡ position) × IsOpenString bytes
IsFault (fault.Real at) position bytes = (at ≡ position) × BeginsReal bytes
IsFault (fault.IntRange at) position bytes = (at ≡ position) × BeginsTooFar bytes
IsFault fault.TooMany position bytes = Unit {0}
IsFault fault.NoMemory position bytes = Unit {0}

-- after whitespace and comments, something else follows, and it has this error
abbrev pub Stops : LexFault → ℕ → List ℕ → Type 0
Stops f position bytes = (gap : List ℕ) × (rest : List ℕ) × (bytes ≡ gap ++ rest) × IsGap gap × IsBegun rest × IsFault f (position + length gap) rest

-- fewer tokens than the limit come before the error
abbrev pub StopsAt : List ℕ → LexFault → Type 0
StopsAt bytes f = (tokens : List Token) × (length tokens < most_tokens) × TokensThen (Stops f) 0 bytes tokens

-- Only tokens, whitespace, and comments come before an error. `NoMemory` can come at any time.
abbrev pub HasFault : List ℕ → LexFault → Type 0
HasFault bytes (fault.BadByte at) = StopsAt bytes (fault.BadByte at)
HasFault bytes (fault.OpenString at) = StopsAt bytes (fault.OpenString at)
HasFault bytes (fault.Real at) = StopsAt bytes (fault.Real at)
HasFault bytes (fault.IntRange at) = StopsAt bytes (fault.IntRange at)
HasFault bytes fault.TooMany = (tokens : List Token) × (length tokens ≡ most_tokens) × TokensThen (Stops fault.TooMany) 0 bytes tokens
HasFault bytes fault.NoMemory = Unit {0}
