-- The tokens of a source: it consists of their spellings in order, each the longest that begins at its position. Whitespace and
-- comments can be between them.
use Rattle.std.specs.Prelude.{◌≡◌, ℕ, ◌+◌, ◌<◌, ◌≤◌, Bool, List, [], ◌∷◌, ◌++◌, length, slice_range, IsTrue, ◌⊎◌}
use Rattle.tb_terms.specs.Names.{is_name, is_ident}
use Rattle.tb_read.specs.Spelling.{is_digits, SpellsNumber, SpellsString}
use Rattle.tb_read.specs.Positions.{signed, HasPoint}
use Rattle.tb_lex.specs.Gaps.{IsGap, IsLast}
use Rattle.tb_lex.specs.declared.symbol.Symbol.{Symbol}
use Rattle.tb_lex.specs.declared.symbol.Symbol.TheVariants as symbol
use Rattle.tb_lex.specs.declared.token.Token.{Token}
use Rattle.tb_lex.specs.declared.kind.TokenKind.{TokenKind}
use Rattle.tb_lex.specs.declared.kind.TokenKind.TheVariants as kind

-- the greatest number of tokens of a script
abbrev pub most_tokens : ℕ
most_tokens = 200000

-- the spelling of a symbol
abbrev pub symbol_text : Symbol → List ℕ
symbol_text symbol.LeftParen = 40 ∷ []
symbol_text symbol.RightParen = 41 ∷ []
symbol_text symbol.LeftBracket = 91 ∷ []
symbol_text symbol.RightBracket = 93 ∷ []
symbol_text symbol.LeftBrace = 123 ∷ []
symbol_text symbol.RightBrace = 125 ∷ []
symbol_text symbol.Comma = 44 ∷ []
symbol_text symbol.Point = 46 ∷ []
symbol_text symbol.Colon = 58 ∷ []
symbol_text symbol.Assign = 58 ∷ 61 ∷ []
symbol_text symbol.Equals = 61 ∷ []
symbol_text symbol.Question = 63 ∷ []
symbol_text symbol.Plus = 43 ∷ []
symbol_text symbol.Star = 42 ∷ []
symbol_text symbol.Bars = 124 ∷ 124 ∷ []
symbol_text symbol.Angles = 62 ∷ 62 ∷ []
symbol_text symbol.Less = 60 ∷ []
symbol_text symbol.Greater = 62 ∷ []

-- the text is a spelling of a token of this kind
abbrev pub SpellsKind : TokenKind → List ℕ → Type 0
SpellsKind (kind.Int number) text = SpellsNumber number text
SpellsKind (kind.Str bytes) text = SpellsString bytes text
SpellsKind (kind.Lower name) text = IsTrue (is_name name) × (text ≡ name)
SpellsKind (kind.Upper name) text = IsTrue (is_ident name) × (text ≡ name)
SpellsKind (kind.Symbol symbol) text = text ≡ symbol_text symbol

-- a sign or none, and one decimal digit or more
abbrev pub IsNumeral : List ℕ → Type 0
IsNumeral text = (negative : Bool) × (digits : List ℕ) × (text ≡ signed negative digits) × IsTrue (is_digits digits)

-- a text that is taken as one piece: a token's spelling, or a numeral, even if its number doesn't fit in 64 bits
abbrev pub IsPiece : List ℕ → Type 0
IsPiece text = IsNumeral text ⊎ ((kind : TokenKind) × SpellsKind kind text)

-- if `rest` follows the text, no longer piece begins where the text begins
abbrev pub IsLongest : List ℕ → List ℕ → Type 0
IsLongest text rest = (more tail : List ℕ) → rest ≡ more ++ tail → IsPiece (text ++ more) → more ≡ []

-- no point and digit follow a number, which would then be a real
abbrev pub IsWhole : TokenKind → List ℕ → Type 0
IsWhole (kind.Int number) rest = HasPoint rest → ⊥
IsWhole _ rest = Unit {0}

-- the token with this spelling at this position, which `rest` follows
pub record IsToken (position : ℕ) (token : Token) (text rest : List ℕ) : Type 0 where
  pub spelled : SpellsKind token.kind text
  pub longest : IsLongest text rest
  pub whole : IsWhole token.kind rest
  pub from : token.from ≡ position
  pub to : token.to ≡ position + length text

-- The bytes, which begin at this position, begin with spellings of the tokens. Whitespace and comments can come before each token.
-- `P` holds of the bytes after the last token and of their position.
abbrev pub TokensThen : (ℕ → List ℕ → Type 0) → ℕ → List ℕ → List Token → Type 0
TokensThen P position bytes [] = P position bytes
TokensThen P position bytes (token ∷ tokens) =
    (gap : List ℕ) × (text : List ℕ) × (rest : List ℕ) × (bytes ≡ gap ++ text ++ rest) × IsGap gap × IsToken (position + length gap) token text rest × TokensThen P token.to rest tokens

-- the source has these tokens: after the last one, only whitespace and comments follow
abbrev pub Lexes : List ℕ → List Token → Type 0
Lexes bytes tokens = TokensThen (λ position rest. IsLast rest) 0 bytes tokens

-- Each token is spelled by the bytes from its `from` to before its `to`. No token is empty. The tokens are in order, from this
-- position on.
abbrev pub AreSlices : List ℕ → ℕ → List Token → Type 0
AreSlices bytes position [] = position ≤ length bytes
AreSlices bytes position (token ∷ tokens) =
    (position ≤ token.from) × (token.from < token.to) × SpellsKind token.kind (slice_range bytes token.from token.to) × AreSlices bytes token.to tokens

-- The bytes, which begin at this position, are spellings of the tokens, each followed by a space.
abbrev pub Spaced : ℕ → List Token → List ℕ → Type 0
Spaced position [] bytes = bytes ≡ []
Spaced position (token ∷ tokens) bytes =
    (text : List ℕ) × (rest : List ℕ) × (bytes ≡ text ++ 32 ∷ rest) × SpellsKind token.kind text × (token.from ≡ position) × (token.to ≡ position + length text) × Spaced (token.to + 1) tokens rest
