-- The first byte of a piece tells what the piece is.
use Rattle.std.proofs.Common.{◌≡◌, ℕ, ℤ, pos, neg_ℤ, ◌^◌, ◌≤◌, ◌<◌, true, false, ◌⊎◌, eqb, leb, List, [], ◌∷◌, ◌++◌, refl, ap, sym, ◌∙◌, subst, inl, inr, arith}
use Rattle.std.proofs.lemmas.Bool.{false≢true, leb-true, and_parts, lt-leb}
use Rattle.std.proofs.lemmas.Bool.Decides.{nat_tests}
use Rattle.std.specs.List.{list_all}
use Rattle.tb_terms.specs.Names.{is_digit, is_lower, is_upper, is_name, is_ident, is_name_byte}
use Rattle.tb_read.specs.Spelling.{is_digits, digits_value, SpellsNumber, SpellsString}
use Rattle.tb_lex.specs.Tokens.{symbol_text, SpellsKind, IsNumeral, IsPiece}
use Rattle.tb_lex.specs.Helpers.Scanning.{head_of}
use Rattle.tb_lex.specs.declared.head.Head.{Head}
use Rattle.tb_lex.specs.declared.head.Head.TheVariants as head
use Rattle.tb_lex.specs.declared.symbol.Symbol.{Symbol}
use Rattle.tb_lex.specs.declared.symbol.Symbol.TheVariants as symbol
use Rattle.tb_lex.specs.declared.kind.TokenKind.{TokenKind}
use Rattle.tb_lex.specs.declared.kind.TokenKind.TheVariants as kind

-- a piece that begins with such a byte
abbrev pub PieceOf : Head → List ℕ → Type 0
PieceOf head.Lower text = is_name text ≡ true
PieceOf head.Upper text = is_ident text ≡ true
PieceOf head.Quote text = (bytes : List ℕ) × SpellsString bytes text
PieceOf head.Numeral text = IsNumeral text
PieceOf head.Other text = (s : Symbol) × (text ≡ symbol_text s)

abbrev pub Begun : List ℕ → Type 0
Begun text = (b : ℕ) × (rest : List ℕ) × (text ≡ b ∷ rest) × PieceOf (head_of b) text

pub lower_head : (b : ℕ) → is_lower b ≡ true → head_of b ≡ head.Lower
lower_head b h = rw h refl

pub upper_head : (b : ℕ) → is_upper b ≡ true → head_of b ≡ head.Upper
upper_head b h =
    let p = and_parts (leb 65 b) (leb b 90) h in
    let u : b ≤ 90 = leb-true b 90 p.1 in
    let low : leb 97 b ≡ false = lt-leb 97 b (omega arith) in
    rw (low, h) refl

digit_not_lower : (b : ℕ) → is_digit b ≡ true → is_lower b ≡ false
digit_not_lower b h = grind (arith, nat_tests)

digit_not_upper : (b : ℕ) → is_digit b ≡ true → is_upper b ≡ false
digit_not_upper b h = grind (arith, nat_tests)

digit_not_quote : (b : ℕ) → is_digit b ≡ true → eqb b 34 ≡ false
digit_not_quote b h = grind (arith, nat_tests)

pub digit_head : (b : ℕ) → is_digit b ≡ true → head_of b ≡ head.Numeral
digit_head b h = rw (digit_not_lower b h, digit_not_upper b h, digit_not_quote b h, h) refl

digits_begun : (text digits : List ℕ) → text ≡ digits → is_digits digits ≡ true → Begun text
digits_begun text [] e h = absurd (false≢true h)
digits_begun text (d ∷ digits) e h =
    let p = and_parts (is_digit d) (list_all is_digit digits) h in
    let numeral : IsNumeral text = (false, d ∷ digits, e, h) in
    (d, digits, e, subst (λ n. PieceOf n text) (sym (digit_head d p.0)) numeral)

numeral_begun : (text : List ℕ) → IsNumeral text → Begun text
numeral_begun text (true, digits, e, h) = (45, digits, e, (true, digits, e, h))
numeral_begun text (false, digits, e, h) = digits_begun text digits e h

pub number_numeral : (z : ℤ) (text : List ℕ) → SpellsNumber z text → IsNumeral text
number_numeral z text s = by s.signed where
  by : ((text ≡ s.digits) × (z ≡ pos (digits_value s.digits)) × (digits_value s.digits < 2 ^ 63)) ⊎ ((text ≡ 45 ∷ s.digits) × (z ≡ neg_ℤ (pos (digits_value s.digits))) × (digits_value s.digits ≤ 2 ^ 63)) → IsNumeral text
  by (inl p) = (false, s.digits, p.0, s.are_digits)
  by (inr p) = (true, s.digits, p.0, s.are_digits)

lower_begun : (text : List ℕ) → is_name text ≡ true → Begun text
lower_begun [] h = absurd (false≢true h)
lower_begun (c ∷ cs) h =
    let p = and_parts (is_lower c) (list_all is_name_byte cs) h in
    (c, cs, refl, subst (λ n. PieceOf n (c ∷ cs)) (sym (lower_head c p.0)) h)

upper_begun : (text : List ℕ) → is_ident text ≡ true → Begun text
upper_begun [] h = absurd (false≢true h)
upper_begun (c ∷ cs) h =
    let p = and_parts (is_upper c) (list_all is_name_byte cs) h in
    (c, cs, refl, subst (λ n. PieceOf n (c ∷ cs)) (sym (upper_head c p.0)) h)

symbol_begun : (s : Symbol) (text : List ℕ) → text ≡ symbol_text s → Begun text
symbol_begun symbol.LeftParen text e = (40, [], e, (symbol.LeftParen, e))
symbol_begun symbol.RightParen text e = (41, [], e, (symbol.RightParen, e))
symbol_begun symbol.LeftBracket text e = (91, [], e, (symbol.LeftBracket, e))
symbol_begun symbol.RightBracket text e = (93, [], e, (symbol.RightBracket, e))
symbol_begun symbol.LeftBrace text e = (123, [], e, (symbol.LeftBrace, e))
symbol_begun symbol.RightBrace text e = (125, [], e, (symbol.RightBrace, e))
symbol_begun symbol.Comma text e = (44, [], e, (symbol.Comma, e))
symbol_begun symbol.Point text e = (46, [], e, (symbol.Point, e))
symbol_begun symbol.Colon text e = (58, [], e, (symbol.Colon, e))
symbol_begun symbol.Assign text e = (58, 61 ∷ [], e, (symbol.Assign, e))
symbol_begun symbol.Equals text e = (61, [], e, (symbol.Equals, e))
symbol_begun symbol.Question text e = (63, [], e, (symbol.Question, e))
symbol_begun symbol.Plus text e = (43, [], e, (symbol.Plus, e))
symbol_begun symbol.Star text e = (42, [], e, (symbol.Star, e))
symbol_begun symbol.Bars text e = (124, 124 ∷ [], e, (symbol.Bars, e))
symbol_begun symbol.Angles text e = (62, 62 ∷ [], e, (symbol.Angles, e))
symbol_begun symbol.Less text e = (60, [], e, (symbol.Less, e))
symbol_begun symbol.Greater text e = (62, [], e, (symbol.Greater, e))

pub kind_begun : (k : TokenKind) (text : List ℕ) → SpellsKind k text → Begun text
kind_begun (kind.Int z) text s = numeral_begun text (number_numeral z text s)
kind_begun (kind.Str bytes) text s = (34, s.inner ++ (34 ∷ []), s.quoted, (bytes, s))
kind_begun (kind.Lower name) text s = lower_begun text (ap is_name s.1 ∙ s.0)
kind_begun (kind.Upper name) text s = upper_begun text (ap is_ident s.1 ∙ s.0)
kind_begun (kind.Symbol symbol) text s = symbol_begun symbol text s

pub piece_begun : (text : List ℕ) → IsPiece text → Begun text
piece_begun text (inl n) = numeral_begun text n
piece_begun text (inr p) = kind_begun p.0 text p.1

-- a piece with this first byte
pub piece_of : (b : ℕ) (rest : List ℕ) → IsPiece (b ∷ rest) → PieceOf (head_of b) (b ∷ rest)
piece_of b rest p =
    let q = piece_begun (b ∷ rest) p in
    let same : q.0 ≡ b = first q.2 in
    subst (λ n. PieceOf (head_of n) (b ∷ rest)) same q.3 where
      first : {c : ℕ} {l : List ℕ} → b ∷ rest ≡ c ∷ l → c ≡ b
      first e = cc
