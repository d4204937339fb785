-- The symbol with which bytes begin.
use Rattle.std.proofs.Common.{◌≡◌, ℕ, ◌+◌, ◌≤◌, Bool, true, false, cond, eqb, List, [], ◌∷◌, ◌++◌, length, drop, Option, Some, None, refl, ap, sym, ◌∙◌, subst, inr, arith, lit≤, append_assoc}
use Rattle.std.proofs.lemmas.Bool.{false≢true, eqb-true}
use Rattle.std.proofs.lemmas.List.{length-append}
use Rattle.tb_read.specs.Spelling.{is_blank}
use Rattle.tb_lex.specs.Tokens.{symbol_text, IsPiece, IsLongest}
use Rattle.tb_lex.specs.Helpers.Scanning.{begins_with, head_of, colon_of, bars_of, greater_of, symbol_of}
use Rattle.tb_lex.specs.declared.head.Head.TheVariants as head
use Rattle.tb_lex.specs.declared.symbol.Symbol.{Symbol}
use Rattle.tb_lex.specs.declared.symbol.Symbol.TheVariants as symbol
use Rattle.tb_lex.specs.declared.kind.TokenKind.TheVariants as kind
use Rattle.tb_lex.proofs.Heads.{PieceOf, piece_of}

abbrev pub symbol_first : List ℕ → Option Symbol
symbol_first [] = None
symbol_first (b ∷ bytes) = symbol_of b bytes

-- the bytes begin with the symbol's text
abbrev pub BeginsSymbol : List ℕ → Symbol → Type 0
BeginsSymbol bytes s = (rest : List ℕ) × (bytes ≡ symbol_text s ++ rest) × (drop (length (symbol_text s)) bytes ≡ rest)

some_symbol : (k s : Symbol) → Some k ≡ Some s → k ≡ s
some_symbol k s e = cc

one : (k : Symbol) (c b : ℕ) (bytes : List ℕ) (s : Symbol) → symbol_text k ≡ c ∷ [] → eqb b c ≡ true → Some k ≡ Some s → BeginsSymbol (b ∷ bytes) s
one k c b bytes s t h e =
    let at : b ∷ bytes ≡ symbol_text k ++ bytes = ap (λ n. n ∷ bytes) (eqb-true b c h) ∙ ap (λ (l : List ℕ). l ++ bytes) (sym t) in
    let behind : drop (length (symbol_text k)) (b ∷ bytes) ≡ bytes = ap (λ (l : List ℕ). drop (length l) (b ∷ bytes)) t in
    subst (BeginsSymbol (b ∷ bytes)) (some_symbol k s e) (bytes, at, behind)

two : (k : Symbol) (c d b : ℕ) (bytes : List ℕ) (s : Symbol) → symbol_text k ≡ c ∷ d ∷ [] → eqb b c ≡ true → begins_with d bytes ≡ true → Some k ≡ Some s → BeginsSymbol (b ∷ bytes) s
two k c d b [] s t h g e = absurd (false≢true g)
two k c d b (f ∷ bytes) s t h g e =
    let at : b ∷ f ∷ bytes ≡ symbol_text k ++ bytes =
    ap (λ n. n ∷ f ∷ bytes) (eqb-true b c h) ∙ ap (λ n. c ∷ n ∷ bytes) (eqb-true f d g) ∙ ap (λ (l : List ℕ). l ++ bytes) (sym t) in
    let behind : drop (length (symbol_text k)) (b ∷ f ∷ bytes) ≡ bytes = ap (λ (l : List ℕ). drop (length l) (b ∷ f ∷ bytes)) t in
    subst (BeginsSymbol (b ∷ f ∷ bytes)) (some_symbol k s e) (bytes, at, behind)

colon : (b : ℕ) (bytes : List ℕ) (s : Symbol) → eqb b 58 ≡ true → (v : Bool) → begins_with 61 bytes ≡ v → Some (cond v symbol.Assign symbol.Colon) ≡ Some s → BeginsSymbol (b ∷ bytes) s
colon b bytes s h true g e = two symbol.Assign 58 61 b bytes s refl h g e
colon b bytes s h false g e = one symbol.Colon 58 b bytes s refl h e

bars : (b : ℕ) (bytes : List ℕ) (s : Symbol) → eqb b 124 ≡ true → (v : Bool) → begins_with 124 bytes ≡ v → ◌≡◌ {A = Option Symbol} (cond v (Some symbol.Bars) None) (Some s) → BeginsSymbol (b ∷ bytes) s
bars b bytes s h true g e = two symbol.Bars 124 124 b bytes s refl h g e
bars b bytes s h false g e = cc

greater : (b : ℕ) (bytes : List ℕ) (s : Symbol) → eqb b 62 ≡ true → (v : Bool) → begins_with 62 bytes ≡ v → Some (cond v symbol.Angles symbol.Greater) ≡ Some s → BeginsSymbol (b ∷ bytes) s
greater b bytes s h true g e = two symbol.Angles 62 62 b bytes s refl h g e
greater b bytes s h false g e = one symbol.Greater 62 b bytes s refl h e

-- the choice by the first byte, one test after another
last_by : (b : ℕ) (bytes : List ℕ) (s : Symbol) (p q r t : Bool) → eqb b 42 ≡ p → eqb b 124 ≡ q → eqb b 60 ≡ r → eqb b 62 ≡ t → ◌≡◌ {A = Option Symbol} (cond p (Some symbol.Star) (cond q (bars_of bytes) (cond r (Some symbol.Less) (cond t (Some (greater_of bytes)) None)))) (Some s) → BeginsSymbol (b ∷ bytes) s
last_by b bytes s true q r t ep eq er et e = one symbol.Star 42 b bytes s refl ep e
last_by b bytes s false true r t ep eq er et e = bars b bytes s eq (begins_with 124 bytes) refl e
last_by b bytes s false false true t ep eq er et e = one symbol.Less 60 b bytes s refl er e
last_by b bytes s false false false true ep eq er et e = greater b bytes s et (begins_with 62 bytes) refl e
last_by b bytes s false false false false ep eq er et e = cc

abbrev last_of : ℕ → List ℕ → Option Symbol
last_of b bytes = cond (eqb b 42) (Some symbol.Star) (cond (eqb b 124) (bars_of bytes) (cond (eqb b 60) (Some symbol.Less) (cond (eqb b 62) (Some (greater_of bytes)) None)))

mid_by : (b : ℕ) (bytes : List ℕ) (s : Symbol) (p q r t u w : Bool) → eqb b 44 ≡ p → eqb b 46 ≡ q → eqb b 58 ≡ r → eqb b 61 ≡ t → eqb b 63 ≡ u → eqb b 43 ≡ w → ◌≡◌ {A = Option Symbol} (cond p (Some symbol.Comma) (cond q (Some symbol.Point) (cond r (Some (colon_of bytes)) (cond t (Some symbol.Equals) (cond u (Some symbol.Question) (cond w (Some symbol.Plus) (last_of b bytes))))))) (Some s) → BeginsSymbol (b ∷ bytes) s
mid_by b bytes s true q r t u w ep eq er et eu ew e = one symbol.Comma 44 b bytes s refl ep e
mid_by b bytes s false true r t u w ep eq er et eu ew e = one symbol.Point 46 b bytes s refl eq e
mid_by b bytes s false false true t u w ep eq er et eu ew e = colon b bytes s er (begins_with 61 bytes) refl e
mid_by b bytes s false false false true u w ep eq er et eu ew e = one symbol.Equals 61 b bytes s refl et e
mid_by b bytes s false false false false true w ep eq er et eu ew e = one symbol.Question 63 b bytes s refl eu e
mid_by b bytes s false false false false false true ep eq er et eu ew e = one symbol.Plus 43 b bytes s refl ew e
mid_by b bytes s false false false false false false ep eq er et eu ew e = last_by b bytes s (eqb b 42) (eqb b 124) (eqb b 60) (eqb b 62) refl refl refl refl e

abbrev mid_of : ℕ → List ℕ → Option Symbol
mid_of b bytes = cond (eqb b 44) (Some symbol.Comma) (cond (eqb b 46) (Some symbol.Point) (cond (eqb b 58) (Some (colon_of bytes)) (cond (eqb b 61) (Some symbol.Equals) (cond (eqb b 63) (Some symbol.Question) (cond (eqb b 43) (Some symbol.Plus) (last_of b bytes))))))

first_by : (b : ℕ) (bytes : List ℕ) (s : Symbol) (p q r t u w : Bool) → eqb b 40 ≡ p → eqb b 41 ≡ q → eqb b 91 ≡ r → eqb b 93 ≡ t → eqb b 123 ≡ u → eqb b 125 ≡ w → ◌≡◌ {A = Option Symbol} (cond p (Some symbol.LeftParen) (cond q (Some symbol.RightParen) (cond r (Some symbol.LeftBracket) (cond t (Some symbol.RightBracket) (cond u (Some symbol.LeftBrace) (cond w (Some symbol.RightBrace) (mid_of b bytes))))))) (Some s) → BeginsSymbol (b ∷ bytes) s
first_by b bytes s true q r t u w ep eq er et eu ew e = one symbol.LeftParen 40 b bytes s refl ep e
first_by b bytes s false true r t u w ep eq er et eu ew e = one symbol.RightParen 41 b bytes s refl eq e
first_by b bytes s false false true t u w ep eq er et eu ew e = one symbol.LeftBracket 91 b bytes s refl er e
first_by b bytes s false false false true u w ep eq er et eu ew e = one symbol.RightBracket 93 b bytes s refl et e
first_by b bytes s false false false false true w ep eq er et eu ew e = one symbol.LeftBrace 123 b bytes s refl eu e
first_by b bytes s false false false false false true ep eq er et eu ew e = one symbol.RightBrace 125 b bytes s refl ew e
first_by b bytes s false false false false false false ep eq er et eu ew e = mid_by b bytes s (eqb b 44) (eqb b 46) (eqb b 58) (eqb b 61) (eqb b 63) (eqb b 43) refl refl refl refl refl refl e

-- a symbol that is found is at the start
pub symbol_sound : (b : ℕ) (bytes : List ℕ) (s : Symbol) → symbol_of b bytes ≡ Some s → BeginsSymbol (b ∷ bytes) s
symbol_sound b bytes s e = first_by b bytes s (eqb b 40) (eqb b 41) (eqb b 91) (eqb b 93) (eqb b 123) (eqb b 125) refl refl refl refl refl refl e

-- if a symbol is at the start, the symbol that is found isn't shorter
abbrev pub Most : Symbol → List ℕ → Type 0
Most s tail = (f : Symbol) × (symbol_first (symbol_text s ++ tail) ≡ Some f) × (length (symbol_text s) ≤ length (symbol_text f))

colon_most : (tail : List ℕ) (v : Bool) → begins_with 61 tail ≡ v → Most symbol.Colon tail
colon_most tail true e = (symbol.Assign, ap (λ v. Some (cond v symbol.Assign symbol.Colon)) e, lit≤ tt)
colon_most tail false e = (symbol.Colon, ap (λ v. Some (cond v symbol.Assign symbol.Colon)) e, lit≤ tt)

greater_most : (tail : List ℕ) (v : Bool) → begins_with 62 tail ≡ v → Most symbol.Greater tail
greater_most tail true e = (symbol.Angles, ap (λ v. Some (cond v symbol.Angles symbol.Greater)) e, lit≤ tt)
greater_most tail false e = (symbol.Greater, ap (λ v. Some (cond v symbol.Angles symbol.Greater)) e, lit≤ tt)

pub most : (s : Symbol) (tail : List ℕ) → Most s tail
most symbol.LeftParen tail = (symbol.LeftParen, refl, lit≤ tt)
most symbol.RightParen tail = (symbol.RightParen, refl, lit≤ tt)
most symbol.LeftBracket tail = (symbol.LeftBracket, refl, lit≤ tt)
most symbol.RightBracket tail = (symbol.RightBracket, refl, lit≤ tt)
most symbol.LeftBrace tail = (symbol.LeftBrace, refl, lit≤ tt)
most symbol.RightBrace tail = (symbol.RightBrace, refl, lit≤ tt)
most symbol.Comma tail = (symbol.Comma, refl, lit≤ tt)
most symbol.Point tail = (symbol.Point, refl, lit≤ tt)
most symbol.Colon tail = colon_most tail (begins_with 61 tail) refl
most symbol.Assign tail = (symbol.Assign, refl, lit≤ tt)
most symbol.Equals tail = (symbol.Equals, refl, lit≤ tt)
most symbol.Question tail = (symbol.Question, refl, lit≤ tt)
most symbol.Plus tail = (symbol.Plus, refl, lit≤ tt)
most symbol.Star tail = (symbol.Star, refl, lit≤ tt)
most symbol.Bars tail = (symbol.Bars, refl, lit≤ tt)
most symbol.Angles tail = (symbol.Angles, refl, lit≤ tt)
most symbol.Less tail = (symbol.Less, refl, lit≤ tt)
most symbol.Greater tail = greater_most tail (begins_with 62 tail) refl

-- the first byte of a symbol begins no other piece, no whitespace, and no comment
abbrev pub SymbolHead : List ℕ → Type 0
SymbolHead text = (b : ℕ) × (rest : List ℕ) × (text ≡ b ∷ rest) × (head_of b ≡ head.Other) × (is_blank b ≡ false) × (eqb b 37 ≡ false)

pub symbol_head : (s : Symbol) → SymbolHead (symbol_text s)
symbol_head symbol.LeftParen = (40, [], refl, refl, refl, refl)
symbol_head symbol.RightParen = (41, [], refl, refl, refl, refl)
symbol_head symbol.LeftBracket = (91, [], refl, refl, refl, refl)
symbol_head symbol.RightBracket = (93, [], refl, refl, refl, refl)
symbol_head symbol.LeftBrace = (123, [], refl, refl, refl, refl)
symbol_head symbol.RightBrace = (125, [], refl, refl, refl, refl)
symbol_head symbol.Comma = (44, [], refl, refl, refl, refl)
symbol_head symbol.Point = (46, [], refl, refl, refl, refl)
symbol_head symbol.Colon = (58, [], refl, refl, refl, refl)
symbol_head symbol.Assign = (58, 61 ∷ [], refl, refl, refl, refl)
symbol_head symbol.Equals = (61, [], refl, refl, refl, refl)
symbol_head symbol.Question = (63, [], refl, refl, refl, refl)
symbol_head symbol.Plus = (43, [], refl, refl, refl, refl)
symbol_head symbol.Star = (42, [], refl, refl, refl, refl)
symbol_head symbol.Bars = (124, 124 ∷ [], refl, refl, refl, refl)
symbol_head symbol.Angles = (62, 62 ∷ [], refl, refl, refl, refl)
symbol_head symbol.Less = (60, [], refl, refl, refl, refl)
symbol_head symbol.Greater = (62, [], refl, refl, refl, refl)

none_by_length : (more : List ℕ) → length more ≡ 0 → more ≡ []
none_by_length [] e = refl
none_by_length (x ∷ more) e = absurd (omega arith)

pub symbol_longest : (s : Symbol) (rest : List ℕ) → symbol_first (symbol_text s ++ rest) ≡ Some s → IsLongest (symbol_text s) rest
symbol_longest s rest found more tail e p =
    let text = symbol_text s in
    let h = symbol_head s in
    let form : text ++ more ≡ h.0 ∷ (h.1 ++ more) = ap (λ (l : List ℕ). l ++ more) h.2 in
    let piece = piece_of h.0 (h.1 ++ more) (subst IsPiece form p) in
    let other : PieceOf head.Other (h.0 ∷ (h.1 ++ more)) = subst (λ n. PieceOf n (h.0 ∷ (h.1 ++ more))) h.3 piece in
    let longer = other.0 in
    let is : text ++ more ≡ symbol_text longer = form ∙ other.1 in
    let m = most longer tail in
    let same : symbol_text longer ++ tail ≡ text ++ rest = ap (λ (l : List ℕ). l ++ tail) (sym is) ∙ append_assoc text more tail ∙ ap (λ (l : List ℕ). text ++ l) (sym e) in
    let f : m.0 ≡ s = some_symbol m.0 s (sym m.1 ∙ ap symbol_first same ∙ found) in
    let most_len : length (symbol_text longer) ≤ length text = subst (λ (k : Symbol). length (symbol_text longer) ≤ length (symbol_text k)) f m.2 in
    let len : length (symbol_text longer) ≡ length text + length more = ap (λ (l : List ℕ). length l) (sym is) ∙ length-append text more in
    none_by_length more (omega arith)

cons_nil : (x : ℕ) → x ∷ [] ≡ [] → ⊥
cons_nil x e = cc

colon_stops : (rest : List ℕ) → IsLongest (58 ∷ []) rest → begins_with 61 rest ≡ false
colon_stops [] l = refl
colon_stops (x ∷ rest) l = by (eqb x 61) refl where
  by : (v : Bool) → eqb x 61 ≡ v → eqb x 61 ≡ false
  by false e = e
  by true e =
      let piece : IsPiece (58 ∷ x ∷ []) = inr (kind.Symbol symbol.Assign, ap (λ n. 58 ∷ n ∷ []) (eqb-true x 61 e)) in
      absurd (cons_nil x (l (x ∷ []) rest refl piece))

greater_stops : (rest : List ℕ) → IsLongest (62 ∷ []) rest → begins_with 62 rest ≡ false
greater_stops [] l = refl
greater_stops (x ∷ rest) l = by (eqb x 62) refl where
  by : (v : Bool) → eqb x 62 ≡ v → eqb x 62 ≡ false
  by false e = e
  by true e =
      let piece : IsPiece (62 ∷ x ∷ []) = inr (kind.Symbol symbol.Angles, ap (λ n. 62 ∷ n ∷ []) (eqb-true x 62 e)) in
      absurd (cons_nil x (l (x ∷ []) rest refl piece))

-- the longest symbol is the one that is found
pub symbol_taken : (s : Symbol) (rest : List ℕ) → IsLongest (symbol_text s) rest → symbol_first (symbol_text s ++ rest) ≡ Some s
symbol_taken symbol.LeftParen rest l = refl
symbol_taken symbol.RightParen rest l = refl
symbol_taken symbol.LeftBracket rest l = refl
symbol_taken symbol.RightBracket rest l = refl
symbol_taken symbol.LeftBrace rest l = refl
symbol_taken symbol.RightBrace rest l = refl
symbol_taken symbol.Comma rest l = refl
symbol_taken symbol.Point rest l = refl
symbol_taken symbol.Colon rest l = ap (λ v. Some (cond v symbol.Assign symbol.Colon)) (colon_stops rest l)
symbol_taken symbol.Assign rest l = refl
symbol_taken symbol.Equals rest l = refl
symbol_taken symbol.Question rest l = refl
symbol_taken symbol.Plus rest l = refl
symbol_taken symbol.Star rest l = refl
symbol_taken symbol.Bars rest l = refl
symbol_taken symbol.Angles rest l = refl
symbol_taken symbol.Less rest l = refl
symbol_taken symbol.Greater rest l = ap (λ v. Some (cond v symbol.Angles symbol.Greater)) (greater_stops rest l)
