-- Which tokens a row of pieces has.
use Rattle.std.proofs.Common.{◌≡◌, ℕ, ◌+◌, Bool, true, false, not, eqb, List, [], ◌∷◌, ◌++◌, length, refl, ap, sym, inl, arith, append_assoc}
use Rattle.std.proofs.lemmas.Bool.{and_parts}
use Rattle.std.specs.List.{prefix_len}
use Rattle.tb_terms.specs.Names.{is_digit, is_name, is_ident, is_name_byte}
use Rattle.tb_read.specs.Positions.{HasPoint}
use Rattle.tb_read.proofs.Written.{number_spelled}
use Rattle.tb_lex.specs.Gaps.{IsGap, IsLast}
use Rattle.tb_lex.specs.Helpers.Scanning.{begins_with}
use Rattle.tb_lex.specs.Tokens.{SpellsKind, TokensThen}
use Rattle.tb_lex.specs.declared.symbol.Symbol.{Symbol}
use Rattle.tb_lex.specs.declared.symbol.Symbol.TheVariants as sign
use Rattle.tb_lex.specs.declared.token.Token.{Token}
use Rattle.tb_lex.specs.declared.kind.TokenKind.{TokenKind}
use Rattle.tb_lex.specs.declared.kind.TokenKind.TheVariants.{Int, Str, Lower, Upper, Symbol as Sign}
use Rattle.tb_lex.proofs.Apart.{Apart, SymbolApart, token_apart}
use Rattle.tb_lex.proofs.Gaps.{no_gap}
use Rattle.tb_syntax.specs.Spelling.{kinds_of}
use Rattle.tb_ring_law.specs.Helpers.Pieces.{Gap, None, Blank, Line, gap_text, Piece, text_of, pieces_text, kinds_in, is_symbol_apart, is_apart, are_apart, is_wide, are_wide}

-- whatever stands before these bytes, they have tokens of these kinds, and nothing else
abbrev pub Lexed : List ℕ → List TokenKind → Type 0
Lexed bytes kinds = (position : ℕ) → (tokens : List Token) × TokensThen (λ position rest. IsLast rest) position bytes tokens × (kinds_of tokens ≡ kinds)

is_gap : (gap : Gap) → IsGap (gap_text gap)
is_gap None = no_gap
is_gap Blank = ((32 ∷ []) ∷ [], ([], refl, inl (32, refl, refl), refl))
is_gap Line = ((10 ∷ []) ∷ [], ([], refl, inl (10, refl, refl), refl))

eqb-eq : (n : ℕ) → eqb n 0 ≡ true → n ≡ 0
eqb-eq n e = grind arith

not-true : (b : Bool) → not b ≡ true → b ≡ false
not-true true e = cc
not-true false e = refl

no-point : (rest : List ℕ) → begins_with 46 rest ≡ false → HasPoint rest → ⊥
no-point rest e (digit, more, is, digits) = let same : begins_with 46 rest ≡ true = ap (begins_with 46) is in absurd cc

symbol-apart : (symbol : Symbol) (rest : List ℕ) → is_symbol_apart symbol rest ≡ true → SymbolApart symbol rest
symbol-apart sign.LeftParen rest e = tt
symbol-apart sign.RightParen rest e = tt
symbol-apart sign.LeftBracket rest e = tt
symbol-apart sign.RightBracket rest e = tt
symbol-apart sign.LeftBrace rest e = tt
symbol-apart sign.RightBrace rest e = tt
symbol-apart sign.Comma rest e = tt
symbol-apart sign.Point rest e = tt
symbol-apart sign.Colon rest e = not-true (begins_with 61 rest) e
symbol-apart sign.Assign rest e = tt
symbol-apart sign.Equals rest e = tt
symbol-apart sign.Question rest e = tt
symbol-apart sign.Plus rest e = tt
symbol-apart sign.Star rest e = tt
symbol-apart sign.Bars rest e = tt
symbol-apart sign.Angles rest e = tt
symbol-apart sign.Less rest e = tt
symbol-apart sign.Greater rest e = not-true (begins_with 62 rest) e

apart : (kind : TokenKind) (rest : List ℕ) → is_apart kind rest ≡ true → Apart kind rest
apart (Int number) rest e = let both = and_parts (eqb (prefix_len is_digit rest) 0) (not (begins_with 46 rest)) e in (eqb-eq _ both.0, no-point rest (not-true _ both.1))
apart (Str bytes) rest e = tt
apart (Lower name) rest e = eqb-eq _ (and_parts (is_name name) (eqb (prefix_len is_name_byte rest) 0) e).1
apart (Upper name) rest e = eqb-eq _ (and_parts (is_ident name) (eqb (prefix_len is_name_byte rest) 0) e).1
apart (Sign symbol) rest e = symbol-apart symbol rest e

spelled : (kind : TokenKind) (rest : List ℕ) → is_apart kind rest ≡ true → is_wide kind ≡ true → SpellsKind kind (text_of kind)
spelled (Int number) rest e wide = number_spelled number wide
spelled (Str bytes) rest e wide = absurd cc
spelled (Lower name) rest e wide = ((and_parts (is_name name) (eqb (prefix_len is_name_byte rest) 0) e).0, refl)
spelled (Upper name) rest e wide = ((and_parts (is_ident name) (eqb (prefix_len is_name_byte rest) 0) e).0, refl)
spelled (Sign symbol) rest e wide = refl

-- one token in front
lex-one : (piece : Piece) (rest : List ℕ) (kinds : List TokenKind) → is_apart piece.kind rest ≡ true → is_wide piece.kind ≡ true → Lexed rest kinds
    → Lexed (gap_text piece.gap ++ (text_of piece.kind ++ rest)) (piece.kind ∷ kinds)
lex-one piece rest kinds is wide lexed position =
    let from = position + length (gap_text piece.gap) in
    let to = from + length (text_of piece.kind) in
    let token : Token = record { kind = piece.kind; from = from; to = to } in
    let behind = lexed to in (
      token ∷ behind.0,
      (
        gap_text piece.gap,
        text_of piece.kind,
        rest,
        sym (append_assoc (gap_text piece.gap) (text_of piece.kind) rest),
        is_gap piece.gap,
        token_apart from token (text_of piece.kind) rest (spelled piece.kind rest is wide) (apart piece.kind rest is) refl refl,
        behind.1,
      ),
      ap (λ (ks : List TokenKind). piece.kind ∷ ks) behind.2,
    )

-- pieces in a row
pub lex-pieces : (pieces : List Piece) (rest : List ℕ) (kinds : List TokenKind) → are_apart pieces rest ≡ true → are_wide pieces ≡ true → Lexed rest kinds
    → Lexed (pieces_text pieces rest) (kinds_in pieces ++ kinds)
lex-pieces [] rest kinds is wide lexed = lexed
lex-pieces (piece ∷ pieces) rest kinds is wide lexed =
    let here = and_parts (is_apart piece.kind (pieces_text pieces rest)) (are_apart pieces rest) is in
    let fits = and_parts (is_wide piece.kind) (are_wide pieces) wide in
    lex-one piece (pieces_text pieces rest) (kinds_in pieces ++ kinds) here.0 fits.0 (lex-pieces pieces rest kinds here.1 fits.1 lexed)
