-- A token's spelling is the longest if the bytes after it can't continue it.
use Rattle.std.proofs.Common.{◌≡◌, ℕ, ◌+◌, Bool, true, false, cond, eqb, List, [], ◌∷◌, ◌++◌, length, Some, refl, ap, sym, ◌∙◌, subst, inl}
use Rattle.std.specs.List.{prefix_len}
use Rattle.tb_terms.specs.Names.{is_digit, is_name, is_ident, is_name_byte}
use Rattle.tb_read.specs.Positions.{HasPoint}
use Rattle.tb_lex.specs.Gaps.{IsGap, IsLast}
use Rattle.tb_lex.specs.Tokens.{symbol_text, SpellsKind, IsLongest, IsWhole, IsToken, TokensThen, Lexes, Spaced}
use Rattle.tb_lex.specs.Helpers.Scanning.{begins_with}
use Rattle.tb_lex.specs.declared.symbol.Symbol.{Symbol}
use Rattle.tb_lex.specs.declared.symbol.Symbol.TheVariants as symbol
use Rattle.tb_lex.specs.declared.token.Token.{Token}
use Rattle.tb_lex.specs.declared.kind.TokenKind.{TokenKind}
use Rattle.tb_lex.specs.declared.kind.TokenKind.TheVariants as kind
use Rattle.tb_lex.proofs.Gaps.{no_gap}
use Rattle.tb_lex.proofs.Heads.{number_numeral}
use Rattle.tb_lex.proofs.Names.{name_longest, ident_longest}
use Rattle.tb_lex.proofs.Numbers.{numeral_longest}
use Rattle.tb_lex.proofs.Quotes.{string_longest}
use Rattle.tb_lex.proofs.Symbols.{symbol_first, symbol_longest}

-- the byte after a colon or a `>` isn't the rest of another symbol
abbrev pub SymbolApart : Symbol → List ℕ → Type 0
SymbolApart symbol.Colon rest = begins_with 61 rest ≡ false
SymbolApart symbol.Greater rest = begins_with 62 rest ≡ false
SymbolApart _ rest = Unit {0}

-- the bytes after a token can't continue it
abbrev pub Apart : TokenKind → List ℕ → Type 0
Apart (kind.Int number) rest = (prefix_len is_digit rest ≡ 0) × (HasPoint rest → ⊥)
Apart (kind.Str bytes) rest = Unit {0}
Apart (kind.Lower name) rest = prefix_len is_name_byte rest ≡ 0
Apart (kind.Upper name) rest = prefix_len is_name_byte rest ≡ 0
Apart (kind.Symbol symbol) rest = SymbolApart symbol rest

first_apart : (s : Symbol) (rest : List ℕ) → SymbolApart s rest → symbol_first (symbol_text s ++ rest) ≡ Some s
first_apart symbol.LeftParen rest a = refl
first_apart symbol.RightParen rest a = refl
first_apart symbol.LeftBracket rest a = refl
first_apart symbol.RightBracket rest a = refl
first_apart symbol.LeftBrace rest a = refl
first_apart symbol.RightBrace rest a = refl
first_apart symbol.Comma rest a = refl
first_apart symbol.Point rest a = refl
first_apart symbol.Colon rest a = ap (λ v. Some (cond v symbol.Assign symbol.Colon)) a
first_apart symbol.Assign rest a = refl
first_apart symbol.Equals rest a = refl
first_apart symbol.Question rest a = refl
first_apart symbol.Plus rest a = refl
first_apart symbol.Star rest a = refl
first_apart symbol.Bars rest a = refl
first_apart symbol.Angles rest a = refl
first_apart symbol.Less rest a = refl
first_apart symbol.Greater rest a = ap (λ v. Some (cond v symbol.Angles symbol.Greater)) a

-- a token whose spelling is followed by such bytes is the longest there
pub kind_longest : (k : TokenKind) (text rest : List ℕ) → SpellsKind k text → Apart k rest → IsLongest text rest
kind_longest (kind.Int z) text rest s a = numeral_longest text rest (number_numeral z text s) a.0
kind_longest (kind.Str bytes) text rest s a = string_longest bytes text rest s
kind_longest (kind.Lower name) text rest s a = name_longest text rest (ap is_name s.1 ∙ s.0) a
kind_longest (kind.Upper name) text rest s a = ident_longest text rest (ap is_ident s.1 ∙ s.0) a
kind_longest (kind.Symbol s) text rest e a = subst (λ (t : List ℕ). IsLongest t rest) (sym e) (symbol_longest s rest (first_apart s rest a))

pub kind_whole : (k : TokenKind) (rest : List ℕ) → Apart k rest → IsWhole k rest
kind_whole (kind.Int z) rest a = a.1
kind_whole (kind.Str bytes) rest a = tt
kind_whole (kind.Lower name) rest a = tt
kind_whole (kind.Upper name) rest a = tt
kind_whole (kind.Symbol s) rest a = tt

no_point : (rest : List ℕ) → HasPoint (32 ∷ rest) → ⊥
no_point rest p = let no : ◌≡◌ {A = ℕ} 32 46 = cc in absurd (apart_by (ap (λ n. eqb n 32) no)) where
  apart_by : ◌≡◌ {A = Bool} true false → ⊥
  apart_by e = cc

blank_symbol : (s : Symbol) (rest : List ℕ) → SymbolApart s (32 ∷ rest)
blank_symbol symbol.LeftParen rest = tt
blank_symbol symbol.RightParen rest = tt
blank_symbol symbol.LeftBracket rest = tt
blank_symbol symbol.RightBracket rest = tt
blank_symbol symbol.LeftBrace rest = tt
blank_symbol symbol.RightBrace rest = tt
blank_symbol symbol.Comma rest = tt
blank_symbol symbol.Point rest = tt
blank_symbol symbol.Colon rest = refl
blank_symbol symbol.Assign rest = tt
blank_symbol symbol.Equals rest = tt
blank_symbol symbol.Question rest = tt
blank_symbol symbol.Plus rest = tt
blank_symbol symbol.Star rest = tt
blank_symbol symbol.Bars rest = tt
blank_symbol symbol.Angles rest = tt
blank_symbol symbol.Less rest = tt
blank_symbol symbol.Greater rest = refl

-- a space continues no token
pub blank_apart : (k : TokenKind) (rest : List ℕ) → Apart k (32 ∷ rest)
blank_apart (kind.Int z) rest = (refl, no_point rest)
blank_apart (kind.Str bytes) rest = tt
blank_apart (kind.Lower name) rest = refl
blank_apart (kind.Upper name) rest = refl
blank_apart (kind.Symbol s) rest = blank_symbol s rest

blank_gap : IsGap (32 ∷ [])
blank_gap = ((32 ∷ []) ∷ [], ([], refl, inl (32, refl, refl), refl))

pub token_apart : (position : ℕ) (token : Token) (text rest : List ℕ) → SpellsKind token.kind text → Apart token.kind rest → token.from ≡ position → token.to ≡ position + length text → IsToken position token text rest
token_apart position token text rest s a from to = record { spelled = s; longest = kind_longest token.kind text rest s a; whole = kind_whole token.kind rest a; from = from; to = to }

behind_blank : (tokens : List Token) (position : ℕ) (bytes : List ℕ) → Spaced (position + 1) tokens bytes → TokensThen (λ position rest. IsLast rest) position (32 ∷ bytes) tokens
behind_blank [] position bytes s = inl (subst (λ (l : List ℕ). IsGap (32 ∷ l)) (sym s) blank_gap)
behind_blank (token ∷ tokens) position bytes s =
    let text = s.0 in
    let rest = s.1 in
    let is = token_apart (position + 1) token text (32 ∷ rest) s.3 (blank_apart token.kind rest) s.4 s.5 in
    (32 ∷ [], text, 32 ∷ rest, ap (λ (l : List ℕ). 32 ∷ l) s.2, blank_gap, is, behind_blank tokens token.to rest s.6)

-- spellings of tokens, each followed by a space, have these tokens
pub spaced_lexes : (tokens : List Token) (bytes : List ℕ) → Spaced 0 tokens bytes → Lexes bytes tokens
spaced_lexes [] bytes s = inl (subst IsGap (sym s) no_gap)
spaced_lexes (token ∷ tokens) bytes s =
    let text = s.0 in
    let rest = s.1 in
    let is = token_apart 0 token text (32 ∷ rest) s.3 (blank_apart token.kind rest) s.4 s.5 in
    ([], text, 32 ∷ rest, s.2, no_gap, is, behind_blank tokens token.to rest s.6)
