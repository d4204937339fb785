-- The token that passes a test of the parser.
use Rattle.std.proofs.Common.{◌≡◌, ℕ, true, List, [], ◌∷◌, get_or, refl, ap, sym, ◌∙◌}
use Rattle.std.specs.Str.{bytes_eq}
use Rattle.std.proofs.lemmas.Slice.Eq.{bytes_eq-Decides}
use Rattle.std.proofs.lemmas.Bool.Decides.{Decides-eqb}
use Rattle.tb_lex.specs.declared.kind.TokenKind.{TokenKind}
use Rattle.tb_lex.specs.declared.kind.TokenKind.TheVariants.{Int, Str, Lower, Upper, Symbol as Sign}
use Rattle.tb_lex.specs.declared.symbol.Symbol.{Symbol}
use Rattle.tb_lex.specs.declared.symbol.Symbol.TheVariants.{LeftParen, RightParen, LeftBracket, RightBracket, LeftBrace, RightBrace, Comma, Point, Colon, Assign, Equals, Question, Plus, Star, Bars, Angles, Less, Greater}
use Rattle.tb_parse.specs.Helpers.Parsing.{sign_code, is_sign, is_word}

signs : List Symbol
signs =
    LeftParen ∷ RightParen ∷ LeftBracket ∷ RightBracket ∷ LeftBrace ∷ RightBrace ∷ Comma ∷ Point ∷ Colon ∷ Assign ∷ Equals ∷ Question
    ∷ Plus ∷ Star ∷ Bars ∷ Angles ∷ Less ∷ Greater ∷ []

sign_at : ℕ → Symbol
sign_at code = get_or signs code LeftParen

at_code : (s : Symbol) → sign_at (sign_code s) ≡ s
unfolding sign_at signs
at_code LeftParen = refl
at_code RightParen = refl
at_code LeftBracket = refl
at_code RightBracket = refl
at_code LeftBrace = refl
at_code RightBrace = refl
at_code Comma = refl
at_code Point = refl
at_code Colon = refl
at_code Assign = refl
at_code Equals = refl
at_code Question = refl
at_code Plus = refl
at_code Star = refl
at_code Bars = refl
at_code Angles = refl
at_code Less = refl
at_code Greater = refl

pub is_that_sign : (s : Symbol) (k : TokenKind) → is_sign s k ≡ true → k ≡ Sign s
is_that_sign s (Int n) e = absurd (cc)
is_that_sign s (Str text) e = absurd (cc)
is_that_sign s (Lower name) e = absurd (cc)
is_that_sign s (Upper name) e = absurd (cc)
is_that_sign s (Sign other) e =
    let same : sign_code s ≡ sign_code other = (Decides-eqb (sign_code s) (sign_code other)).0 e in
    ap (λ t. Sign t) (sym (sym (at_code s) ∙ ap sign_at same ∙ at_code other))

pub its_own : (s : Symbol) → is_sign s (Sign s) ≡ true
its_own s = (Decides-eqb (sign_code s) (sign_code s)).1 refl

pub same_name : (name word : List ℕ) → bytes_eq name word ≡ true → name ≡ word
same_name name word e = (bytes_eq-Decides name word).0 e

pub is_that_word : (word : List ℕ) (k : TokenKind) → is_word word k ≡ true → k ≡ Lower word
is_that_word word (Int n) e = absurd (cc)
is_that_word word (Str text) e = absurd (cc)
is_that_word word (Lower name) e = ap (λ n. Lower n) (same_name name word e)
is_that_word word (Upper name) e = absurd (cc)
is_that_word word (Sign symbol) e = absurd (cc)
