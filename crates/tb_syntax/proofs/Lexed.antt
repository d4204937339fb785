-- The printed text of tokens has exactly these tokens.
use Rattle.std.proofs.Common.{◌≡◌, ℕ, ◌+◌, Bool, true, false, if◌then◌else◌, List, [], ◌∷◌, ◌++◌, length, map, refl, ap, sym, ◌∙◌, inl, append_assoc}
use Rattle.std.proofs.lemmas.Bool.{and_parts}
use Rattle.std.specs.List.{list_all, prefix_len}
use Rattle.tb_terms.specs.Names.{is_digit, is_name_byte}
use Rattle.tb_read.specs.Positions.{HasPoint}
use Rattle.tb_read.proofs.Written.{number_spelled, string_spelled}
use Rattle.tb_lex.specs.Gaps.{IsGap, IsLast}
use Rattle.tb_lex.specs.Tokens.{symbol_text, SpellsKind, IsToken, TokensThen, Lexes}
use Rattle.tb_lex.specs.Helpers.Scanning.{begins_with}
use Rattle.tb_lex.specs.declared.token.Token.{Token}
use Rattle.tb_lex.specs.declared.kind.TokenKind.{TokenKind}
use Rattle.tb_lex.specs.declared.kind.TokenKind.TheVariants.{Int, Str, Lower, Upper, Symbol as Sign}
use Rattle.tb_lex.specs.declared.symbol.Symbol.{Symbol}
use Rattle.tb_lex.specs.declared.symbol.Symbol.TheVariants as symbol
use Rattle.tb_lex.proofs.Apart.{Apart, SymbolApart, token_apart}
use Rattle.tb_lex.proofs.Gaps.{no_gap}
use Rattle.tb_syntax.specs.declared.gap.Before.{Before}
use Rattle.tb_syntax.specs.declared.gap.Before.TheVariants.{Nothing, Opening, Name, Other}
use Rattle.tb_syntax.specs.Helpers.ProperKinds.{is_proper_kind}
use Rattle.tb_syntax.specs.Helpers.TokenText.{definition_words, leading_words, token_text, before_next, symbol_before, gap, text_from, tokens_text, is_closing, is_joining, space, space_after_name}
use Rattle.tb_syntax.specs.Words.{is_among}

-- each token's text spells it
spelled : (k : TokenKind) → is_proper_kind k ≡ true → SpellsKind k (token_text k)
spelled (Int number) e = number_spelled number e
spelled (Str text) e = string_spelled text e
spelled (Lower name) e = (e, refl)
spelled (Upper name) e = (e, refl)
spelled (Sign s) e = refl

-- a byte that can't continue a name, a numeral, or a symbol
pub data Breaks : List ℕ → Type 0 where
  newline : (rest : List ℕ) → Breaks (10 ∷ rest)
  blank : (rest : List ℕ) → Breaks (32 ∷ rest)
  right_paren : (rest : List ℕ) → Breaks (41 ∷ rest)
  comma : (rest : List ℕ) → Breaks (44 ∷ rest)
  question : (rest : List ℕ) → Breaks (63 ∷ rest)
  right_bracket : (rest : List ℕ) → Breaks (93 ∷ rest)

no_name : (rest : List ℕ) → Breaks rest → prefix_len is_name_byte rest ≡ 0
no_name _ (Breaks.newline rest) = refl
no_name _ (Breaks.blank rest) = refl
no_name _ (Breaks.right_paren rest) = refl
no_name _ (Breaks.comma rest) = refl
no_name _ (Breaks.question rest) = refl
no_name _ (Breaks.right_bracket rest) = refl

no_digit : (rest : List ℕ) → Breaks rest → prefix_len is_digit rest ≡ 0
no_digit _ (Breaks.newline rest) = refl
no_digit _ (Breaks.blank rest) = refl
no_digit _ (Breaks.right_paren rest) = refl
no_digit _ (Breaks.comma rest) = refl
no_digit _ (Breaks.question rest) = refl
no_digit _ (Breaks.right_bracket rest) = refl

no_equals : (rest : List ℕ) → Breaks rest → begins_with 61 rest ≡ false
no_equals _ (Breaks.newline rest) = refl
no_equals _ (Breaks.blank rest) = refl
no_equals _ (Breaks.right_paren rest) = refl
no_equals _ (Breaks.comma rest) = refl
no_equals _ (Breaks.question rest) = refl
no_equals _ (Breaks.right_bracket rest) = refl

no_greater : (rest : List ℕ) → Breaks rest → begins_with 62 rest ≡ false
no_greater _ (Breaks.newline rest) = refl
no_greater _ (Breaks.blank rest) = refl
no_greater _ (Breaks.right_paren rest) = refl
no_greater _ (Breaks.comma rest) = refl
no_greater _ (Breaks.question rest) = refl
no_greater _ (Breaks.right_bracket rest) = refl

starts_point : (rest : List ℕ) → HasPoint rest → begins_with 46 rest ≡ true
starts_point rest p = ap (begins_with 46) p.2

no_point_begins : (rest : List ℕ) → Breaks rest → begins_with 46 rest ≡ false
no_point_begins _ (Breaks.newline rest) = refl
no_point_begins _ (Breaks.blank rest) = refl
no_point_begins _ (Breaks.right_paren rest) = refl
no_point_begins _ (Breaks.comma rest) = refl
no_point_begins _ (Breaks.question rest) = refl
no_point_begins _ (Breaks.right_bracket rest) = refl

no_point : (rest : List ℕ) → Breaks rest → HasPoint rest → ⊥
no_point rest b p = let e : ◌≡◌ {A = Bool} false true = sym (no_point_begins rest b) ∙ starts_point rest p in absurd (apart_by e) where
  apart_by : ◌≡◌ {A = Bool} false true → ⊥
  apart_by e = cc

abbrev ending : List ℕ
ending = 10 ∷ []

-- a newline or a space before a word
word_breaks : (b : Bool) (name more : List ℕ) → Breaks ((((if b then 10 ∷ [] else 32 ∷ []) ++ name) ++ more) ++ ending)
word_breaks true name more = Breaks.newline _
word_breaks false name more = Breaks.blank _

symbol_breaks : (s : Symbol) (more : List ℕ) → Breaks ((((if is_closing s then [] else 32 ∷ []) ++ symbol_text s) ++ more) ++ ending)
symbol_breaks symbol.RightParen more = Breaks.right_paren _
symbol_breaks symbol.RightBracket more = Breaks.right_bracket _
symbol_breaks symbol.Comma more = Breaks.comma _
symbol_breaks symbol.Question more = Breaks.question _
symbol_breaks symbol.LeftParen more = Breaks.blank _
symbol_breaks symbol.LeftBracket more = Breaks.blank _
symbol_breaks symbol.LeftBrace more = Breaks.blank _
symbol_breaks symbol.RightBrace more = Breaks.blank _
symbol_breaks symbol.Point more = Breaks.blank _
symbol_breaks symbol.Colon more = Breaks.blank _
symbol_breaks symbol.Assign more = Breaks.blank _
symbol_breaks symbol.Equals more = Breaks.blank _
symbol_breaks symbol.Plus more = Breaks.blank _
symbol_breaks symbol.Star more = Breaks.blank _
symbol_breaks symbol.Bars more = Breaks.blank _
symbol_breaks symbol.Angles more = Breaks.blank _
symbol_breaks symbol.Less more = Breaks.blank _
symbol_breaks symbol.Greater more = Breaks.blank _

other_breaks : (k : TokenKind) (more : List ℕ) → Breaks (((space k ++ token_text k) ++ more) ++ ending)
other_breaks (Int number) more = Breaks.blank _
other_breaks (Str text) more = Breaks.blank _
other_breaks (Lower name) more = word_breaks (is_among definition_words name) name more
other_breaks (Upper name) more = Breaks.blank _
other_breaks (Sign s) more = symbol_breaks s more

-- the text that is printed after a name can't continue it
sign_stops : (s : Symbol) (more : List ℕ) → prefix_len is_name_byte (((space_after_name (Sign s) ++ symbol_text s) ++ more) ++ ending) ≡ 0
sign_stops symbol.LeftParen more = refl
sign_stops symbol.RightParen more = refl
sign_stops symbol.LeftBracket more = refl
sign_stops symbol.RightBracket more = refl
sign_stops symbol.LeftBrace more = refl
sign_stops symbol.RightBrace more = refl
sign_stops symbol.Comma more = refl
sign_stops symbol.Point more = refl
sign_stops symbol.Colon more = refl
sign_stops symbol.Assign more = refl
sign_stops symbol.Equals more = refl
sign_stops symbol.Question more = refl
sign_stops symbol.Plus more = refl
sign_stops symbol.Star more = refl
sign_stops symbol.Bars more = refl
sign_stops symbol.Angles more = refl
sign_stops symbol.Less more = refl
sign_stops symbol.Greater more = refl

name_stops : (k : TokenKind) (more : List ℕ) → prefix_len is_name_byte (((space_after_name k ++ token_text k) ++ more) ++ ending) ≡ 0
name_stops (Int number) more = no_name _ (other_breaks (Int number) more)
name_stops (Str text) more = no_name _ (other_breaks (Str text) more)
name_stops (Lower name) more = no_name _ (other_breaks (Lower name) more)
name_stops (Upper name) more = no_name _ (other_breaks (Upper name) more)
name_stops (Sign s) more = sign_stops s more

-- the text after a token that isn't an opening symbol can't continue it
behind_other : (ks : List TokenKind) → Breaks (text_from Other ks ++ ending)
behind_other [] = Breaks.newline _
behind_other (k ∷ ks) = other_breaks k (text_from (before_next k) ks)

behind_name : (ks : List TokenKind) → prefix_len is_name_byte (text_from Name ks ++ ending) ≡ 0
behind_name [] = refl
behind_name (k ∷ ks) = name_stops k (text_from (before_next k) ks)

behind_word : (b : Bool) (ks : List TokenKind) → prefix_len is_name_byte (text_from (if b then Other else Name) ks ++ ending) ≡ 0
behind_word true ks = no_name _ (behind_other ks)
behind_word false ks = behind_name ks

behind_symbol : (s : Symbol) (ks : List TokenKind) → SymbolApart s (text_from (symbol_before s) ks ++ ending)
behind_symbol symbol.LeftParen ks = tt
behind_symbol symbol.LeftBracket ks = tt
behind_symbol symbol.Less ks = tt
behind_symbol symbol.RightParen ks = tt
behind_symbol symbol.RightBracket ks = tt
behind_symbol symbol.LeftBrace ks = tt
behind_symbol symbol.RightBrace ks = tt
behind_symbol symbol.Comma ks = tt
behind_symbol symbol.Point ks = tt
behind_symbol symbol.Colon ks = no_equals _ (behind_other ks)
behind_symbol symbol.Assign ks = tt
behind_symbol symbol.Equals ks = tt
behind_symbol symbol.Question ks = tt
behind_symbol symbol.Plus ks = tt
behind_symbol symbol.Star ks = tt
behind_symbol symbol.Bars ks = tt
behind_symbol symbol.Angles ks = tt
behind_symbol symbol.Greater ks = no_greater _ (behind_other ks)

apart : (k : TokenKind) (ks : List TokenKind) → Apart k (text_from (before_next k) ks ++ ending)
apart (Int number) ks = (no_digit _ (behind_other ks), no_point _ (behind_other ks))
apart (Str text) ks = tt
apart (Lower name) ks = behind_word (is_among leading_words name) ks
apart (Upper name) ks = behind_name ks
apart (Sign s) ks = behind_symbol s ks

-- The gaps.

blank_gap : IsGap (32 ∷ [])
blank_gap = ((32 ∷ []) ∷ [], ([], refl, inl (32, refl, refl), refl))

line_gap : IsGap (10 ∷ [])
line_gap = ((10 ∷ []) ∷ [], ([], refl, inl (10, refl, refl), refl))

word_gap : (b : Bool) → IsGap (if b then 10 ∷ [] else 32 ∷ [])
word_gap true = line_gap
word_gap false = blank_gap

sign_gap : (b : Bool) → IsGap (if b then [] else 32 ∷ [])
sign_gap true = no_gap
sign_gap false = blank_gap

space_gap : (k : TokenKind) → IsGap (space k)
space_gap (Int number) = blank_gap
space_gap (Str text) = blank_gap
space_gap (Lower name) = word_gap (is_among definition_words name)
space_gap (Upper name) = blank_gap
space_gap (Sign s) = sign_gap (is_closing s)

joined_gap : (b : Bool) (s : Symbol) → IsGap (if b then [] else space (Sign s))
joined_gap true s = no_gap
joined_gap false s = space_gap (Sign s)

name_gap : (k : TokenKind) → IsGap (space_after_name k)
name_gap (Int number) = blank_gap
name_gap (Str text) = blank_gap
name_gap (Lower name) = space_gap (Lower name)
name_gap (Upper name) = blank_gap
name_gap (Sign s) = joined_gap (is_joining s) s

gap_is : (before : Before) (k : TokenKind) → IsGap (gap before k)
gap_is Nothing k = no_gap
gap_is Opening k = no_gap
gap_is Name k = name_gap k
gap_is Other k = space_gap k

abbrev LexesFrom : ℕ → List ℕ → List Token → Type 0
LexesFrom = TokensThen (λ position rest. IsLast rest)

lexed_from : (kinds : List TokenKind) (before : Before) (position : ℕ) → list_all is_proper_kind kinds ≡ true → (tokens : List Token) × (map (λ (t : Token). t.kind) tokens ≡ kinds) × LexesFrom position (text_from before kinds ++ ending) tokens
lexed_from [] before position e = ([], refl, inl line_gap)
lexed_from (k ∷ kinds) before position e =
    let p = and_parts (is_proper_kind k) (list_all is_proper_kind kinds) e in
    let from = position + length (gap before k) in
    let to = from + length (token_text k) in
    let token : Token = record { kind = k; from = from; to = to } in
    let r = lexed_from kinds (before_next k) to p.1 in
    let rest = text_from (before_next k) kinds ++ ending in
    let is : IsToken from token (token_text k) rest = token_apart from token (token_text k) rest (spelled k p.0) (apart k kinds) refl refl in
    (token ∷ r.0, (λ i. k ∷ r.1 i), (gap before k, token_text k, rest, append_assoc (gap before k ++ token_text k) (text_from (before_next k) kinds) ending, gap_is before k, is, r.2))

pub lexed : (kinds : List TokenKind) → list_all is_proper_kind kinds ≡ true → (tokens : List Token) × (map (λ (t : Token). t.kind) tokens ≡ kinds) × Lexes (tokens_text kinds) tokens
lexed kinds e = lexed_from kinds Nothing 0 e
