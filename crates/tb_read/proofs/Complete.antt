-- A source that spells the tokens of a term is scanned to its end.
use Rattle.std.proofs.Common.{◌≡◌, ℕ, ℤ, pos, neg_ℤ, suc, ◌-◌, ◌^◌, ◌≤◌, ◌<◌, Bool, true, false, ◌||◌, ◌⊎◌, cond, eqb, leb, List, [], ◌∷◌, ◌++◌, length, take, drop, Some, None, Result, Ok, Err, refl, ap, sym, ◌∙◌, subst, inl, inr, ⊎_elim, arith, append_assoc}
use Rattle.std.proofs.Math.Numerals.{one-add}
use Rattle.std.proofs.Math.Seq.{take-append_seam, drop-append_seam}
use Rattle.std.proofs.lemmas.Bool.{false≢true, leb-true, lt-ltb, le-leb, ne_eqb, and_parts, or_left, lt-leb}
use Rattle.std.proofs.lemmas.Bool.Decides.{nat_tests}
use Rattle.std.proofs.lemmas.Str.{IsUtf8-from_is_utf8}
use Rattle.std.specs.Str.{is_utf8}
use lib.Utf8.{encodes}
use Rattle.std.specs.List.{list_all, prefix_len}
use Rattle.tb_terms.specs.Names.{is_digit, is_lower, is_name, is_name_byte, is_text}
use Rattle.tb_terms.specs.declared.term.Term.{Term}
use Rattle.tb_read.specs.declared.quoted.Within.TheVariants.{Between}
use Rattle.tb_read.specs.declared.fault.TermFault.{TermFault}
use Rattle.tb_read.specs.declared.fault.TermFault.TheVariants.{Syntax, Real}
use Rattle.tb_read.specs.declared.token.Token.{Token}
use Rattle.tb_read.specs.declared.token.Token.TheVariants as token
use Rattle.tb_read.specs.declared.kind.Kind.{Kind}
use Rattle.tb_read.specs.declared.kind.Kind.TheVariants as kind
use Rattle.tb_read.specs.declared.shape.Shape.{Shape}
use Rattle.tb_read.specs.declared.shape.Expect.TheVariants as expect
use Rattle.tb_read.specs.declared.shape.Bracket.{Bracket}
use Rattle.tb_read.specs.declared.shape.Bracket.TheVariants.{Paren, Square}
use Rattle.tb_read.specs.Tokens.{tokens_of}
use Rattle.tb_read.specs.Spelling.{is_blank, is_digits, digits_value, SpellsNumber, SpellsBytes, SpellsString, SpellsToken, Spaced, Reads}
use Rattle.tb_read.specs.Lexing.{skip_blanks, string_rest, string_of, name_at, is_real, number_of, in_range, number_from, number_at, kind_of, token_of}
use Rattle.tb_read.specs.Scanning.{Makes, Ends, allows, after, made, next_at, next_of, start, Runs, Scans}
use Rattle.tb_read.proofs.Chars.{string_taken}
use Rattle.tb_read.proofs.Lexed.{Lexed, runs_same}
use Rattle.tb_read.proofs.Terms.{tokens_of-injective}
use Rattle.tb_read.proofs.Grammar.{kind_of_token, accepts, accepts-tokens_of}

-- the bytes that can follow a name or a number: whitespace, a bracket other than `[`, or a comma
abbrev pub is_apart : ℕ → Bool
is_apart b = is_blank b || (eqb b 40 || (eqb b 41 || (eqb b 93 || eqb b 44)))

abbrev pub Apart : List ℕ → Type 0
Apart [] = Unit {0}
Apart (b ∷ rest) = is_apart b ≡ true

name_apart : (b : ℕ) → is_apart b ≡ true → is_name_byte b ≡ false
name_apart b h = grind (arith, nat_tests)

digit_apart : (b : ℕ) → is_apart b ≡ true → is_digit b ≡ false
digit_apart b h = grind (arith, nat_tests)

point_apart : (b : ℕ) → is_apart b ≡ true → eqb b 46 ≡ false
point_apart b h = grind (arith, nat_tests)

-- the longest passing prefix ends where the following byte doesn't pass
pub prefix_all : (p : ℕ → Bool) (xs rest : List ℕ) → list_all p xs ≡ true → prefix_len p rest ≡ 0 → prefix_len p (xs ++ rest) ≡ length xs
prefix_all p [] rest h e = e
prefix_all p (x ∷ xs) rest h e =
    let q = and_parts (p x) (list_all p xs) h in
    let more : prefix_len p (xs ++ rest) ≡ length xs = prefix_all p xs rest q.1 e in
    rw (q.0, one-add) (ap suc more)

prefix_none : (p : ℕ → Bool) → ((b : ℕ) → is_apart b ≡ true → p b ≡ false) → (rest : List ℕ) → Apart rest → prefix_len p rest ≡ 0
prefix_none p h [] a = refl
prefix_none p h (b ∷ rest) a = rw (h b a) refl

real_apart : (rest : List ℕ) → Apart rest → is_real rest ≡ false
real_apart [] a = refl
real_apart (b ∷ []) a = refl
real_apart (b ∷ c ∷ rest) a = rw (point_apart b a) refl

abbrev pair : Token → List ℕ → Result Lexed TermFault
pair k rest = Ok (k, rest)

pub name_taken : (name rest : List ℕ) → is_name name ≡ true → prefix_len is_name_byte rest ≡ 0 → name_at (name ++ rest) ≡ Ok (token.Name name, rest)
name_taken [] rest h a = absurd (false≢true h)
name_taken (c ∷ cs) rest h a =
    let p = and_parts (is_lower c) (list_all is_name_byte cs) h in
    let first : is_name_byte c ≡ true = rw p.0 refl in
    let all : list_all is_name_byte (c ∷ cs) ≡ true = rw first p.1 in
    let len : prefix_len is_name_byte ((c ∷ cs) ++ rest) ≡ length (c ∷ cs) = prefix_all is_name_byte (c ∷ cs) rest all a in
    ap (λ n. pair (token.Name (take n ((c ∷ cs) ++ rest))) (drop n ((c ∷ cs) ++ rest))) len
    ∙ ap (λ (l : List ℕ). pair (token.Name l) (drop (length (c ∷ cs)) ((c ∷ cs) ++ rest))) (take-append_seam (c ∷ cs) rest)
    ∙ ap (λ (l : List ℕ). pair (token.Name (c ∷ cs)) l) (drop-append_seam (c ∷ cs) rest)

number_found : (total position : ℕ) (negative : Bool) (z : ℤ) (digits rest : List ℕ) → is_digits digits ≡ true → Apart rest → number_of negative (digits_value digits) ≡ Some z → number_from total position negative digits rest ≡ Ok (token.Int z, rest)
number_found total position negative z [] rest d a e = absurd (false≢true d)
number_found total position negative z (x ∷ digits) rest d a e =
    ap (λ v. cond v (Err (Real position)) (in_range position (number_of negative (digits_value (x ∷ digits))) rest)) (real_apart rest a)
    ∙ ap (λ o. in_range position o rest) e

-- the digits are found up to the bytes after them
pub digits_taken : (total position : ℕ) (negative : Bool) (digits rest : List ℕ) → is_digits digits ≡ true → prefix_len is_digit rest ≡ 0 → number_from total position negative (take (prefix_len is_digit (digits ++ rest)) (digits ++ rest)) (drop (prefix_len is_digit (digits ++ rest)) (digits ++ rest)) ≡ number_from total position negative digits rest
digits_taken total position negative [] rest d a = absurd (false≢true d)
digits_taken total position negative (x ∷ digits) rest d a =
    let l = (x ∷ digits) ++ rest in
    let len : prefix_len is_digit l ≡ length (x ∷ digits) = prefix_all is_digit (x ∷ digits) rest d a in
    ap (λ n. number_from total position negative (take n l) (drop n l)) len
    ∙ ap (λ (m : List ℕ). number_from total position negative m (drop (length (x ∷ digits)) l)) (take-append_seam (x ∷ digits) rest)
    ∙ ap (λ (m : List ℕ). number_from total position negative (x ∷ digits) m) (drop-append_seam (x ∷ digits) rest)

digits_found : (total position : ℕ) (negative : Bool) (z : ℤ) (digits rest : List ℕ) → is_digits digits ≡ true → Apart rest → number_of negative (digits_value digits) ≡ Some z → number_from total position negative (take (prefix_len is_digit (digits ++ rest)) (digits ++ rest)) (drop (prefix_len is_digit (digits ++ rest)) (digits ++ rest)) ≡ Ok (token.Int z, rest)
digits_found total position negative z digits rest d a e =
    digits_taken total position negative digits rest d (prefix_none is_digit digit_apart rest a)
    ∙ number_found total position negative z digits rest d a e

pub digit_unsigned : (x : ℕ) → is_digit x ≡ true → eqb x 45 ≡ false
digit_unsigned x h = grind (arith, nat_tests)

unsigned_complete : (total : ℕ) (z : ℤ) (digits rest : List ℕ) → is_digits digits ≡ true → Apart rest → number_of false (digits_value digits) ≡ Some z → number_at total (digits ++ rest) ≡ Ok (token.Int z, rest)
unsigned_complete total z [] rest d a e = absurd (false≢true d)
unsigned_complete total z (x ∷ digits) rest d a e =
    let p = and_parts (is_digit x) (list_all is_digit digits) d in
    let l = (x ∷ digits) ++ rest in
    ap (λ v. number_from total (total - length l) v (take (prefix_len is_digit (drop (cond v 1 0) l)) (drop (cond v 1 0) l)) (drop (prefix_len is_digit (drop (cond v 1 0) l)) (drop (cond v 1 0) l))) (digit_unsigned x p.0)
    ∙ digits_found total (total - length l) false z (x ∷ digits) rest d a e

number_by : (total : ℕ) (z : ℤ) (digits text rest : List ℕ) → is_digits digits ≡ true → Apart rest → ((text ≡ digits) × (z ≡ pos (digits_value digits)) × (digits_value digits < 2 ^ 63)) ⊎ ((text ≡ 45 ∷ digits) × (z ≡ neg_ℤ (pos (digits_value digits))) × (digits_value digits ≤ 2 ^ 63)) → number_at total (text ++ rest) ≡ Ok (token.Int z, rest)
number_by total z digits text rest d a (inl p) =
    let e : number_of false (digits_value digits) ≡ Some z = rw (lt-ltb (digits_value digits) (2 ^ 63) p.2) (ap Some (sym p.1)) in
    ap (λ (l : List ℕ). number_at total (l ++ rest)) p.0 ∙ unsigned_complete total z digits rest d a e
number_by total z digits text rest d a (inr p) =
    let e : number_of true (digits_value digits) ≡ Some z = rw (le-leb (digits_value digits) (2 ^ 63) p.2) (ap Some (sym p.1)) in
    ap (λ (l : List ℕ). number_at total (l ++ rest)) p.0 ∙ digits_found total (total - length (45 ∷ digits ++ rest)) true z digits rest d a e

abbrev strung : List ℕ → List ℕ → Result (List ℕ × List ℕ) TermFault
strung bytes rest = Ok (bytes, rest)

string_complete : (total : ℕ) (bytes text rest : List ℕ) → SpellsString bytes text → token_of kind.Str total (text ++ rest) ≡ Ok (token.Str bytes, rest)
string_complete total bytes text rest s =
    let valid = and_parts (is_utf8 bytes) (is_text bytes) s.is in
    let u = IsUtf8-from_is_utf8 bytes valid.0 in
    let regrouped : text ++ rest ≡ 34 ∷ (s.inner ++ (34 ∷ rest)) = ap (λ (l : List ℕ). l ++ rest) s.quoted ∙ append_assoc (34 ∷ s.inner) (34 ∷ []) rest in
    let spelled : SpellsBytes (encodes u.0) s.inner = subst (λ (l : List ℕ). SpellsBytes l s.inner) (sym u.1.1) s.spelled in
    let taken : string_rest total Between (s.inner ++ (34 ∷ rest)) ≡ strung bytes rest = string_taken u.0 u.1.0 s.inner spelled total rest ∙ ap (λ (l : List ℕ). strung l rest) u.1.1 in
    ap (λ (l : List ℕ). token_of kind.Str total l) regrouped ∙ ap (λ (r : Result (List ℕ × List ℕ) TermFault). string_of r) taken

-- the bytes that can follow a token
abbrev pub Follows : Token → List ℕ → Type 0
Follows (token.Name name) rest = Apart rest
Follows (token.Int number) rest = Apart rest
Follows _ rest = Unit {0}

pub token_complete : (total : ℕ) (k : Token) (text rest : List ℕ) → SpellsToken k text → Follows k rest → token_of (kind_of_token k) total (text ++ rest) ≡ Ok (k, rest)
token_complete total (token.Int z) text rest s a = number_by total z s.digits text rest s.are_digits a s.signed
token_complete total (token.Str bytes) text rest s a = string_complete total bytes text rest s
token_complete total (token.Name name) text rest s a = ap (λ (l : List ℕ). name_at (l ++ rest)) s.1 ∙ name_taken name rest s.0 (prefix_none is_name_byte name_apart rest a)
token_complete total token.LeftParen text rest s a = ap (λ (l : List ℕ). token_of kind.LeftParen total (l ++ rest)) s
token_complete total token.RightParen text rest s a = ap (λ (l : List ℕ). token_of kind.RightParen total (l ++ rest)) s
token_complete total token.LeftBracket text rest s a = ap (λ (l : List ℕ). token_of kind.LeftBracket total (l ++ rest)) s
token_complete total token.RightBracket text rest s a = ap (λ (l : List ℕ). token_of kind.RightBracket total (l ++ rest)) s
token_complete total token.Comma text rest s a = ap (λ (l : List ℕ). token_of kind.Comma total (l ++ rest)) s

-- the first byte of a spelling determines the kind, and isn't whitespace
abbrev pub Begun : Token → List ℕ → Type 0
Begun k text = (b : ℕ) × (rest : List ℕ) × (text ≡ b ∷ rest) × (kind_of b ≡ kind_of_token k) × (is_blank b ≡ false)

lower_kind : (b : ℕ) → is_lower b ≡ true → kind_of b ≡ kind.Name
lower_kind b h =
    let low = and_parts (leb 97 b) (leb b 122) h in
    let l : 97 ≤ b = leb-true 97 b low.0 in
    let u : b ≤ 122 = leb-true b 122 low.1 in
    let p : eqb b 40 ≡ false = ne_eqb b 40 (λ e. absurd (omega arith)) in
    let q : eqb b 41 ≡ false = ne_eqb b 41 (λ e. absurd (omega arith)) in
    let r : eqb b 91 ≡ false = ne_eqb b 91 (λ e. absurd (omega arith)) in
    let s : eqb b 93 ≡ false = ne_eqb b 93 (λ e. absurd (omega arith)) in
    let t : eqb b 44 ≡ false = ne_eqb b 44 (λ e. absurd (omega arith)) in
    let v : eqb b 34 ≡ false = ne_eqb b 34 (λ e. absurd (omega arith)) in
    rw (p, q, r, s, t, v, h) refl

digit_kind : (b : ℕ) → is_digit b ≡ true → kind_of b ≡ kind.Int
digit_kind b h =
    let low = and_parts (leb 48 b) (leb b 57) h in
    let l : 48 ≤ b = leb-true 48 b low.0 in
    let u : b ≤ 57 = leb-true b 57 low.1 in
    let p : eqb b 40 ≡ false = ne_eqb b 40 (λ e. absurd (omega arith)) in
    let q : eqb b 41 ≡ false = ne_eqb b 41 (λ e. absurd (omega arith)) in
    let r : eqb b 91 ≡ false = ne_eqb b 91 (λ e. absurd (omega arith)) in
    let s : eqb b 93 ≡ false = ne_eqb b 93 (λ e. absurd (omega arith)) in
    let t : eqb b 44 ≡ false = ne_eqb b 44 (λ e. absurd (omega arith)) in
    let v : eqb b 34 ≡ false = ne_eqb b 34 (λ e. absurd (omega arith)) in
    let w : leb 97 b ≡ false = lt-leb 97 b (omega arith) in
    rw (p, q, r, s, t, v, w, h) refl

lower_blank : (b : ℕ) → is_lower b ≡ true → is_blank b ≡ false
lower_blank b h = grind (arith, nat_tests)

digit_blank : (b : ℕ) → is_digit b ≡ true → is_blank b ≡ false
digit_blank b h = grind (arith, nat_tests)

name_begun : (name : List ℕ) → is_name name ≡ true → Begun (token.Name name) name
name_begun [] h = absurd (false≢true h)
name_begun (c ∷ cs) h =
    let p = and_parts (is_lower c) (list_all is_name_byte cs) h in
    (c, cs, refl, lower_kind c p.0, lower_blank c p.0)

digits_begun : (z : ℤ) (digits : List ℕ) → is_digits digits ≡ true → Begun (token.Int z) digits
digits_begun z [] h = absurd (false≢true h)
digits_begun z (x ∷ digits) h =
    let p = and_parts (is_digit x) (list_all is_digit digits) h in
    (x, digits, refl, digit_kind x p.0, digit_blank x p.0)

number_begun : (z : ℤ) (text : List ℕ) (s : SpellsNumber z text) → Begun (token.Int z) text
number_begun z text s = ⊎_elim (λ p. subst (λ (l : List ℕ). Begun (token.Int z) l) (sym p.0) (digits_begun z s.digits s.are_digits)) (λ p. (45, s.digits, p.0, refl, refl)) s.signed

pub begun : (k : Token) (text : List ℕ) → SpellsToken k text → Begun k text
begun (token.Int z) text s = number_begun z text s
begun (token.Str bytes) text s = (34, s.inner ++ (34 ∷ []), s.quoted, refl, refl)
begun (token.Name name) text s = subst (λ (l : List ℕ). Begun (token.Name name) l) (sym s.1) (name_begun name s.0)
begun token.LeftParen text s = (40, [], s, refl, refl)
begun token.RightParen text s = (41, [], s, refl, refl)
begun token.LeftBracket text s = (91, [], s, refl, refl)
begun token.RightBracket text s = (93, [], s, refl, refl)
begun token.Comma text s = (44, [], s, refl, refl)

-- whitespace is skipped up to another byte
pub skipped : (blanks : List ℕ) (b : ℕ) (rest : List ℕ) → list_all is_blank blanks ≡ true → is_blank b ≡ false → skip_blanks (blanks ++ (b ∷ rest)) ≡ b ∷ rest
skipped [] b rest h e = rw e refl
skipped (c ∷ blanks) b rest h e =
    let p = and_parts (is_blank c) (list_all is_blank blanks) h in
    rw p.0 (skipped blanks b rest p.1 e)

all_skipped : (blanks : List ℕ) → list_all is_blank blanks ≡ true → skip_blanks blanks ≡ []
all_skipped [] h = refl
all_skipped (c ∷ blanks) h =
    let p = and_parts (is_blank c) (list_all is_blank blanks) h in
    rw p.0 (all_skipped blanks p.1)

-- the tokens that can follow a name or a number in accepted tokens
abbrev is_symbol : Token → Bool
is_symbol token.LeftParen = true
is_symbol token.RightParen = true
is_symbol token.RightBracket = true
is_symbol token.Comma = true
is_symbol _ = false

further_symbol : (bs : List Bracket) (k : Token) → allows (record { expect = expect.Further; brackets = bs }) (kind_of_token k) ≡ true → is_symbol k ≡ true
further_symbol bs token.LeftParen h = refl
further_symbol bs token.RightParen h = refl
further_symbol bs token.RightBracket h = refl
further_symbol bs token.Comma h = refl
further_symbol [] (token.Int n) h = absurd (false≢true h)
further_symbol [] (token.Str n) h = absurd (false≢true h)
further_symbol [] (token.Name n) h = absurd (false≢true h)
further_symbol [] token.LeftBracket h = absurd (false≢true h)
further_symbol (Paren ∷ bs) (token.Int n) h = absurd (false≢true h)
further_symbol (Paren ∷ bs) (token.Str n) h = absurd (false≢true h)
further_symbol (Paren ∷ bs) (token.Name n) h = absurd (false≢true h)
further_symbol (Paren ∷ bs) token.LeftBracket h = absurd (false≢true h)
further_symbol (Square ∷ bs) (token.Int n) h = absurd (false≢true h)
further_symbol (Square ∷ bs) (token.Str n) h = absurd (false≢true h)
further_symbol (Square ∷ bs) (token.Name n) h = absurd (false≢true h)
further_symbol (Square ∷ bs) token.LeftBracket h = absurd (false≢true h)

named_symbol : (bs : List Bracket) (k : Token) → allows (record { expect = expect.Named; brackets = bs }) (kind_of_token k) ≡ true → is_symbol k ≡ true
named_symbol bs token.LeftParen h = refl
named_symbol bs token.RightParen h = refl
named_symbol bs token.RightBracket h = refl
named_symbol bs token.Comma h = refl
named_symbol [] (token.Int n) h = absurd (false≢true h)
named_symbol [] (token.Str n) h = absurd (false≢true h)
named_symbol [] (token.Name n) h = absurd (false≢true h)
named_symbol [] token.LeftBracket h = absurd (false≢true h)
named_symbol (Paren ∷ bs) (token.Int n) h = absurd (false≢true h)
named_symbol (Paren ∷ bs) (token.Str n) h = absurd (false≢true h)
named_symbol (Paren ∷ bs) (token.Name n) h = absurd (false≢true h)
named_symbol (Paren ∷ bs) token.LeftBracket h = absurd (false≢true h)
named_symbol (Square ∷ bs) (token.Int n) h = absurd (false≢true h)
named_symbol (Square ∷ bs) (token.Str n) h = absurd (false≢true h)
named_symbol (Square ∷ bs) (token.Name n) h = absurd (false≢true h)
named_symbol (Square ∷ bs) token.LeftBracket h = absurd (false≢true h)

blank_apart : (b : ℕ) → is_blank b ≡ true → is_apart b ≡ true
blank_apart b h = or_left (is_blank b) (eqb b 40 || (eqb b 41 || (eqb b 93 || eqb b 44))) h

all_apart : (blanks : List ℕ) → list_all is_blank blanks ≡ true → Apart blanks
all_apart [] h = tt
all_apart (b ∷ blanks) h = blank_apart b (and_parts (is_blank b) (list_all is_blank blanks) h).0

symbol_apart : (k : Token) (text rest : List ℕ) → SpellsToken k text → is_symbol k ≡ true → Apart (text ++ rest)
symbol_apart (token.Int n) text rest s h = absurd (false≢true h)
symbol_apart (token.Str n) text rest s h = absurd (false≢true h)
symbol_apart (token.Name n) text rest s h = absurd (false≢true h)
symbol_apart token.LeftBracket text rest s h = absurd (false≢true h)
symbol_apart token.LeftParen text rest s h = subst (λ (l : List ℕ). Apart (l ++ rest)) (sym s) refl
symbol_apart token.RightParen text rest s h = subst (λ (l : List ℕ). Apart (l ++ rest)) (sym s) refl
symbol_apart token.RightBracket text rest s h = subst (λ (l : List ℕ). Apart (l ++ rest)) (sym s) refl
symbol_apart token.Comma text rest s h = subst (λ (l : List ℕ). Apart (l ++ rest)) (sym s) refl

behind_blanks : (blanks l : List ℕ) → list_all is_blank blanks ≡ true → Apart l → Apart (blanks ++ l)
behind_blanks [] l h a = a
behind_blanks (b ∷ blanks) l h a = blank_apart b (and_parts (is_blank b) (list_all is_blank blanks) h).0

abbrev FirstSymbol : List Token → Type 0
FirstSymbol [] = Unit {0}
FirstSymbol (k ∷ ks) = is_symbol k ≡ true

-- the bytes of tokens whose first is a symbol, or of no tokens
spaced_apart : (ks : List Token) (bytes : List ℕ) → Spaced ks bytes → FirstSymbol ks → Apart bytes
spaced_apart [] bytes s h = all_apart bytes s
spaced_apart (k ∷ ks) bytes s h =
    let regrouped : bytes ≡ s.0 ++ (s.1 ++ s.2) = s.3 ∙ append_assoc s.0 s.1 s.2 in
    subst Apart (sym regrouped) (behind_blanks s.0 (s.1 ++ s.2) s.4 (symbol_apart k s.1 s.2 s.5 h))

further_first : (bs : List Bracket) (ks : List Token) → accepts (record { expect = expect.Further; brackets = bs }) ks ≡ true → FirstSymbol ks
further_first bs [] h = tt
further_first bs (k ∷ ks) h = further_symbol bs k (and_parts (allows (record { expect = expect.Further; brackets = bs }) (kind_of_token k)) (accepts (after (record { expect = expect.Further; brackets = bs }) k) ks) h).0

named_first : (bs : List Bracket) (ks : List Token) → accepts (record { expect = expect.Named; brackets = bs }) ks ≡ true → FirstSymbol ks
named_first bs [] h = tt
named_first bs (k ∷ ks) h = named_symbol bs k (and_parts (allows (record { expect = expect.Named; brackets = bs }) (kind_of_token k)) (accepts (after (record { expect = expect.Named; brackets = bs }) k) ks) h).0

follows : (s : Shape) (k : Token) (ks : List Token) (rest : List ℕ) → accepts (after s k) ks ≡ true → Spaced ks rest → Follows k rest
follows s (token.Int n) ks rest h p = spaced_apart ks rest p (further_first s.brackets ks h)
follows s (token.Name n) ks rest h p = spaced_apart ks rest p (named_first s.brackets ks h)
follows s (token.Str n) ks rest h p = tt
follows s token.LeftParen ks rest h p = tt
follows s token.RightParen ks rest h p = tt
follows s token.LeftBracket ks rest h p = tt
follows s token.RightBracket ks rest h p = tt
follows s token.Comma ks rest h p = tt

makes_found : (s : Shape) (total b : ℕ) (l : List ℕ) (k : Token) (rest : List ℕ) → allows s (kind_of b) ≡ true → token_of (kind_of b) total (b ∷ l) ≡ Ok (k, rest) → next_at s total (b ∷ l) ≡ Makes k rest
makes_found s total b l k rest h e =
    ap (λ v. cond v (made (token_of (kind_of b) total (b ∷ l))) (Ends (Some (Syntax (total - length (b ∷ l)))))) h ∙ ap made e

next_found : (s : Shape) (total : ℕ) (bytes : List ℕ) (k : Token) (ks : List Token) → allows s (kind_of_token k) ≡ true → accepts (after s k) ks ≡ true → (p : Spaced (k ∷ ks) bytes) → next_of s total bytes ≡ Makes k p.2
next_found s total bytes k ks h a p =
    let text = p.1 in
    let rest = p.2 in
    let b = begun k text p.5 in
    let l = b.1 ++ rest in
    let at : text ++ rest ≡ b.0 ∷ l = ap (λ (m : List ℕ). m ++ rest) b.2 in
    let regrouped : bytes ≡ p.0 ++ (b.0 ∷ l) = p.3 ∙ append_assoc p.0 text rest ∙ ap (λ (m : List ℕ). p.0 ++ m) at in
    let reached : skip_blanks bytes ≡ b.0 ∷ l = ap skip_blanks regrouped ∙ skipped p.0 b.0 l p.4 b.4 in
    let token : token_of (kind_of b.0) total (b.0 ∷ l) ≡ Ok (k, rest) =
    ap (λ (n : Kind). token_of n total (b.0 ∷ l)) b.3 ∙ ap (λ (m : List ℕ). token_of (kind_of_token k) total m) (sym at) ∙ token_complete total k text rest p.5 (follows s k ks rest a p.6) in
    ap (next_at s total) reached ∙ makes_found s total b.0 l k rest (ap (allows s) b.3 ∙ h) token

pub runs_complete : (ks : List Token) (s : Shape) (total : ℕ) (bytes : List ℕ) → accepts s ks ≡ true → Spaced ks bytes → Runs s total bytes ks None
runs_complete [] s total bytes h p = ap (next_at s total) (all_skipped bytes p) ∙ ap (λ v. cond v (Ends None) (Ends (Some (Syntax total)))) h
runs_complete (k ∷ ks) s total bytes h p =
    let q = and_parts (allows s (kind_of_token k)) (accepts (after s k) ks) h in
    (p.2, next_found s total bytes k ks q.0 q.1 p, runs_complete ks (after s k) total p.2 q.1 p.6)

pub reads_scans : (bytes : List ℕ) (t : Term) → Reads bytes t → Scans bytes (tokens_of t) None
reads_scans bytes t r = runs_complete (tokens_of t) start (length bytes) bytes (accepts-tokens_of t) r

-- a source parses as at most one term
pub reads_one : (bytes : List ℕ) (t u : Term) → Reads bytes t → Reads bytes u → t ≡ u
reads_one bytes t u r q =
    tokens_of-injective t u (runs_same (tokens_of t) (tokens_of u) start (length bytes) bytes None None (reads_scans bytes t r) (reads_scans bytes u q)).0
