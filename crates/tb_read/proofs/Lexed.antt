-- The bytes of a found token spell it, and a source that is scanned to its end spells its tokens.
use Rattle.std.proofs.Common.{◌≡◌, ℕ, ℤ, pos, neg_ℤ, ◌-◌, ◌^◌, ◌≤◌, ◌<◌, Bool, true, false, ◌&&◌, ◌||◌, cond, eqb, leb, ltb, List, [], ◌∷◌, ◌++◌, length, take, drop, Option, Some, None, Result, Ok, Err, refl, ap, sym, ◌∙◌, subst, inl, inr, arith, append_assoc, append-nil}
use Rattle.std.proofs.lemmas.Bool.{false≢true, eqb-true}
use Rattle.std.proofs.lemmas.Bool.Decides.{nat_tests}
use Rattle.std.proofs.lemmas.List.{take-append-drop}
use Rattle.std.specs.List.{list_all, prefix_len}
use Rattle.tb_terms.specs.Names.{is_digit, is_name_byte}
use Rattle.tb_read.specs.declared.quoted.Within.TheVariants.{Between}
use Rattle.tb_read.specs.declared.fault.TermFault.{TermFault}
use Rattle.tb_read.specs.declared.fault.TermFault.TheVariants.{Syntax, Real}
use Rattle.tb_read.specs.declared.token.Token.{Token}
use Rattle.tb_read.specs.declared.token.Token.TheVariants as token
use Rattle.tb_read.specs.declared.kind.Kind.{Kind}
use Rattle.tb_read.specs.declared.kind.Kind.TheVariants as kind
use Rattle.tb_read.specs.declared.shape.Shape.{Shape}
use Rattle.tb_read.specs.Spelling.{is_blank, is_digits, digits_value, SpellsNumber, SpellsString, SpellsToken, Spaced}
use Rattle.tb_read.specs.Lexing.{skip_blanks, string_rest, string_of, name_at, is_real, number_of, in_range, number_from, number_at, kind_of, token_of}
use Rattle.tb_read.specs.Helpers.Answers.{begins_with}
use Rattle.tb_read.specs.Scanning.{Next, Makes, Ends, allows, after, may_end, made, next_at, Runs}
use Rattle.tb_read.proofs.Names.{all_of_prefix, is_name_prefix}
use Rattle.tb_read.proofs.Scalars.{string_put}
use Rattle.tb_read.proofs.Strings.{string_sound}
use Rattle.tb_read.proofs.Grammar.{kind_of_token, accepts}

abbrev pub Lexed : Type 0
Lexed = Token × List ℕ

-- the bytes begin with a spelling of the token, which is of this kind
abbrev pub Found : List ℕ → Lexed → Kind → Type 0
Found bytes x next = (text : List ℕ) × (bytes ≡ text ++ x.1) × SpellsToken x.0 text × (kind_of_token x.0 ≡ next)

pub ok_same : (x y : Lexed) → ◌≡◌ {A = Result Lexed TermFault} (Ok x) (Ok y) → x ≡ y
ok_same x y e = cc

symbol : (k : Token) (b c : ℕ) (bytes : List ℕ) (x : Lexed) → eqb b c ≡ true → SpellsToken k (c ∷ []) → ◌≡◌ {A = Result Lexed TermFault} (Ok (k, bytes)) (Ok x) → Found (b ∷ bytes) x (kind_of_token k)
symbol k b c bytes x same s e =
    subst (λ (y : Lexed). Found (b ∷ bytes) y (kind_of_token k)) (ok_same (k, bytes) x e) (c ∷ [], ap (λ n. n ∷ bytes) (eqb-true b c same), s, refl)

name_sound : (bytes : List ℕ) (x : Lexed) → begins_with kind.Name bytes ≡ true → name_at bytes ≡ Ok x → Found bytes x kind.Name
name_sound bytes x h e =
    let len = prefix_len is_name_byte bytes in
    subst (λ (y : Lexed). Found bytes y kind.Name) (ok_same (token.Name (take len bytes), drop len bytes) x e)
    (take len bytes, sym (take-append-drop len bytes), (is_name_prefix bytes h, refl), refl)

abbrev pub NumberFound : Bool → List ℕ → List ℕ → Lexed → Type 0
NumberFound negative digits rest x =
    (z : ℤ) × (x ≡ (token.Int z, rest)) × (is_digits digits ≡ true) × (number_of negative (digits_value digits) ≡ Some z)

number_by : (position : ℕ) (negative : Bool) (digits rest : List ℕ) (x : Lexed) → is_digits digits ≡ true → (r : Bool) (o : Option ℤ) → number_of negative (digits_value digits) ≡ o → ◌≡◌ {A = Result Lexed TermFault} (cond r (Err (Real position)) (in_range position o rest)) (Ok x) → NumberFound negative digits rest x
number_by position negative digits rest x d true o eo e = cc
number_by position negative digits rest x d false None eo e = cc
number_by position negative digits rest x d false (Some z) eo e = (z, sym (ok_same (token.Int z, rest) x e), d, eo)

pub number_from_sound : (total position : ℕ) (negative : Bool) (digits rest : List ℕ) (x : Lexed) → list_all is_digit digits ≡ true → number_from total position negative digits rest ≡ Ok x → NumberFound negative digits rest x
number_from_sound total position negative [] rest x d e = cc
number_from_sound total position negative (digit ∷ digits) rest x d e =
    number_by position negative (digit ∷ digits) rest x d (is_real rest) (number_of negative (digits_value (digit ∷ digits))) refl e

some_by : (b : Bool) (y z : ℤ) → ◌≡◌ {A = Option ℤ} (cond b (Some y) None) (Some z) → (b ≡ true) × (z ≡ y)
some_by true y z e = (refl, cc)
some_by false y z e = cc

le_by : (v n : ℕ) → leb v n ≡ true → v ≤ n
le_by v n e = grind (arith, nat_tests)

lt_by : (v n : ℕ) → ltb v n ≡ true → v < n
lt_by v n e = grind (arith, nat_tests)

pub unsigned_spelled : (digits : List ℕ) (z : ℤ) → is_digits digits ≡ true → number_of false (digits_value digits) ≡ Some z → SpellsNumber z digits
unsigned_spelled digits z d e =
    let p = some_by (ltb (digits_value digits) (2 ^ 63)) (pos (digits_value digits)) z e in
    record { digits = digits; are_digits = d; signed = inl (refl, p.1, lt_by (digits_value digits) (2 ^ 63) p.0) }

pub signed_spelled : (digits : List ℕ) (z : ℤ) → is_digits digits ≡ true → number_of true (digits_value digits) ≡ Some z → SpellsNumber z (45 ∷ digits)
signed_spelled digits z d e =
    let p = some_by (leb (digits_value digits) (2 ^ 63)) (neg_ℤ (pos (digits_value digits))) z e in
    record { digits = digits; are_digits = d; signed = inr (refl, p.1, le_by (digits_value digits) (2 ^ 63) p.0) }

number_sound : (total : ℕ) (bytes : List ℕ) (x : Lexed) → number_at total bytes ≡ Ok x → Found bytes x kind.Int
number_sound total [] x e = cc
number_sound total (b ∷ bytes) x e = by (eqb b 45) refl e where
  position : ℕ
  position = total - length (b ∷ bytes)

  unsigned : (l : List ℕ) → number_from total (total - length (b ∷ bytes)) false (take (prefix_len is_digit l) l) (drop (prefix_len is_digit l) l) ≡ Ok x → Found l x kind.Int
  unsigned l h =
      let len = prefix_len is_digit l in
      let f = number_from_sound total (total - length (b ∷ bytes)) false (take len l) (drop len l) x (all_of_prefix is_digit l) h in
      subst (λ (y : Lexed). Found l y kind.Int) (sym f.1) (take len l, sym (take-append-drop len l), unsigned_spelled (take len l) f.0 f.2 f.3, refl)

  signed : (l : List ℕ) → number_from total (total - length (b ∷ bytes)) true (take (prefix_len is_digit l) l) (drop (prefix_len is_digit l) l) ≡ Ok x → Found (45 ∷ l) x kind.Int
  signed l h =
      let len = prefix_len is_digit l in
      let f = number_from_sound total (total - length (b ∷ bytes)) true (take len l) (drop len l) x (all_of_prefix is_digit l) h in
      subst (λ (y : Lexed). Found (45 ∷ l) y kind.Int) (sym f.1) (45 ∷ take len l, ap (λ m. 45 ∷ m) (sym (take-append-drop len l)), signed_spelled (take len l) f.0 f.2 f.3, refl)

  by : (v : Bool) → eqb b 45 ≡ v → number_from total (total - length (b ∷ bytes)) v (take (prefix_len is_digit (drop (cond v 1 0) (b ∷ bytes))) (drop (cond v 1 0) (b ∷ bytes))) (drop (prefix_len is_digit (drop (cond v 1 0) (b ∷ bytes))) (drop (cond v 1 0) (b ∷ bytes))) ≡ Ok x → Found (b ∷ bytes) x kind.Int
  by true ev h = subst (λ n. Found (n ∷ bytes) x kind.Int) (sym (eqb-true b 45 ev)) (signed bytes h)
  by false ev h = unsigned (b ∷ bytes) h

string_found : (total : ℕ) (q : ℕ) (bytes : List ℕ) (x : Lexed) → eqb q 34 ≡ true → (y : List ℕ × List ℕ) → string_rest total Between bytes ≡ Ok y → ◌≡◌ {A = Result Lexed TermFault} (Ok (token.Str y.0, y.1)) (Ok x) → Found (q ∷ bytes) x kind.Str
string_found total q bytes x h y r e =
    let found = string_sound total bytes Between tt y r in
    let inner = found.0 in
    let regrouped : ((34 ∷ inner) ++ (34 ∷ [])) ++ y.1 ≡ 34 ∷ (inner ++ (34 ∷ y.1)) = append_assoc (34 ∷ inner) (34 ∷ []) y.1 in
    let at : q ∷ bytes ≡ ((34 ∷ inner) ++ (34 ∷ [])) ++ y.1 = ap (λ n. n ∷ bytes) (eqb-true q 34 h) ∙ ap (λ l. 34 ∷ l) found.1 ∙ sym regrouped in
    let spelled : SpellsString y.0 ((34 ∷ inner) ++ (34 ∷ [])) = record { is = string_put total bytes y r; inner = inner; quoted = refl; spelled = found.2 } in
    subst (λ (z : Lexed). Found (q ∷ bytes) z kind.Str) (ok_same (token.Str y.0, y.1) x e) ((34 ∷ inner) ++ (34 ∷ []), at, spelled, refl)

string_of_sound : (total : ℕ) (q : ℕ) (bytes : List ℕ) (x : Lexed) → eqb q 34 ≡ true → (r : Result (List ℕ × List ℕ) TermFault) → string_rest total Between bytes ≡ r → string_of r ≡ Ok x → Found (q ∷ bytes) x kind.Str
string_of_sound total q bytes x h (Err f) r e = cc
string_of_sound total q bytes x h (Ok y) r e = string_found total q bytes x h y r e

pub token_sound : (next : Kind) (total : ℕ) (bytes : List ℕ) (x : Lexed) → begins_with next bytes ≡ true → token_of next total bytes ≡ Ok x → Found bytes x next
token_sound next total [] x h e = absurd (false≢true h)
token_sound kind.LeftParen total (b ∷ bytes) x h e = symbol token.LeftParen b 40 bytes x h refl e
token_sound kind.RightParen total (b ∷ bytes) x h e = symbol token.RightParen b 41 bytes x h refl e
token_sound kind.LeftBracket total (b ∷ bytes) x h e = symbol token.LeftBracket b 91 bytes x h refl e
token_sound kind.RightBracket total (b ∷ bytes) x h e = symbol token.RightBracket b 93 bytes x h refl e
token_sound kind.Comma total (b ∷ bytes) x h e = symbol token.Comma b 44 bytes x h refl e
token_sound kind.Str total (b ∷ bytes) x h e = string_of_sound total b bytes x h (string_rest total Between bytes) refl e
token_sound kind.Name total (b ∷ bytes) x h e = name_sound (b ∷ bytes) x h e
token_sound kind.Int total (b ∷ bytes) x h e = number_sound total (b ∷ bytes) x e
token_sound kind.Other total (b ∷ bytes) x h e = cc

kind_begins_by : (b : ℕ) (bytes : List ℕ) (p q r s t u v w : Bool) → eqb b 40 ≡ p → eqb b 41 ≡ q → eqb b 91 ≡ r → eqb b 93 ≡ s → eqb b 44 ≡ t → eqb b 34 ≡ u → (leb 97 b && leb b 122) ≡ v → (is_digit b || eqb b 45) ≡ w → begins_with (cond p kind.LeftParen (cond q kind.RightParen (cond r kind.LeftBracket (cond s kind.RightBracket (cond t kind.Comma (cond u kind.Str (cond v kind.Name (cond w kind.Int kind.Other)))))))) (b ∷ bytes) ≡ true
kind_begins_by b bytes true q r s t u v w ep eq er es et eu ev ew = ep
kind_begins_by b bytes false true r s t u v w ep eq er es et eu ev ew = eq
kind_begins_by b bytes false false true s t u v w ep eq er es et eu ev ew = er
kind_begins_by b bytes false false false true t u v w ep eq er es et eu ev ew = es
kind_begins_by b bytes false false false false true u v w ep eq er es et eu ev ew = et
kind_begins_by b bytes false false false false false true v w ep eq er es et eu ev ew = eu
kind_begins_by b bytes false false false false false false true w ep eq er es et eu ev ew = ev
kind_begins_by b bytes false false false false false false false true ep eq er es et eu ev ew = ew
kind_begins_by b bytes false false false false false false false false ep eq er es et eu ev ew = refl

pub kind_begins : (b : ℕ) (bytes : List ℕ) → begins_with (kind_of b) (b ∷ bytes) ≡ true
kind_begins b bytes = kind_begins_by b bytes (eqb b 40) (eqb b 41) (eqb b 91) (eqb b 93) (eqb b 44) (eqb b 34) (leb 97 b && leb b 122) (is_digit b || eqb b 45) refl refl refl refl refl refl refl refl

-- the whitespace before a token
blanks_by : (b : ℕ) (bytes blanks : List ℕ) → bytes ≡ blanks ++ skip_blanks bytes → list_all is_blank blanks ≡ true → (v : Bool) → is_blank b ≡ v → (prefix : List ℕ) × (b ∷ bytes ≡ prefix ++ cond v (skip_blanks bytes) (b ∷ bytes)) × (list_all is_blank prefix ≡ true)
blanks_by b bytes blanks e h true ev = (b ∷ blanks, ap (λ l. b ∷ l) e, rw ev h)
blanks_by b bytes blanks e h false ev = ([], refl, refl)

pub blanks : (bytes : List ℕ) → (prefix : List ℕ) × (bytes ≡ prefix ++ skip_blanks bytes) × (list_all is_blank prefix ≡ true)
blanks [] = ([], refl, refl)
blanks (b ∷ bytes) = let p = blanks bytes in blanks_by b bytes p.0 p.1 p.2 (is_blank b) refl

-- the origin of a next token, or of the end
made_makes : (r : Result Lexed TermFault) (k : Token) (rest : List ℕ) → made r ≡ Makes k rest → r ≡ Ok (k, rest)
made_makes (Ok x) k rest e =
    let a : x.0 ≡ k = cc in
    let b : x.1 ≡ rest = cc in
    let same : ◌≡◌ {A = Lexed} x (k, rest) = ap (λ (t : Token). (t, x.1)) a ∙ ap (λ (l : List ℕ). (k, l)) b in
    ap (λ (y : Lexed). Ok y) same
made_makes (Err f) k rest e = cc

made_ends : (r : Result Lexed TermFault) → made r ≡ Ends None → ⊥
made_ends (Ok x) e = cc
made_ends (Err f) e = cc

pub makes_by : (v : Bool) (r : Result Lexed TermFault) (f : TermFault) (k : Token) (rest : List ℕ) → cond v (made r) (Ends (Some f)) ≡ Makes k rest → (v ≡ true) × (r ≡ Ok (k, rest))
makes_by true r f k rest e = (refl, made_makes r k rest e)
makes_by false r f k rest e = cc

pub ends_by : (v : Bool) (r : Result Lexed TermFault) (f : TermFault) → cond v (made r) (Ends (Some f)) ≡ Ends None → ⊥
ends_by true r f e = made_ends r e
ends_by false r f e = cc

end_by : (v : Bool) (f : TermFault) → cond v (Ends None) (Ends (Some f)) ≡ Ends None → v ≡ true
end_by true f e = refl
end_by false f e = cc

pub not_makes : (v : Bool) (f : TermFault) (k : Token) (rest : List ℕ) → cond v (Ends None) (Ends (Some f)) ≡ Makes k rest → ⊥
not_makes true f k rest e = cc
not_makes false f k rest e = cc

makes_sound : (s : Shape) (total : ℕ) (prefix l : List ℕ) (k : Token) (rest bytes : List ℕ) (ks : List Token) → bytes ≡ prefix ++ l → list_all is_blank prefix ≡ true → next_at s total l ≡ Makes k rest → (accepts (after s k) ks ≡ true) × Spaced ks rest → (accepts s (k ∷ ks) ≡ true) × Spaced (k ∷ ks) bytes
makes_sound s total prefix [] k rest bytes ks e h n more = absurd (not_makes (may_end s.expect s.brackets) (Syntax total) k rest n)
makes_sound s total prefix (b ∷ l) k rest bytes ks e h n more =
    let p = makes_by (allows s (kind_of b)) (token_of (kind_of b) total (b ∷ l)) (Syntax (total - length (b ∷ l))) k rest n in
    let found = token_sound (kind_of b) total (b ∷ l) (k, rest) (kind_begins b l) p.1 in
    let allowed : allows s (kind_of_token k) ≡ true = ap (allows s) found.3 ∙ p.0 in (
      ap (λ v. v && accepts (after s k) ks) allowed ∙ more.0,
      (prefix, found.0, rest, e ∙ ap (λ m. prefix ++ m) found.1 ∙ sym (append_assoc prefix found.0 rest), h, found.2, more.1),
    )

ends_sound : (s : Shape) (total : ℕ) (prefix l bytes : List ℕ) → bytes ≡ prefix ++ l → list_all is_blank prefix ≡ true → next_at s total l ≡ Ends None → (accepts s [] ≡ true) × Spaced [] bytes
ends_sound s total prefix [] bytes e h n = (end_by (may_end s.expect s.brackets) (Syntax total) n, ap (list_all is_blank) (e ∙ append-nil prefix) ∙ h)
ends_sound s total prefix (b ∷ l) bytes e h n = absurd (ends_by (allows s (kind_of b)) (token_of (kind_of b) total (b ∷ l)) (Syntax (total - length (b ∷ l))) n)

pub runs_sound : (ks : List Token) (s : Shape) (total : ℕ) (bytes : List ℕ) → Runs s total bytes ks None → (accepts s ks ≡ true) × Spaced ks bytes
runs_sound [] s total bytes r = let p = blanks bytes in ends_sound s total p.0 (skip_blanks bytes) bytes p.1 p.2 r
runs_sound (k ∷ ks) s total bytes r =
    let p = blanks bytes in
    makes_sound s total p.0 (skip_blanks bytes) k r.0 bytes ks p.1 p.2 r.1 (runs_sound ks (after s k) total r.0 r.2)

-- a scan has one outcome
pub runs_same : (ks js : List Token) (s : Shape) (total : ℕ) (bytes : List ℕ) (e f : Option TermFault) → Runs s total bytes ks e → Runs s total bytes js f → (ks ≡ js) × (e ≡ f)
runs_same [] [] s total bytes e f p q = (refl, let same : ◌≡◌ {A = Next} (Ends e) (Ends f) = sym p ∙ q in cc)
runs_same [] (j ∷ js) s total bytes e f p q = let no : ◌≡◌ {A = Next} (Ends e) (Makes j q.0) = sym p ∙ q.1 in cc
runs_same (k ∷ ks) [] s total bytes e f p q = let no : ◌≡◌ {A = Next} (Makes k p.0) (Ends f) = sym p.1 ∙ q in cc
runs_same (k ∷ ks) (j ∷ js) s total bytes e f p q =
    let same : ◌≡◌ {A = Next} (Makes k p.0) (Makes j q.0) = sym p.1 ∙ q.1 in
    let a : k ≡ j = cc in
    let b : p.0 ≡ q.0 = cc in
    let more : Runs (after s k) total p.0 js f = subst (λ (r : List ℕ). Runs (after s k) total r js f) (sym b) (subst (λ (t : Token). Runs (after s t) total q.0 js f) (sym a) q.2) in
    let rest = runs_same ks js (after s k) total p.0 e f p.2 more in
    (ap (λ (t : Token). t ∷ ks) a ∙ ap (λ (l : List Token). j ∷ l) rest.0, rest.1)
