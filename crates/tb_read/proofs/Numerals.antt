-- At the position of an error of a number are an optional sign and digits, and a number can be there.
use Rattle.std.proofs.Common.{◌≡◌, ℕ, ℤ, pos, neg_ℤ, suc, ◌-◌, ◌^◌, ◌≤◌, ◌<◌, Bool, true, false, ◌⊎◌, cond, eqb, leb, ltb, List, [], ◌∷◌, ◌++◌, length, take, drop, Option, Some, None, Result, Err, refl, ap, sym, ◌∙◌, subst, inl, inr, append_assoc}
use Rattle.std.proofs.lemmas.Bool.{false≢true, eqb-true, and_parts, and_from, lt-ltb, le-leb}
use Rattle.std.proofs.lemmas.List.{take-append-drop}
use Rattle.std.proofs.lemmas.Str.{IsUtf8-nil, is_utf8-from_IsUtf8}
use Rattle.std.specs.List.{list_all, prefix_len}
use Rattle.std.specs.Str.{is_utf8}
use Rattle.tb_terms.specs.Names.{is_digit}
use Rattle.tb_terms.specs.Names.{is_text}
use Rattle.tb_read.specs.declared.quoted.Within.{Within}
use Rattle.tb_read.specs.declared.quoted.Within.TheVariants.{Between}
use Rattle.tb_read.specs.declared.quoted.Turn.{Turn}
use Rattle.tb_read.specs.declared.quoted.Turn.TheVariants.{Ends, Goes, Puts, Bad}
use Rattle.tb_read.specs.declared.fault.TermFault.{TermFault}
use Rattle.tb_read.specs.declared.fault.TermFault.TheVariants as fault
use Rattle.tb_read.specs.declared.token.Token.{Token}
use Rattle.tb_read.specs.declared.token.Token.TheVariants as token
use Rattle.tb_read.specs.declared.kind.Kind.{Kind}
use Rattle.tb_read.specs.declared.kind.Kind.TheVariants as kind
use Rattle.tb_read.specs.declared.shape.Shape.{Shape}
use Rattle.tb_read.specs.declared.shape.Bracket.{Bracket}
use Rattle.tb_read.specs.declared.shape.Bracket.TheVariants.{Paren, Square}
use Rattle.tb_read.specs.declared.shape.Expect.{Expect}
use Rattle.tb_read.specs.declared.shape.Expect.TheVariants as expect
use Rattle.tb_read.specs.Spelling.{is_blank, is_digits, digits_value, SpellsNumber, SpellsToken, Reads}
use Rattle.tb_read.specs.Lexing.{string_turn, string_rest, is_real, number_of, in_range, number_from, number_at, kind_of, token_of}
use Rattle.tb_read.specs.Scanning.{Ends as Stops, allows, expects, may_end, made, next_at, start}
use Rattle.tb_read.specs.Reading.{StopsAt}
use Rattle.tb_read.specs.Positions.{Writes, TakesTerm, signed, IsNumeral, HasPoint, BeginsReal, BeginsTooFar}
use Rattle.tb_read.proofs.Grammar.{kind_of_token}
use Rattle.tb_read.proofs.Names.{all_of_prefix}
use Rattle.tb_read.proofs.Strings.{turned}
use Rattle.tb_read.proofs.Lexed.{Lexed}
use Rattle.tb_read.proofs.Stops.{prefix_err, prefix_stops, made_err, string_of_err}
use Rattle.tb_read.proofs.Begins.{Position, runs_position, continues_with, within_token, spells_zero}

abbrev Pair : Type 0
Pair = List ℕ × List ℕ

-- an error of a number, with a position
abbrev OfNumber : TermFault → Type 0
OfNumber (fault.Real position) = Unit {0}
OfNumber (fault.IntRange position) = Unit {0}
OfNumber _ = ⊥

same_fault : {X : Type 0} (f g : TermFault) → ◌≡◌ {A = Result X TermFault} (Err f) (Err g) → f ≡ g
same_fault f g e = cc

-- A string has no error of a number.

turned_none : (total : ℕ) (bytes : List ℕ) → ((w : Within) (f : TermFault) → string_rest total w bytes ≡ Err f → OfNumber f → ⊥) → (t : Turn) (f : TermFault) → turned total t bytes ≡ Err f → OfNumber f → ⊥
turned_none total bytes rest Ends f e = cc
turned_none total bytes rest (Goes next) f e = rest next f e
turned_none total bytes rest (Puts put next) f e = rest next f (prefix_err (put ∷ []) (string_rest total next bytes) f e)
turned_none total bytes rest Bad f e = λ n. subst OfNumber (sym (same_fault {X = Pair} (fault.Syntax (total - suc (length bytes))) f e)) n

rest_none : (total : ℕ) (bytes : List ℕ) (w : Within) (f : TermFault) → string_rest total w bytes ≡ Err f → OfNumber f → ⊥
rest_none total [] w f e = λ n. subst OfNumber (sym (same_fault {X = Pair} (fault.Syntax total) f e)) n
rest_none total (b ∷ bytes) w f e = turned_none total bytes (rest_none total bytes) (string_turn w b) f e

-- the claim of an error of a number
abbrev Says : TermFault → List ℕ → Type 0
Says (fault.Real position) bytes = BeginsReal bytes
Says (fault.IntRange position) bytes = BeginsTooFar bytes
Says _ bytes = ⊥

abbrev position_in : TermFault → ℕ
position_in (fault.Real position) = position
position_in (fault.IntRange position) = position
position_in _ = 0

pub point : (rest : List ℕ) → is_real rest ≡ true → HasPoint rest
point [] e = absurd (false≢true e)
point (b ∷ []) e = absurd (false≢true e)
point (b ∷ c ∷ rest) e =
    let p = and_parts (eqb b 46) (is_digit c) e in
    (c, rest, ap (λ n. n ∷ c ∷ rest) (eqb-true b 46 p.0), p.1)

pub no_point : (rest : List ℕ) → is_real rest ≡ false → HasPoint rest → ⊥
no_point rest e p =
    let yes : is_real rest ≡ true = ap is_real p.2 ∙ p.3 in
    false≢true (sym e ∙ yes)

pub sign_no_digit : (digits other : List ℕ) → 45 ∷ digits ≡ other → is_digits other ≡ true → ⊥
sign_no_digit digits [] e d = cc
sign_no_digit digits (x ∷ other) e d =
    let same : x ≡ 45 = cc in
    let p = and_parts (is_digit x) (list_all is_digit other) d in
    let no_digit : is_digit 45 ≡ true = subst (λ n. is_digit n ≡ true) same p.0 in
    false≢true no_digit

digits_no_sign : (digits other : List ℕ) → digits ≡ 45 ∷ other → is_digits digits ≡ true → ⊥
digits_no_sign digits other e d = sign_no_digit other digits (sym e) d

none_held : (b : Bool) (z : ℤ) → b ≡ true → ◌≡◌ {A = Option ℤ} (cond b (Some z) None) None → ⊥
none_held true z h e = cc
none_held false z h e = false≢true h

pub too_far : (negative : Bool) (digits : List ℕ) → is_digits digits ≡ true → number_of negative (digits_value digits) ≡ None → (z : ℤ) → SpellsNumber z (signed negative digits) → ⊥
too_far true digits d o z s = by s.signed where
  by : ((45 ∷ digits ≡ s.digits) × (z ≡ pos (digits_value s.digits)) × (digits_value s.digits < 2 ^ 63)) ⊎ ((45 ∷ digits ≡ 45 ∷ s.digits) × (z ≡ neg_ℤ (pos (digits_value s.digits))) × (digits_value s.digits ≤ 2 ^ 63)) → ⊥
  by (inl p) = sign_no_digit digits s.digits p.0 s.are_digits
  by (inr p) =
      let same : digits ≡ s.digits = cc in
      let within : digits_value digits ≤ 2 ^ 63 = subst (λ (l : List ℕ). digits_value l ≤ 2 ^ 63) (sym same) p.2 in
      none_held (leb (digits_value digits) (2 ^ 63)) (neg_ℤ (pos (digits_value digits))) (le-leb (digits_value digits) (2 ^ 63) within) o
too_far false digits d o z s = by s.signed where
  by : ((digits ≡ s.digits) × (z ≡ pos (digits_value s.digits)) × (digits_value s.digits < 2 ^ 63)) ⊎ ((digits ≡ 45 ∷ s.digits) × (z ≡ neg_ℤ (pos (digits_value s.digits))) × (digits_value s.digits ≤ 2 ^ 63)) → ⊥
  by (inl p) =
      let within : digits_value digits < 2 ^ 63 = subst (λ (l : List ℕ). digits_value l < 2 ^ 63) (sym p.0) p.2 in
      none_held (ltb (digits_value digits) (2 ^ 63)) (pos (digits_value digits)) (lt-ltb (digits_value digits) (2 ^ 63) within) o
  by (inr p) = digits_no_sign digits s.digits p.0 d

-- the claim, for a number with these digits and this rest
from_says : (total position : ℕ) (negative : Bool) (digits rest bytes : List ℕ) (f : TermFault) → OfNumber f → bytes ≡ signed negative digits ++ rest → list_all is_digit digits ≡ true → prefix_len is_digit rest ≡ 0 → number_from total position negative digits rest ≡ Err f → (position_in f ≡ position) × Says f bytes
from_says total position negative [] rest bytes f n e d a g = absurd (subst OfNumber (sym (same_fault {X = Lexed} (fault.Syntax (total - length rest)) f g)) n)
from_says total position negative (y ∷ digits) rest bytes f n e d a g = by (is_real rest) (number_of negative (digits_value (y ∷ digits))) refl refl g where
  numeral : IsNumeral negative (y ∷ digits) rest bytes
  numeral = record { parts = e; are_digits = d; are_all = a }

  by : (v : Bool) (o : Option ℤ) → is_real rest ≡ v → number_of negative (digits_value (y ∷ digits)) ≡ o → ◌≡◌ {A = Result Lexed TermFault} (cond v (Err (fault.Real position)) (in_range position o rest)) (Err f) → (position_in f ≡ position) × Says f bytes
  by true o ev eo h =
      subst (λ (k : TermFault). (position_in k ≡ position) × Says k bytes) (same_fault {X = Lexed} (fault.Real position) f h)
      (refl, (negative, y ∷ digits, rest, numeral, point rest ev))
  by false None ev eo h =
      subst (λ (k : TermFault). (position_in k ≡ position) × Says k bytes) (same_fault {X = Lexed} (fault.IntRange position) f h)
      (refl, (negative, y ∷ digits, rest, numeral, no_point rest ev, too_far negative (y ∷ digits) d eo))
  by false (Some z) ev eo h = cc

number_says : (total b : ℕ) (bytes : List ℕ) (f : TermFault) → OfNumber f → number_at total (b ∷ bytes) ≡ Err f → (position_in f ≡ total - length (b ∷ bytes)) × Says f (b ∷ bytes)
number_says total b bytes f n e = by (eqb b 45) refl e where
  by : (v : Bool) → eqb b 45 ≡ v → number_from total (total - length (b ∷ bytes)) v (take (prefix_len is_digit (drop (cond v 1 0) (b ∷ bytes))) (drop (cond v 1 0) (b ∷ bytes))) (drop (prefix_len is_digit (drop (cond v 1 0) (b ∷ bytes))) (drop (cond v 1 0) (b ∷ bytes))) ≡ Err f → (position_in f ≡ total - length (b ∷ bytes)) × Says f (b ∷ bytes)
  by true ev g =
      let len = prefix_len is_digit bytes in
      let at : b ∷ bytes ≡ signed true (take len bytes) ++ drop len bytes = ap (λ m. m ∷ bytes) (eqb-true b 45 ev) ∙ ap (λ (m : List ℕ). 45 ∷ m) (sym (take-append-drop len bytes)) in
      from_says total (total - length (b ∷ bytes)) true (take len bytes) (drop len bytes) (b ∷ bytes) f n at (all_of_prefix is_digit bytes) (prefix_stops is_digit bytes) g
  by false ev g =
      let l = b ∷ bytes in
      let len = prefix_len is_digit l in
      from_says total (total - length l) false (take len l) (drop len l) l f n (sym (take-append-drop len l)) (all_of_prefix is_digit l) (prefix_stops is_digit l) g

-- a token with an error of a number is a number
token_says : (next : Kind) (total b : ℕ) (bytes : List ℕ) (f : TermFault) → OfNumber f → token_of next total (b ∷ bytes) ≡ Err f → (next ≡ kind.Int) × (position_in f ≡ total - length (b ∷ bytes)) × Says f (b ∷ bytes)
token_says kind.LeftParen total b bytes f n e = cc
token_says kind.RightParen total b bytes f n e = cc
token_says kind.LeftBracket total b bytes f n e = cc
token_says kind.RightBracket total b bytes f n e = cc
token_says kind.Comma total b bytes f n e = cc
token_says kind.Name total b bytes f n e = cc
token_says kind.Int total b bytes f n e = let r = number_says total b bytes f n e in (refl, r.0, r.1)
token_says kind.Str total b bytes f n e = absurd (rest_none total bytes Between f (string_of_err (string_rest total Between bytes) f e) n)
token_says kind.Other total b bytes f n e = absurd (subst OfNumber (sym (same_fault {X = Lexed} (fault.Syntax (total - length (b ∷ bytes))) f e)) n)

stops_fault : (f g : TermFault) → Stops (Some f) ≡ Stops (Some g) → f ≡ g
stops_fault f g e = cc

end_none : (v : Bool) (total : ℕ) (f : TermFault) → OfNumber f → cond v (Stops None) (Stops (Some (fault.Syntax total))) ≡ Stops (Some f) → ⊥
end_none true total f n e = cc
end_none false total f n e = subst OfNumber (sym (stops_fault (fault.Syntax total) f e)) n

-- a token that can be wherever a number can be
pub record IsLikeNumber (k : Token) (text : List ℕ) : Type 0 where
  pub allowed : (s : Shape) → allows s kind.Int ≡ true → allows s (kind_of_token k) ≡ true
  pub spelled : SpellsToken k (text ++ [])

number_position : (k : Token) (text : List ℕ) → IsLikeNumber k text → (f : TermFault) → OfNumber f → (s : Shape) (total : ℕ) (bytes prefix l : List ℕ) → bytes ≡ prefix ++ l → list_all is_blank prefix ≡ true → next_at s total l ≡ Stops (Some f) → Position (Says f) text s total bytes (position_in f)
number_position k text like f n s total bytes prefix [] e h r = absurd (end_none (may_end s.expect s.brackets) total f n r)
number_position k text like f n s total bytes prefix (b ∷ l) e h r = by (allows s (kind_of b)) refl r where
  by : (v : Bool) → allows s (kind_of b) ≡ v → cond v (made (token_of (kind_of b) total (b ∷ l))) (Stops (Some (fault.Syntax (total - length (b ∷ l))))) ≡ Stops (Some f) → Position (Says f) text s total bytes (position_in f)
  by false ev q = absurd (subst OfNumber (sym (stops_fault (fault.Syntax (total - length (b ∷ l))) f q)) n)
  by true ev q =
      let t = token_says (kind_of b) total b l f n (made_err (token_of (kind_of b) total (b ∷ l)) f q) in
      let allowed : allows s kind.Int ≡ true = ap (allows s) (sym t.0) ∙ ev in
      (prefix, b ∷ l, e, t.1, t.2, within_token s prefix k text [] h (like.allowed s allowed) like.spelled)

number_takes : (k : Token) (text : List ℕ) → IsLikeNumber k text → (bytes : List ℕ) (f : TermFault) → OfNumber f → StopsAt bytes f → Writes text bytes (position_in f) × Says f (drop (position_in f) bytes)
number_takes k text like bytes f n r =
    let p = position_in f in
    let g = continues_with (Says f) text bytes p (runs_position (Says f) text f p (number_position k text like f n) r.0 start (length bytes) bytes r.1) in (
      (g.2.0, g.2.1, subst (λ (m : List ℕ). Reads m g.2.1) (append_assoc (take p bytes) text g.2.0) g.2.2),
      g.1,
    )

like_zero : IsLikeNumber (token.Int (pos 0)) (48 ∷ [])
like_zero = record { allowed = λ s a. a; spelled = spells_zero }

string_expected : (e : Expect) (bs : List Bracket) → expects e bs kind.Int ≡ true → expects e bs kind.Str ≡ true
string_expected expect.Term bs a = refl
string_expected expect.First bs a = refl
string_expected expect.Further [] a = a
string_expected expect.Further (Paren ∷ bs) a = a
string_expected expect.Further (Square ∷ bs) a = a
string_expected expect.Named [] a = a
string_expected expect.Named (Paren ∷ bs) a = a
string_expected expect.Named (Square ∷ bs) a = a

like_empty : IsLikeNumber (token.Str []) (34 ∷ 34 ∷ [])
like_empty =
    record { allowed = λ s a. string_expected s.expect s.brackets a; spelled = record { is = and_from (is_utf8 []) (is_text []) (is_utf8-from_IsUtf8 [] IsUtf8-nil) refl; inner = []; quoted = refl; spelled = refl } }

numeral_fault : (bytes : List ℕ) (f : TermFault) → OfNumber f → StopsAt bytes f → TakesTerm bytes (position_in f) × Says f (drop (position_in f) bytes)
numeral_fault bytes f n r =
    let number = number_takes (token.Int (pos 0)) (48 ∷ []) like_zero bytes f n r in
    ((number.0, (number_takes (token.Str []) (34 ∷ 34 ∷ []) like_empty bytes f n r).0), number.1)

pub real_fault : (bytes : List ℕ) (p : ℕ) → StopsAt bytes (fault.Real p) → TakesTerm bytes p × BeginsReal (drop p bytes)
real_fault bytes p r = numeral_fault bytes (fault.Real p) tt r

pub range_fault : (bytes : List ℕ) (p : ℕ) → StopsAt bytes (fault.IntRange p) → TakesTerm bytes p × BeginsTooFar (drop p bytes)
range_fault bytes p r = numeral_fault bytes (fault.IntRange p) tt r
