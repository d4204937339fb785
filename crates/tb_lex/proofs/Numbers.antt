-- The number with which bytes begin.
use Rattle.std.proofs.Common.{◌≡◌, ℕ, ℤ, pos, neg_ℤ, ◌-◌, ◌^◌, ◌≤◌, ◌<◌, Bool, true, false, ◌⊎◌, cond, eqb, List, [], ◌∷◌, ◌++◌, length, take, drop, Option, Some, None, Ok, Err, refl, ap, sym, ◌∙◌, subst, inl, inr}
use Rattle.std.proofs.lemmas.Bool.{false≢true, eqb-true, and_parts, and_from, lt-ltb, le-leb}
use Rattle.std.proofs.Math.Seq.{take-append_seam, drop-append_seam}
use Rattle.std.proofs.lemmas.List.{take-append-drop}
use Rattle.std.proofs.lemmas.List.Folds.{list_all-append}
use Rattle.std.specs.List.{list_all, prefix_len}
use Rattle.tb_terms.specs.Names.{is_digit}
use Rattle.tb_read.specs.Spelling.{is_digits, digits_value, SpellsNumber}
use Rattle.tb_read.specs.Lexing.{is_real, number_of}
use Rattle.tb_read.specs.Positions.{signed, HasPoint, BeginsReal, BeginsTooFar}
use Rattle.tb_read.proofs.Names.{all_of_prefix}
use Rattle.tb_read.proofs.Lexed.{unsigned_spelled, signed_spelled}
use Rattle.tb_read.proofs.Complete.{prefix_all, digit_unsigned}
use Rattle.tb_read.proofs.Stops.{prefix_stops}
use Rattle.tb_read.proofs.Numerals.{point}
use Rattle.tb_lex.specs.Tokens.{IsNumeral, IsPiece, IsLongest}
use Rattle.tb_lex.specs.Helpers.Scanning.{Read, head_of, in_range, number_from, number_at}
use Rattle.tb_lex.specs.declared.head.Head.TheVariants as head
use Rattle.tb_lex.specs.declared.kind.TokenKind.TheVariants as kind
use Rattle.tb_lex.specs.declared.fault.LexFault.TheVariants as fault
use Rattle.tb_lex.proofs.Prefixes.{all_behind, none_more, stops_by}
use Rattle.tb_lex.proofs.Heads.{PieceOf, digit_head, piece_of}

-- only digits follow the first byte of a numeral
digits_tail : (t digits : List ℕ) (b : ℕ) → b ∷ t ≡ digits → is_digits digits ≡ true → list_all is_digit t ≡ true
digits_tail t [] b e h = absurd (false≢true h)
digits_tail t (d ∷ digits) b e h =
    let same : t ≡ digits = cc in
    ap (list_all is_digit) same ∙ (and_parts (is_digit d) (list_all is_digit digits) h).1

all_digits : (digits : List ℕ) → is_digits digits ≡ true → list_all is_digit digits ≡ true
all_digits [] h = absurd (false≢true h)
all_digits (d ∷ digits) h = h

numeral_tail : (b : ℕ) (t : List ℕ) → IsNumeral (b ∷ t) → list_all is_digit t ≡ true
numeral_tail b t (true, digits, e, h) =
    let same : t ≡ digits = cc in
    ap (list_all is_digit) same ∙ all_digits digits h
numeral_tail b t (false, digits, e, h) = digits_tail t digits b e h

-- the first byte of a numeral
abbrev pub NumeralHead : List ℕ → Type 0
NumeralHead text = (b : ℕ) × (t : List ℕ) × (text ≡ b ∷ t) × (head_of b ≡ head.Numeral)

digits_head : (text digits : List ℕ) → text ≡ digits → is_digits digits ≡ true → NumeralHead text
digits_head text [] e h = absurd (false≢true h)
digits_head text (d ∷ digits) e h = (d, digits, e, digit_head d (and_parts (is_digit d) (list_all is_digit digits) h).0)

pub numeral_head : (text : List ℕ) → IsNumeral text → NumeralHead text
numeral_head text (true, digits, e, h) = (45, digits, e, refl)
numeral_head text (false, digits, e, h) = digits_head text digits e h

pub numeral_longest : (text rest : List ℕ) → IsNumeral text → prefix_len is_digit rest ≡ 0 → IsLongest text rest
numeral_longest text rest n s more tail e p =
    let q = numeral_head text n in
    let b = q.0 in
    let t = q.1 in
    let whole : IsPiece (b ∷ (t ++ more)) = subst (λ (l : List ℕ). IsPiece (l ++ more)) q.2 p in
    let numeral : IsNumeral (b ∷ (t ++ more)) = subst (λ k. PieceOf k (b ∷ (t ++ more))) q.3 (piece_of b (t ++ more) whole) in
    none_more is_digit more tail (ap (prefix_len is_digit) (sym e) ∙ s) (all_behind is_digit t more (numeral_tail b (t ++ more) numeral))

more_digits : (digits : List ℕ) (x : ℕ) → is_digits digits ≡ true → is_digit x ≡ true → is_digits (digits ++ (x ∷ [])) ≡ true
more_digits [] x h e = absurd (false≢true h)
more_digits (d ∷ digits) x h e = list_all-append is_digit (d ∷ digits) (x ∷ []) ∙ and_from (list_all is_digit (d ∷ digits)) (list_all is_digit (x ∷ [])) h (and_from (is_digit x) true e refl)

signed_more : (negative : Bool) (digits more : List ℕ) → signed negative digits ++ more ≡ signed negative (digits ++ more)
signed_more true digits more = refl
signed_more false digits more = refl

cons_nil : (x : ℕ) → x ∷ [] ≡ [] → ⊥
cons_nil x e = cc

pub numeral_stops : (text rest : List ℕ) → IsNumeral text → IsLongest text rest → prefix_len is_digit rest ≡ 0
numeral_stops text rest n l =
    stops_by is_digit rest (λ x tail e ok.
    let longer : IsNumeral (text ++ (x ∷ [])) = (n.0, n.1 ++ (x ∷ []), ap (λ (m : List ℕ). m ++ (x ∷ [])) n.2 ∙ signed_more n.0 n.1 (x ∷ []), more_digits n.1 x n.3 ok) in
    cons_nil x (l (x ∷ []) tail e (inl longer)))

-- how bytes that begin with a digit or a sign are split
abbrev pub Parted : ℕ → List ℕ → Type 0
Parted b bytes = (negative : Bool) × (digits : List ℕ) × (rest : List ℕ) × (b ∷ bytes ≡ signed negative digits ++ rest)
    × (list_all is_digit digits ≡ true) × (prefix_len is_digit rest ≡ 0) × (eqb b 45 ≡ negative)
    × ((total : ℕ) → number_at total (b ∷ bytes) ≡ number_from (total - length (b ∷ bytes)) negative digits rest)

abbrev numbered : ℕ → Bool → List ℕ → Read
numbered from negative unsigned = number_from from negative (take (prefix_len is_digit unsigned) unsigned) (drop (prefix_len is_digit unsigned) unsigned)

parted_by : (b : ℕ) (bytes : List ℕ) (v : Bool) → eqb b 45 ≡ v → Parted b bytes
parted_by b bytes true e =
    let len = prefix_len is_digit bytes in
    let at : b ∷ bytes ≡ 45 ∷ (take len bytes ++ drop len bytes) = ap (λ n. n ∷ bytes) (eqb-true b 45 e) ∙ ap (λ (l : List ℕ). 45 ∷ l) (sym (take-append-drop len bytes)) in
    (true, take len bytes, drop len bytes, at, all_of_prefix is_digit bytes, prefix_stops is_digit bytes, e, λ total. ap (λ v. numbered (total - length (b ∷ bytes)) v (drop (cond v 1 0) (b ∷ bytes))) e)
parted_by b bytes false e =
    let l = b ∷ bytes in
    let len = prefix_len is_digit l in
    (false, take len l, drop len l, sym (take-append-drop len l), all_of_prefix is_digit l, prefix_stops is_digit l, e, λ total. ap (λ v. numbered (total - length l) v (drop (cond v 1 0) l)) e)

pub parted : (b : ℕ) (bytes : List ℕ) → Parted b bytes
parted b bytes = parted_by b bytes (eqb b 45) refl

numbered_taken : (from : ℕ) (negative : Bool) (digits rest : List ℕ) → is_digits digits ≡ true → prefix_len is_digit rest ≡ 0 → numbered from negative (digits ++ rest) ≡ number_from from negative digits rest
numbered_taken from negative [] rest d s = absurd (false≢true d)
numbered_taken from negative (x ∷ digits) rest d s =
    let l = (x ∷ digits) ++ rest in
    let len : prefix_len is_digit l ≡ length (x ∷ digits) = prefix_all is_digit (x ∷ digits) rest d s in
    ap (λ n. number_from from negative (take n l) (drop n l)) len
    ∙ ap (λ (m : List ℕ). number_from from negative m (drop (length (x ∷ digits)) l)) (take-append_seam (x ∷ digits) rest)
    ∙ ap (λ (m : List ℕ). number_from from negative (x ∷ digits) m) (drop-append_seam (x ∷ digits) rest)

-- a numeral is taken whole
pub numeral_taken : (total : ℕ) (negative : Bool) (digits rest : List ℕ) → is_digits digits ≡ true → prefix_len is_digit rest ≡ 0 → number_at total (signed negative digits ++ rest) ≡ number_from (total - length (signed negative digits ++ rest)) negative digits rest
numeral_taken total true digits rest d s = numbered_taken (total - length (45 ∷ digits ++ rest)) true digits rest d s
numeral_taken total false [] rest d s = absurd (false≢true d)
numeral_taken total false (x ∷ digits) rest d s =
    let p = and_parts (is_digit x) (list_all is_digit digits) d in
    let l = (x ∷ digits) ++ rest in
    ap (λ v. numbered (total - length l) v (drop (cond v 1 0) l)) (digit_unsigned x p.0) ∙ numbered_taken (total - length l) false (x ∷ digits) rest d s

number_of_spelled : (negative : Bool) (digits : List ℕ) (z : ℤ) → ((negative ≡ false) × (z ≡ pos (digits_value digits)) × (digits_value digits < 2 ^ 63)) ⊎ ((negative ≡ true) × (z ≡ neg_ℤ (pos (digits_value digits))) × (digits_value digits ≤ 2 ^ 63)) → number_of negative (digits_value digits) ≡ Some z
number_of_spelled negative digits z (inl p) = rw (p.0, lt-ltb (digits_value digits) (2 ^ 63) p.2) (ap Some (sym p.1))
number_of_spelled negative digits z (inr p) = rw (p.0, le-leb (digits_value digits) (2 ^ 63) p.2) (ap Some (sym p.1))

real_by : (rest : List ℕ) → (HasPoint rest → ⊥) → is_real rest ≡ false
real_by rest n = by (is_real rest) refl where
  by : (v : Bool) → is_real rest ≡ v → is_real rest ≡ false
  by false e = e
  by true e = absurd (n (point rest e))

-- the result for digits with this rest after them
pub from_whole : (from : ℕ) (negative : Bool) (digits rest : List ℕ) → is_digits digits ≡ true → (HasPoint rest → ⊥) → number_from from negative digits rest ≡ in_range from (number_of negative (digits_value digits)) rest
from_whole from negative [] rest d n = absurd (false≢true d)
from_whole from negative (x ∷ digits) rest d n = ap (λ v. cond v (Err (fault.Real from)) (in_range from (number_of negative (digits_value (x ∷ digits))) rest)) (real_by rest n)

pub from_real : (from : ℕ) (negative : Bool) (digits rest : List ℕ) → is_digits digits ≡ true → HasPoint rest → number_from from negative digits rest ≡ Err (fault.Real from)
from_real from negative [] rest d p = absurd (false≢true d)
from_real from negative (x ∷ digits) rest d p =
    let yes : is_real rest ≡ true = ap is_real p.2 ∙ p.3 in
    ap (λ v. cond v (Err (fault.Real from)) (in_range from (number_of negative (digits_value (x ∷ digits))) rest)) yes

none_by : (o : Option ℤ) → ((z : ℤ) → o ≡ Some z → ⊥) → o ≡ None
none_by None n = refl
none_by (Some z) n = absurd (n z refl)

pub number_spelled : (negative : Bool) (digits : List ℕ) (z : ℤ) → is_digits digits ≡ true → number_of negative (digits_value digits) ≡ Some z → SpellsNumber z (signed negative digits)
number_spelled true digits z d e = signed_spelled digits z d e
number_spelled false digits z d e = unsigned_spelled digits z d e

pub number_complete : (total : ℕ) (z : ℤ) (text rest : List ℕ) → SpellsNumber z text → prefix_len is_digit rest ≡ 0 → (HasPoint rest → ⊥) → number_at total (text ++ rest) ≡ Ok (kind.Int z, rest)
number_complete total z text rest s stop whole = by s.signed where
  taken : (negative : Bool) → text ≡ signed negative s.digits → number_of negative (digits_value s.digits) ≡ Some z → number_at total (text ++ rest) ≡ Ok (kind.Int z, rest)
  taken negative t o =
      let l = signed negative s.digits ++ rest in
      ap (λ (m : List ℕ). number_at total (m ++ rest)) t
      ∙ numeral_taken total negative s.digits rest s.are_digits stop
      ∙ from_whole (total - length l) negative s.digits rest s.are_digits whole
      ∙ ap (λ v. in_range (total - length l) v rest) o

  by : ((text ≡ s.digits) × (z ≡ pos (digits_value s.digits)) × (digits_value s.digits < 2 ^ 63)) ⊎ ((text ≡ 45 ∷ s.digits) × (z ≡ neg_ℤ (pos (digits_value s.digits))) × (digits_value s.digits ≤ 2 ^ 63)) → number_at total (text ++ rest) ≡ Ok (kind.Int z, rest)
  by (inl p) = taken false p.0 (number_of_spelled false s.digits z (inl (refl, p.1, p.2)))
  by (inr p) = taken true p.0 (number_of_spelled true s.digits z (inr (refl, p.1, p.2)))

abbrev real_at : ℕ → Read
real_at position = Err (fault.Real position)

abbrev out_of : ℕ → Read
out_of position = Err (fault.IntRange position)

pub real_complete : (total : ℕ) (bytes : List ℕ) → BeginsReal bytes → number_at total bytes ≡ Err (fault.Real (total - length bytes))
real_complete total bytes (negative, digits, rest, n, p) =
    let l = signed negative digits ++ rest in
    ap (number_at total) n.parts ∙ numeral_taken total negative digits rest n.are_digits n.are_all
    ∙ from_real (total - length l) negative digits rest n.are_digits p ∙ ap (λ (m : List ℕ). real_at (total - length m)) (sym n.parts)

pub range_complete : (total : ℕ) (bytes : List ℕ) → BeginsTooFar bytes → number_at total bytes ≡ Err (fault.IntRange (total - length bytes))
range_complete total bytes (negative, digits, rest, n, whole, far) =
    let l = signed negative digits ++ rest in
    let none : number_of negative (digits_value digits) ≡ None = none_by (number_of negative (digits_value digits)) (λ z e. far z (number_spelled negative digits z n.are_digits e)) in
    ap (number_at total) n.parts ∙ numeral_taken total negative digits rest n.are_digits n.are_all
    ∙ from_whole (total - length l) negative digits rest n.are_digits whole ∙ ap (λ o. in_range (total - length l) o rest) none ∙ ap (λ (m : List ℕ). out_of (total - length m)) (sym n.parts)
