-- The token with which bytes begin, or the error there: the lexer finds exactly what the specification defines.
use Rattle.std.proofs.Common.{◌≡◌, ℕ, ℤ, suc, ◌-◌, ◌≤◌, Bool, true, false, ◌||◌, cond, eqb, List, [], ◌∷◌, ◌++◌, length, take, drop, Option, Some, None, Ok, Err, refl, ap, sym, ◌∙◌, subst, inl, inr}
use Rattle.std.proofs.lemmas.Bool.{false≢true, eqb-true, and_parts}
use Rattle.std.proofs.Math.Seq.{drop-append_seam}
use Rattle.std.proofs.lemmas.List.{take-append-drop}
use Rattle.std.specs.List.{list_all, prefix_len}
use Rattle.tb_terms.specs.Names.{is_digit, is_lower, is_upper, is_name, is_ident, is_name_byte}
use Rattle.tb_read.specs.Spelling.{is_digits, digits_value, SpellsNumber, SpellsString}
use Rattle.tb_read.specs.Lexing.{is_real, number_of}
use Rattle.tb_read.specs.Positions.{signed, HasPoint, BeginsReal, BeginsTooFar}
use Rattle.tb_read.proofs.Stops.{prefix_stops}
use Rattle.tb_read.proofs.Numerals.{point, no_point, sign_no_digit, too_far}
use Rattle.tb_lex.specs.declared.fault.LexFault.{LexFault}
use Rattle.tb_lex.specs.declared.fault.LexFault.TheVariants as fault
use Rattle.tb_lex.specs.declared.head.Head.{Head}
use Rattle.tb_lex.specs.declared.head.Head.TheVariants as head
use Rattle.tb_lex.specs.declared.symbol.Symbol.{Symbol}
use Rattle.tb_lex.specs.declared.kind.TokenKind.{TokenKind}
use Rattle.tb_lex.specs.declared.kind.TokenKind.TheVariants as kind
use Rattle.tb_lex.specs.Tokens.{symbol_text, SpellsKind, IsNumeral, IsLongest, IsWhole}
use Rattle.tb_lex.specs.Faults.{BeginsNothing, IsFault}
use Rattle.tb_lex.specs.Helpers.Scanning.{Read, has_head, head_of, lower_at, upper_at, in_range, number_from, number_at, string_at, symbol_of, symbol_found, symbol_at, piece_at}
use Rattle.tb_lex.proofs.Prefixes.{none_first}
use Rattle.tb_lex.proofs.Heads.{PieceOf, Begun, lower_head, upper_head, number_numeral, piece_begun}
use Rattle.tb_lex.proofs.Names.{is_name_prefix, is_ident_prefix, name_longest, ident_longest, name_stops, ident_stops, lower_taken, upper_taken}
use Rattle.tb_lex.proofs.Numbers.{numeral_head, numeral_longest, numeral_stops, number_spelled, parted, number_complete, real_complete, range_complete}
use Rattle.tb_lex.proofs.Quotes.{string_longest, string_complete, string_found, StringFault, string_refused, open_complete, bad_complete}
use Rattle.tb_lex.proofs.Symbols.{symbol_first, symbol_sound, most, symbol_longest, symbol_taken, symbol_head}

abbrev pub Piece : Type 0
Piece = TokenKind × List ℕ

abbrev pub found : Piece → Read
found x = Ok x

abbrev pub refused : LexFault → Read
refused f = Err f

-- a token's spelling that is split off from bytes
abbrev pub Cut : List ℕ → Piece → Type 0
Cut bytes x = (text : List ℕ) × (bytes ≡ text ++ x.1) × SpellsKind x.0 text × IsLongest text x.1 × IsWhole x.0 x.1

ok_same : (x y : Piece) → found x ≡ found y → x ≡ y
ok_same x y e = cc

err_same : (f g : LexFault) → refused f ≡ refused g → f ≡ g
err_same f g e = cc

-- The token that is found is the token there.

lower_sound : (bytes : List ℕ) (x : Piece) → has_head head.Lower bytes ≡ true → lower_at bytes ≡ Ok x → Cut bytes x
lower_sound bytes x h e =
    let len = prefix_len is_name_byte bytes in
    let name = is_name_prefix bytes h in
    subst (λ (y : Piece). Cut bytes y) (ok_same (kind.Lower (take len bytes), drop len bytes) x e)
    (take len bytes, sym (take-append-drop len bytes), (name, refl), name_longest (take len bytes) (drop len bytes) name (prefix_stops is_name_byte bytes), tt)

upper_sound : (bytes : List ℕ) (x : Piece) → has_head head.Upper bytes ≡ true → upper_at bytes ≡ Ok x → Cut bytes x
upper_sound bytes x h e =
    let len = prefix_len is_name_byte bytes in
    let name = is_ident_prefix bytes h in
    subst (λ (y : Piece). Cut bytes y) (ok_same (kind.Upper (take len bytes), drop len bytes) x e)
    (take len bytes, sym (take-append-drop len bytes), (name, refl), ident_longest (take len bytes) (drop len bytes) name (prefix_stops is_name_byte bytes), tt)

string_sound : (q total : ℕ) (bytes : List ℕ) (x : Piece) → q ≡ 34 → string_at total (q ∷ bytes) ≡ Ok x → Cut (q ∷ bytes) x
string_sound q total bytes x h e =
    let f = string_found q total bytes x h e in
    let cut : Cut (q ∷ bytes) (kind.Str f.0, x.1) = (f.1, f.3, f.4, string_longest f.0 f.1 x.1 f.4, tt) in
    subst (λ (k : TokenKind). Cut (q ∷ bytes) (k, x.1)) (sym f.2) cut

number_by : (from : ℕ) (negative : Bool) (digits rest : List ℕ) (x : Piece) → is_digits digits ≡ true → prefix_len is_digit rest ≡ 0 → (r : Bool) → is_real rest ≡ r → (o : Option ℤ) → number_of negative (digits_value digits) ≡ o → cond r (Err (fault.Real from)) (in_range from o rest) ≡ Ok x → Cut (signed negative digits ++ rest) x
number_by from negative digits rest x d s true er o eo e = cc
number_by from negative digits rest x d s false er None eo e = cc
number_by from negative digits rest x d s false er (Some z) eo e =
    let numeral : IsNumeral (signed negative digits) = (negative, digits, refl, d) in
    subst (λ (y : Piece). Cut (signed negative digits ++ rest) y) (ok_same (kind.Int z, rest) x e)
    (signed negative digits, refl, number_spelled negative digits z d eo, numeral_longest (signed negative digits) rest numeral s, no_point rest er)

from_sound : (from : ℕ) (negative : Bool) (digits rest : List ℕ) (x : Piece) → list_all is_digit digits ≡ true → prefix_len is_digit rest ≡ 0 → number_from from negative digits rest ≡ Ok x → Cut (signed negative digits ++ rest) x
from_sound from negative [] rest x d s e = cc
from_sound from negative (y ∷ digits) rest x d s e = number_by from negative (y ∷ digits) rest x d s (is_real rest) refl (number_of negative (digits_value (y ∷ digits))) refl e

number_sound : (total b : ℕ) (bytes : List ℕ) (x : Piece) → number_at total (b ∷ bytes) ≡ Ok x → Cut (b ∷ bytes) x
number_sound total b bytes x e =
    let p = parted b bytes in
    subst (λ (l : List ℕ). Cut l x) (sym p.3) (from_sound (total - length (b ∷ bytes)) p.0 p.1 p.2 x p.4 p.5 (sym (p.7 total) ∙ e))

symbol_by : (total b : ℕ) (bytes : List ℕ) (x : Piece) (o : Option Symbol) → symbol_of b bytes ≡ o → symbol_found (total - suc (length bytes)) (b ∷ bytes) o ≡ Ok x → Cut (b ∷ bytes) x
symbol_by total b bytes x None eo e = cc
symbol_by total b bytes x (Some s) eo e =
    let p = symbol_sound b bytes s eo in
    let first : symbol_first (symbol_text s ++ p.0) ≡ Some s = ap symbol_first (sym p.1) ∙ eo in
    let cut : Cut (b ∷ bytes) (kind.Symbol s, p.0) = (symbol_text s, p.1, refl, symbol_longest s p.0 first, tt) in
    let is : found (kind.Symbol s, p.0) ≡ found x = ap (λ (l : List ℕ). found (kind.Symbol s, l)) (sym p.2) ∙ e in
    subst (λ (y : Piece). Cut (b ∷ bytes) y) (ok_same (kind.Symbol s, p.0) x is) cut

pub piece_sound : (h : Head) (total b : ℕ) (bytes : List ℕ) (x : Piece) → has_head h (b ∷ bytes) ≡ true → piece_at h total (b ∷ bytes) ≡ Ok x → Cut (b ∷ bytes) x
piece_sound head.Lower total b bytes x h e = lower_sound (b ∷ bytes) x h e
piece_sound head.Upper total b bytes x h e = upper_sound (b ∷ bytes) x h e
piece_sound head.Quote total b bytes x h e = string_sound b total bytes x (eqb-true b 34 h) e
piece_sound head.Numeral total b bytes x h e = number_sound total b bytes x e
piece_sound head.Other total b bytes x h e = symbol_by total b bytes x (symbol_of b bytes) refl e

heads_by : (b : ℕ) (bytes : List ℕ) (p q r s : Bool) → is_lower b ≡ p → is_upper b ≡ q → eqb b 34 ≡ r → (is_digit b || eqb b 45) ≡ s → has_head (cond p head.Lower (cond q head.Upper (cond r head.Quote (cond s head.Numeral head.Other)))) (b ∷ bytes) ≡ true
heads_by b bytes true q r s ep eq er es = ep
heads_by b bytes false true r s ep eq er es = eq
heads_by b bytes false false true s ep eq er es = er
heads_by b bytes false false false true ep eq er es = es
heads_by b bytes false false false false ep eq er es = refl

pub has_its_head : (b : ℕ) (bytes : List ℕ) → has_head (head_of b) (b ∷ bytes) ≡ true
has_its_head b bytes = heads_by b bytes (is_lower b) (is_upper b) (eqb b 34) (is_digit b || eqb b 45) refl refl refl refl

-- The token there is found.

-- bytes, and the result at their start
abbrev pub Finds : ℕ → List ℕ → Read → Type 0
Finds total bytes r = (b : ℕ) × (rest : List ℕ) × (bytes ≡ b ∷ rest) × (piece_at (head_of b) total bytes ≡ r)

finds_by : (total : ℕ) (h : Head) (bytes : List ℕ) (b : ℕ) (rest : List ℕ) (r : Read) → bytes ≡ b ∷ rest → head_of b ≡ h → piece_at h total bytes ≡ r → Finds total bytes r
finds_by total h bytes b rest r e is f = (b, rest, e, ap (λ k. piece_at k total bytes) is ∙ f)

lower_finds : (total : ℕ) (name rest : List ℕ) → is_name name ≡ true → prefix_len is_name_byte rest ≡ 0 → Finds total (name ++ rest) (Ok (kind.Lower name, rest))
lower_finds total [] rest h s = absurd (false≢true h)
lower_finds total (c ∷ cs) rest h s = finds_by total head.Lower ((c ∷ cs) ++ rest) c (cs ++ rest) (Ok (kind.Lower (c ∷ cs), rest)) refl (lower_head c (and_parts (is_lower c) (list_all is_name_byte cs) h).0) (lower_taken c cs rest h s)

upper_finds : (total : ℕ) (name rest : List ℕ) → is_ident name ≡ true → prefix_len is_name_byte rest ≡ 0 → Finds total (name ++ rest) (Ok (kind.Upper name, rest))
upper_finds total [] rest h s = absurd (false≢true h)
upper_finds total (c ∷ cs) rest h s = finds_by total head.Upper ((c ∷ cs) ++ rest) c (cs ++ rest) (Ok (kind.Upper (c ∷ cs), rest)) refl (upper_head c (and_parts (is_upper c) (list_all is_name_byte cs) h).0) (upper_taken c cs rest h s)

number_finds : (total : ℕ) (z : ℤ) (text rest : List ℕ) → SpellsNumber z text → prefix_len is_digit rest ≡ 0 → (HasPoint rest → ⊥) → Finds total (text ++ rest) (Ok (kind.Int z, rest))
number_finds total z text rest n s w =
    let h = numeral_head text (number_numeral z text n) in
    finds_by total head.Numeral (text ++ rest) h.0 (h.1 ++ rest) (Ok (kind.Int z, rest)) (ap (λ (l : List ℕ). l ++ rest) h.2) h.3 (number_complete total z text rest n s w)

string_finds : (total : ℕ) (bytes text rest : List ℕ) → SpellsString bytes text → Finds total (text ++ rest) (Ok (kind.Str bytes, rest))
string_finds total bytes text rest s =
    finds_by total head.Quote (text ++ rest) 34 ((s.inner ++ (34 ∷ [])) ++ rest) (Ok (kind.Str bytes, rest)) (ap (λ (l : List ℕ). l ++ rest) s.quoted) refl (string_complete total bytes text rest s)

symbol_at_found : (total b : ℕ) (bytes : List ℕ) (s : Symbol) (rest : List ℕ) → symbol_of b bytes ≡ Some s → drop (length (symbol_text s)) (b ∷ bytes) ≡ rest → symbol_at total (b ∷ bytes) ≡ Ok (kind.Symbol s, rest)
symbol_at_found total b bytes s rest e d = ap (symbol_found (total - suc (length bytes)) (b ∷ bytes)) e ∙ ap (λ (l : List ℕ). found (kind.Symbol s, l)) d

symbol_finds : (total : ℕ) (s : Symbol) (text rest : List ℕ) → text ≡ symbol_text s → IsLongest text rest → Finds total (text ++ rest) (Ok (kind.Symbol s, rest))
symbol_finds total s text rest e l =
    let h = symbol_head s in
    let first : symbol_first (symbol_text s ++ rest) ≡ Some s = symbol_taken s rest (subst (λ (t : List ℕ). IsLongest t rest) e l) in
    let form : symbol_text s ++ rest ≡ h.0 ∷ (h.1 ++ rest) = ap (λ (t : List ℕ). t ++ rest) h.2 in
    let is : symbol_of h.0 (h.1 ++ rest) ≡ Some s = ap symbol_first (sym form) ∙ first in
    let behind : drop (length (symbol_text s)) (h.0 ∷ (h.1 ++ rest)) ≡ rest = ap (drop (length (symbol_text s))) (sym form) ∙ drop-append_seam (symbol_text s) rest in
    let at : text ++ rest ≡ h.0 ∷ (h.1 ++ rest) = ap (λ (t : List ℕ). t ++ rest) e ∙ form in
    finds_by total head.Other (text ++ rest) h.0 (h.1 ++ rest) (Ok (kind.Symbol s, rest)) at h.3 (ap (symbol_at total) at ∙ symbol_at_found total h.0 (h.1 ++ rest) s rest is behind)

pub piece_complete : (total : ℕ) (k : TokenKind) (text rest : List ℕ) → SpellsKind k text → IsLongest text rest → IsWhole k rest → Finds total (text ++ rest) (Ok (k, rest))
piece_complete total (kind.Int z) text rest s l w = number_finds total z text rest s (numeral_stops text rest (number_numeral z text s) l) w
piece_complete total (kind.Str bytes) text rest s l w = string_finds total bytes text rest s
piece_complete total (kind.Lower name) text rest s l w =
    subst (λ (t : List ℕ). Finds total (t ++ rest) (Ok (kind.Lower name, rest))) (sym s.1) (lower_finds total name rest s.0 (name_stops name rest s.0 (subst (λ (t : List ℕ). IsLongest t rest) s.1 l)))
piece_complete total (kind.Upper name) text rest s l w =
    subst (λ (t : List ℕ). Finds total (t ++ rest) (Ok (kind.Upper name, rest))) (sym s.1) (upper_finds total name rest s.0 (ident_stops name rest s.0 (subst (λ (t : List ℕ). IsLongest t rest) s.1 l)))
piece_complete total (kind.Symbol symbol) text rest s l w = symbol_finds total symbol text rest s l

-- The error that is found is the error there.

-- an error of one piece
abbrev pub OfPiece : LexFault → Type 0
OfPiece (fault.BadByte at) = Unit {0}
OfPiece (fault.OpenString at) = Unit {0}
OfPiece (fault.Real at) = Unit {0}
OfPiece (fault.IntRange at) = Unit {0}
OfPiece fault.TooMany = ⊥
OfPiece fault.NoMemory = ⊥

abbrev pub Refusal : ℕ → List ℕ → LexFault → Type 0
Refusal total bytes f = OfPiece f × IsFault f (total - length bytes) bytes

-- if no piece of the kind that the head tells is there, no token begins there
begins_nothing : (b : ℕ) (bytes : List ℕ) → (head_of b ≡ head.Quote → ⊥) → ((t tail : List ℕ) → bytes ≡ t ++ tail → PieceOf (head_of b) (b ∷ t) → ⊥) → BeginsNothing (b ∷ bytes)
begins_nothing b bytes q never = (b, bytes, refl, λ e. q (ap head_of e), λ text tail e p. none text tail e (piece_begun text p)) where
  none : (text tail : List ℕ) → b ∷ bytes ≡ text ++ tail → Begun text → ⊥
  none text tail e g =
      let form : b ∷ bytes ≡ g.0 ∷ (g.1 ++ tail) = e ∙ ap (λ (l : List ℕ). l ++ tail) g.2 in
      let first : g.0 ≡ b = cc in
      let behind : bytes ≡ g.1 ++ tail = cc in
      never g.1 tail behind (subst (λ n. PieceOf (head_of n) (n ∷ g.1)) first (subst (λ (l : List ℕ). PieceOf (head_of g.0) l) g.2 g.3))

apart : (h k : Head) (b : ℕ) → head_of b ≡ h → head_of b ≡ k → h ≡ k
apart h k b e f = sym e ∙ f

number_quote : head.Numeral ≡ head.Quote → ⊥
number_quote e = cc

other_quote : head.Other ≡ head.Quote → ⊥
other_quote e = cc

sign_numeral : (t : List ℕ) (b : ℕ) → eqb b 45 ≡ true → IsNumeral (b ∷ t) → is_digits t ≡ true
sign_numeral t b e (true, digits, f, h) = let same : t ≡ digits = cc in ap is_digits same ∙ h
sign_numeral t b e (false, digits, f, h) = absurd (sign_no_digit t digits (ap (λ n. n ∷ t) (sym (eqb-true b 45 e)) ∙ f) h)

no_digits_first : (t tail bytes : List ℕ) → bytes ≡ t ++ tail → is_digits t ≡ true → prefix_len is_digit bytes ≡ 0 → ⊥
no_digits_first [] tail bytes e h s = false≢true h
no_digits_first (d ∷ t) tail bytes e h s = none_first is_digit d (t ++ tail) (ap (prefix_len is_digit) (sym e) ∙ s) (and_parts (is_digit d) (list_all is_digit t) h).0

-- a sign without digits, or a byte that is no digit
lone_sign : (b : ℕ) (bytes rest : List ℕ) → head_of b ≡ head.Numeral → (is_digit b || eqb b 45) ≡ true → (negative : Bool) → eqb b 45 ≡ negative → b ∷ bytes ≡ signed negative [] ++ rest → prefix_len is_digit rest ≡ 0 → BeginsNothing (b ∷ bytes)
lone_sign b bytes rest h d true e at s =
    let behind : bytes ≡ rest = cc in
    begins_nothing b bytes (λ q. number_quote (apart head.Numeral head.Quote b h q)) (λ t tail f p.
    no_digits_first t tail bytes f (sign_numeral t b e (subst (λ k. PieceOf k (b ∷ t)) h p)) (ap (prefix_len is_digit) behind ∙ s))
lone_sign b bytes rest h d false e at s =
    let digit : is_digit b ≡ true = sign_or b (is_digit b) e d in
    absurd (none_first is_digit b bytes (ap (prefix_len is_digit) at ∙ s) digit) where
      sign_or : (b : ℕ) (v : Bool) → eqb b 45 ≡ false → (v || eqb b 45) ≡ true → v ≡ true
      sign_or b true e d = refl
      sign_or b false e d = absurd (false≢true (sym e ∙ d))

abbrev from_number : ℕ → Bool → List ℕ → List ℕ → Bool → Option ℤ → Read
from_number from negative digits rest r o = cond r (Err (fault.Real from)) (in_range from o rest)

number_refused_by : (from : ℕ) (negative : Bool) (digits rest bytes : List ℕ) (f : LexFault) → bytes ≡ signed negative digits ++ rest → is_digits digits ≡ true → prefix_len is_digit rest ≡ 0 → (r : Bool) → is_real rest ≡ r → (o : Option ℤ) → number_of negative (digits_value digits) ≡ o → from_number from negative digits rest r o ≡ Err f → OfPiece f × IsFault f from bytes
number_refused_by from negative digits rest bytes f at d s true er o eo e =
    let real : BeginsReal bytes = (negative, digits, rest, record { parts = at; are_digits = d; are_all = s }, point rest er) in
    subst (λ (g : LexFault). OfPiece g × IsFault g from bytes) (err_same (fault.Real from) f e) (tt, (refl, real))
number_refused_by from negative digits rest bytes f at d s false er None eo e =
    let far : BeginsTooFar bytes = (negative, digits, rest, record { parts = at; are_digits = d; are_all = s }, no_point rest er, too_far negative digits d eo) in
    subst (λ (g : LexFault). OfPiece g × IsFault g from bytes) (err_same (fault.IntRange from) f e) (tt, (refl, far))
number_refused_by from negative digits rest bytes f at d s false er (Some z) eo e = cc

number_refused_from : (from : ℕ) (negative : Bool) (digits rest : List ℕ) (b : ℕ) (bytes : List ℕ) (f : LexFault) → head_of b ≡ head.Numeral → (is_digit b || eqb b 45) ≡ true → eqb b 45 ≡ negative → b ∷ bytes ≡ signed negative digits ++ rest → list_all is_digit digits ≡ true → prefix_len is_digit rest ≡ 0 → number_from from negative digits rest ≡ Err f → OfPiece f × IsFault f from (b ∷ bytes)
number_refused_from from negative [] rest b bytes f h g n at d s e =
    let nothing = lone_sign b bytes rest h g negative n at s in
    subst (λ (k : LexFault). OfPiece k × IsFault k from (b ∷ bytes)) (err_same (fault.BadByte from) f e) (tt, inl (refl, nothing))
number_refused_from from negative (x ∷ digits) rest b bytes f h g n at d s e =
    number_refused_by from negative (x ∷ digits) rest (b ∷ bytes) f at d s (is_real rest) refl (number_of negative (digits_value (x ∷ digits))) refl e

number_refused : (total b : ℕ) (bytes : List ℕ) (f : LexFault) → head_of b ≡ head.Numeral → (is_digit b || eqb b 45) ≡ true → number_at total (b ∷ bytes) ≡ Err f → Refusal total (b ∷ bytes) f
number_refused total b bytes f h g e =
    let p = parted b bytes in
    number_refused_from (total - length (b ∷ bytes)) p.0 p.1 p.2 b bytes f h g p.6 p.3 p.4 p.5 (sym (p.7 total) ∙ e)

string_refusal : (total q : ℕ) (bytes : List ℕ) (f : LexFault) → StringFault f (total - suc (length bytes)) (q ∷ bytes) → Refusal total (q ∷ bytes) f
string_refusal total q bytes f (inl p) = subst (λ (g : LexFault). Refusal total (q ∷ bytes) g) (sym p.0) (tt, (refl, p.1))
string_refusal total q bytes f (inr p) = subst (λ (g : LexFault). Refusal total (q ∷ bytes) g) (sym p.1) (tt, inr p.2)

symbol_refused_by : (total b : ℕ) (bytes : List ℕ) (f : LexFault) → head_of b ≡ head.Other → (o : Option Symbol) → symbol_of b bytes ≡ o → symbol_found (total - suc (length bytes)) (b ∷ bytes) o ≡ Err f → Refusal total (b ∷ bytes) f
symbol_refused_by total b bytes f h (Some s) eo e = cc
symbol_refused_by total b bytes f h None eo e =
    let nothing : BeginsNothing (b ∷ bytes) = begins_nothing b bytes (λ q. other_quote (apart head.Other head.Quote b h q)) (λ t tail at p. no_symbol t tail at (subst (λ k. PieceOf k (b ∷ t)) h p)) in
    subst (λ (g : LexFault). Refusal total (b ∷ bytes) g) (err_same (fault.BadByte (total - suc (length bytes))) f e) (tt, inl (refl, nothing)) where
      no_symbol : (t tail : List ℕ) → bytes ≡ t ++ tail → ((s : Symbol) × (b ∷ t ≡ symbol_text s)) → ⊥
      no_symbol t tail at p =
          let m = most p.0 tail in
          let same : symbol_text p.0 ++ tail ≡ b ∷ bytes = ap (λ (l : List ℕ). l ++ tail) (sym p.1) ∙ ap (λ (l : List ℕ). b ∷ l) (sym at) in
          let no : None ≡ Some m.0 = sym eo ∙ ap symbol_first (sym same) ∙ m.1 in
          cc

refused_by : (h : Head) (total b : ℕ) (bytes : List ℕ) (f : LexFault) → head_of b ≡ h → has_head h (b ∷ bytes) ≡ true → suc (length bytes) ≤ total → piece_at h total (b ∷ bytes) ≡ Err f → Refusal total (b ∷ bytes) f
refused_by head.Lower total b bytes f h g w e = cc
refused_by head.Upper total b bytes f h g w e = cc
refused_by head.Quote total b bytes f h g w e = string_refusal total b bytes f (string_refused total b bytes f (eqb-true b 34 g) w e)
refused_by head.Numeral total b bytes f h g w e = number_refused total b bytes f h g e
refused_by head.Other total b bytes f h g w e = symbol_refused_by total b bytes f h (symbol_of b bytes) refl e

pub piece_refused : (total b : ℕ) (bytes : List ℕ) (f : LexFault) → suc (length bytes) ≤ total → piece_at (head_of b) total (b ∷ bytes) ≡ Err f → Refusal total (b ∷ bytes) f
piece_refused total b bytes f w e = refused_by (head_of b) total b bytes f refl (has_its_head b bytes) w e

-- The error there is found.

cut_piece : (bytes : List ℕ) (x : Piece) → Cut bytes x → BeginsNothing bytes → ⊥
cut_piece bytes x c n = n.4 c.0 x.1 c.1 (inr (x.0, c.2))

nothing_number : (bytes : List ℕ) → BeginsNothing bytes → BeginsReal bytes → ⊥
nothing_number bytes n (negative, digits, rest, p, q) = n.4 (signed negative digits) rest p.parts (inl (negative, digits, refl, p.are_digits))

nothing_far : (bytes : List ℕ) → BeginsNothing bytes → BeginsTooFar bytes → ⊥
nothing_far bytes n (negative, digits, rest, p, q, far) = n.4 (signed negative digits) rest p.parts (inl (negative, digits, refl, p.are_digits))

quote_first : (bytes l : List ℕ) → BeginsNothing bytes → bytes ≡ 34 ∷ l → ⊥
quote_first bytes l n e = let form : n.0 ∷ n.1 ≡ 34 ∷ l = sym n.2 ∙ e in let first : n.0 ≡ 34 = cc in n.3 first

nothing_fault : (total : ℕ) (bytes : List ℕ) (f : LexFault) → BeginsNothing bytes → OfPiece f → IsFault f (total - length bytes) bytes → f ≡ fault.BadByte (total - length bytes)
nothing_fault total bytes (fault.BadByte at) n o (inl p) = ap (λ m. fault.BadByte m) p.0
nothing_fault total bytes (fault.BadByte at) n o (inr p) = absurd (quote_first bytes (p.0 ++ (p.1 ∷ p.2)) n p.3)
nothing_fault total bytes (fault.OpenString at) n o p = absurd (quote_first bytes (p.1.0 ++ p.1.1) n p.1.2)
nothing_fault total bytes (fault.Real at) n o p = absurd (nothing_number bytes n p.1)
nothing_fault total bytes (fault.IntRange at) n o p = absurd (nothing_far bytes n p.1)
nothing_fault total bytes fault.TooMany n o p = absurd o
nothing_fault total bytes fault.NoMemory n o p = absurd o

nothing_by : (total b : ℕ) (bytes : List ℕ) → suc (length bytes) ≤ total → BeginsNothing (b ∷ bytes) → (r : Read) → piece_at (head_of b) total (b ∷ bytes) ≡ r → r ≡ refused (fault.BadByte (total - suc (length bytes)))
nothing_by total b bytes w n (Ok x) e = absurd (cut_piece (b ∷ bytes) x (piece_sound (head_of b) total b bytes x (has_its_head b bytes) e) n)
nothing_by total b bytes w n (Err f) e =
    let q = piece_refused total b bytes f w e in
    ap refused (nothing_fault total (b ∷ bytes) f n q.0 q.1)

-- the head of bytes that begin with a number
number_first : (b : ℕ) (bytes text rest : List ℕ) → b ∷ bytes ≡ text ++ rest → IsNumeral text → head_of b ≡ head.Numeral
number_first b bytes text rest e n =
    let h = numeral_head text n in
    let form : b ∷ bytes ≡ h.0 ∷ (h.1 ++ rest) = e ∙ ap (λ (l : List ℕ). l ++ rest) h.2 in
    let first : b ≡ h.0 = cc in
    ap head_of first ∙ h.3

at_head : (total b : ℕ) (bytes : List ℕ) (h : Head) (f : LexFault) → head_of b ≡ h → piece_at h total (b ∷ bytes) ≡ refused f → piece_at (head_of b) total (b ∷ bytes) ≡ refused f
at_head total b bytes h f e g = ap (λ k. piece_at k total (b ∷ bytes)) e ∙ g

quote_head : (b : ℕ) (bytes l : List ℕ) → b ∷ bytes ≡ 34 ∷ l → head_of b ≡ head.Quote
quote_head b bytes l e = let first : b ≡ 34 = cc in ap head_of first

real_head : (b : ℕ) (bytes : List ℕ) → BeginsReal (b ∷ bytes) → head_of b ≡ head.Numeral
real_head b bytes (negative, digits, rest, p, q) = number_first b bytes (signed negative digits) rest p.parts (negative, digits, refl, p.are_digits)

far_head : (b : ℕ) (bytes : List ℕ) → BeginsTooFar (b ∷ bytes) → head_of b ≡ head.Numeral
far_head b bytes (negative, digits, rest, p, q, far) = number_first b bytes (signed negative digits) rest p.parts (negative, digits, refl, p.are_digits)

pub refused_complete : (total b : ℕ) (bytes : List ℕ) (f : LexFault) → suc (length bytes) ≤ total → OfPiece f → IsFault f (total - length (b ∷ bytes)) (b ∷ bytes) → piece_at (head_of b) total (b ∷ bytes) ≡ Err f
refused_complete total b bytes (fault.BadByte at) w o (inl p) =
    nothing_by total b bytes w p.1 (piece_at (head_of b) total (b ∷ bytes)) refl ∙ ap (λ m. refused (fault.BadByte m)) (sym p.0)
refused_complete total b bytes (fault.BadByte at) w o (inr p) = at_head total b bytes head.Quote (fault.BadByte at) (quote_head b bytes (p.0 ++ (p.1 ∷ p.2)) p.3) (bad_complete total b at bytes w p)
refused_complete total b bytes (fault.OpenString at) w o p = at_head total b bytes head.Quote (fault.OpenString at) (quote_head b bytes (p.1.0 ++ p.1.1) p.1.2) (open_complete total b bytes p.1 ∙ ap (λ m. refused (fault.OpenString m)) (sym p.0))
refused_complete total b bytes (fault.Real at) w o p = at_head total b bytes head.Numeral (fault.Real at) (real_head b bytes p.1) (real_complete total (b ∷ bytes) p.1 ∙ ap (λ m. refused (fault.Real m)) (sym p.0))
refused_complete total b bytes (fault.IntRange at) w o p = at_head total b bytes head.Numeral (fault.IntRange at) (far_head b bytes p.1) (range_complete total (b ∷ bytes) p.1 ∙ ap (λ m. refused (fault.IntRange m)) (sym p.0))
refused_complete total b bytes fault.TooMany w o p = absurd o
refused_complete total b bytes fault.NoMemory w o p = absurd o
