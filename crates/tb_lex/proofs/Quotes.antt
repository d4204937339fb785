-- The string with which bytes begin, or its error.
use Rattle.std.proofs.Common.{◌≡◌, ℕ, suc, ◌+◌, ◌-◌, ◌≤◌, Bool, true, false, ◌⊎◌, cond, eqb, List, [], ◌∷◌, ◌++◌, length, Result, Ok, Err, refl, ap, sym, ◌∙◌, subst, inl, inr, arith, append_assoc, append-nil}
use Rattle.std.proofs.lemmas.Bool.{false≢true, eqb-true, eqb-false, ne_eqb}
use Rattle.std.proofs.lemmas.List.{length-append}
use Rattle.tb_read.specs.declared.quoted.Within.{Within}
use Rattle.tb_read.specs.declared.quoted.Within.TheVariants.{Between, Escaped, Going}
use Rattle.tb_read.specs.declared.quoted.Turn.{Turn}
use Rattle.tb_read.specs.declared.quoted.Turn.TheVariants.{Ends, Goes, Puts, Bad}
use Rattle.tb_read.specs.Spelling.{SpellsString}
use Rattle.tb_read.specs.Lexing.{string_turn, string_rest as term_string}
use Rattle.tb_read.proofs.Strings.{Steady, IsInside, turned as term_turned, string_sound}
use Rattle.tb_read.proofs.Scalars.{string_put}
use Rattle.tb_lex.specs.declared.fault.LexFault.{LexFault}
use Rattle.tb_lex.specs.declared.fault.LexFault.TheVariants as fault
use Rattle.tb_lex.specs.declared.head.Head.TheVariants as head
use Rattle.tb_lex.specs.declared.kind.TokenKind.{TokenKind}
use Rattle.tb_lex.specs.declared.kind.TokenKind.TheVariants as kind
use Rattle.tb_lex.specs.Tokens.{IsPiece, IsLongest}
use Rattle.tb_lex.specs.Faults.{BeginsString, IsInString, IsOpenString, IsUncut, IsBadEscape, HasBadByte}
use Rattle.tb_lex.specs.Helpers.Scanning.{Read, bad_position, string_fault, string_rest, string_of, string_at, with_prefix}
use Rattle.tb_lex.proofs.Heads.{PieceOf, piece_of}
use Rattle.tb_lex.proofs.Strings.{Pair, turned, read, read_in_term, read_here}
use Rattle.tb_lex.proofs.Walks.{Step, Walks, one_more, goes_facts, puts_facts, next_facts, NextFacts, walk_steady, ten_bad, rest_read, walk_read, text_read, read_text, walk_in_string, in_string, in_string_begins, uncut, inside_of}

-- a string's spelling is the longest there
pub string_longest : (bytes text rest : List ℕ) → SpellsString bytes text → IsLongest text rest
string_longest bytes text rest s more tail e p =
    let inner = s.inner ++ (34 ∷ []) in
    let whole : SpellsString bytes (34 ∷ inner) = subst (λ (l : List ℕ). SpellsString bytes l) s.quoted s in
    let longer : PieceOf head.Quote (34 ∷ (inner ++ more)) = piece_of 34 (inner ++ more) (subst (λ (l : List ℕ). IsPiece (l ++ more)) s.quoted p) in
    let a : term_string 0 Between (inner ++ more) ≡ Ok (bytes, more) = text_read bytes inner whole 0 more in
    let b : term_string 0 Between ((inner ++ more) ++ []) ≡ Ok (longer.0, []) = text_read longer.0 (inner ++ more) longer.1 0 [] in
    let same : read (bytes, more) ≡ read (longer.0, []) = sym a ∙ ap (term_string 0 Between) (sym (append-nil (inner ++ more))) ∙ b in
    none bytes longer.0 [] same where
      none : (x y z : List ℕ) → read (x, more) ≡ read (y, z) → more ≡ z
      none x y z e = let pair : ◌≡◌ {A = Pair} (x, more) (y, z) = cc in ap (λ (p : Pair). p.1) pair

pub string_complete : (total : ℕ) (bytes text rest : List ℕ) → SpellsString bytes text → string_at total (text ++ rest) ≡ Ok (kind.Str bytes, rest)
string_complete total bytes text rest s =
    let inner = s.inner ++ (34 ∷ []) in
    let whole : SpellsString bytes (34 ∷ inner) = subst (λ (l : List ℕ). SpellsString bytes l) s.quoted s in
    let l = inner ++ rest in
    let here : string_rest (total - suc (length l)) total Between l ≡ Ok (bytes, rest) = read_here (total - suc (length l)) total 0 l Between (bytes, rest) (text_read bytes inner whole 0 rest) in
    ap (λ (m : List ℕ). string_at total (m ++ rest)) s.quoted ∙ ap string_of here

abbrev Piece : Type 0
Piece = TokenKind × List ℕ

-- a string that is found
abbrev pub StringFound : List ℕ → Piece → Type 0
StringFound bytes x = (put : List ℕ) × (text : List ℕ) × (x.0 ≡ kind.Str put) × (bytes ≡ text ++ x.1) × SpellsString put text

found_by : (q : ℕ) (bytes : List ℕ) (x : Piece) (y : Pair) → q ≡ 34 → term_string 0 Between bytes ≡ Ok y → ◌≡◌ {A = Read} (Ok (kind.Str y.0, y.1)) (Ok x) → StringFound (q ∷ bytes) x
found_by q bytes x y h r e =
    let same : ◌≡◌ {A = Piece} (kind.Str y.0, y.1) x = cc in
    let f = string_sound 0 bytes Between tt y r in
    let text = (34 ∷ f.0) ++ (34 ∷ []) in
    let at : q ∷ bytes ≡ text ++ y.1 = ap (λ n. n ∷ bytes) h ∙ ap (λ (l : List ℕ). 34 ∷ l) f.1 ∙ sym (append_assoc (34 ∷ f.0) (34 ∷ []) y.1) in
    let spelled : SpellsString y.0 text = record { is = string_put 0 bytes y r; inner = f.0; quoted = refl; spelled = f.2 } in
    subst (λ (z : Piece). StringFound (q ∷ bytes) z) same (y.0, text, refl, at, spelled)

of_by : (q total : ℕ) (bytes : List ℕ) (x : Piece) → q ≡ 34 → (r : Result Pair LexFault) → string_rest (total - suc (length bytes)) total Between bytes ≡ r → string_of r ≡ Ok x → StringFound (q ∷ bytes) x
of_by q total bytes x h (Err f) er e = cc
of_by q total bytes x h (Ok y) er e = found_by q bytes x y h (read_in_term (total - suc (length bytes)) total 0 bytes Between y er) e

pub string_found : (q total : ℕ) (bytes : List ℕ) (x : Piece) → q ≡ 34 → string_at total (q ∷ bytes) ≡ Ok x → StringFound (q ∷ bytes) x
string_found q total bytes x h e = of_by q total bytes x h (string_rest (total - suc (length bytes)) total Between bytes) refl e

-- The position of a string's error.

-- the source ends, or a newline (LF) is there
abbrev pub IsStop : List ℕ → Type 0
IsStop stop = (stop ≡ []) ⊎ ((more : List ℕ) × (stop ≡ 10 ∷ more))

abbrev OpenAt : ℕ → Within → List ℕ → LexFault → Type 0
OpenAt q w bytes f = (pre : List ℕ) × (v : Within) × (stop : List ℕ) × (bytes ≡ pre ++ stop) × Walks w pre v × IsStop stop × (f ≡ fault.OpenString q)

abbrev BadAt : ℕ → Within → List ℕ → LexFault → Type 0
BadAt t w bytes f = (pre : List ℕ) × (v : Within) × (b : ℕ) × (rest : List ℕ) × (bytes ≡ pre ++ (b ∷ rest)) × Walks w pre v × IsInside v × (b ≡ 10 → ⊥) × (string_turn v b ≡ Bad) × (f ≡ fault.BadByte (t - suc (length rest)))

abbrev EscapeAt : ℕ → Within → List ℕ → LexFault → Type 0
EscapeAt t w bytes f = (pre : List ℕ) × (v : Within) × (letter : ℕ) × (rest : List ℕ) × (bytes ≡ pre ++ (92 ∷ letter ∷ rest)) × Walks w pre v × IsInside v × (string_turn v 92 ≡ Goes Escaped) × (letter ≡ 10 → ⊥) × (string_turn Escaped letter ≡ Bad) × (f ≡ fault.BadByte (t - suc (length rest) - 1))

abbrev Outcome : ℕ → ℕ → Within → List ℕ → LexFault → Type 0
Outcome q t w bytes f = OpenAt q w bytes f ⊎ (BadAt t w bytes f ⊎ EscapeAt t w bytes f)

-- the letter after a backslash is wrong
abbrev LetterAt : ℕ → Within → List ℕ → LexFault → Type 0
LetterAt t w bytes f = (letter : ℕ) × (rest : List ℕ) × (bytes ≡ letter ∷ rest) × (w ≡ Escaped) × (letter ≡ 10 → ⊥) × (string_turn Escaped letter ≡ Bad) × (f ≡ fault.BadByte (t - suc (length rest) - 1))

behind_step : (q t : ℕ) (w next : Within) (b : ℕ) (bytes : List ℕ) (f : LexFault) → Step w b next → Outcome q t next bytes f → Outcome q t w (b ∷ bytes) f
behind_step q t w next b bytes f s (inl o) = inl (b ∷ o.0, o.1, o.2, ap (λ (l : List ℕ). b ∷ l) o.3, (next, s, o.4), o.5, o.6)
behind_step q t w next b bytes f s (inr (inl o)) = inr (inl (b ∷ o.0, o.1, o.2, o.3, ap (λ (l : List ℕ). b ∷ l) o.4, (next, s, o.5), o.6, o.7, o.8, o.9))
behind_step q t w next b bytes f s (inr (inr o)) = inr (inr (b ∷ o.0, o.1, o.2, o.3, ap (λ (l : List ℕ). b ∷ l) o.4, (next, s, o.5), o.6, o.7, o.8, o.9, o.10))

err_same : {X : Type 0} (f g : LexFault) → ◌≡◌ {A = Result X LexFault} (Err f) (Err g) → f ≡ g
err_same f g e = cc

prefix_err : (prefix : List ℕ) (r : Result Pair LexFault) (f : LexFault) → with_prefix prefix r ≡ Err f → r ≡ Err f
prefix_err prefix (Ok x) f e = cc
prefix_err prefix (Err g) f e = let same : g ≡ f = cc in ap (λ (h : LexFault). Err h) same

bad_by : (q t : ℕ) (w : Within) (b : ℕ) (bytes : List ℕ) (f : LexFault) → string_turn w b ≡ Bad → (v : Bool) → eqb b 10 ≡ v → cond v (fault.OpenString q) (fault.BadByte (bad_position w (t - suc (length bytes)))) ≡ f → Outcome q t w (b ∷ bytes) f ⊎ LetterAt t w (b ∷ bytes) f
bad_by q t w b bytes f bad true e s = inl (inl ([], w, b ∷ bytes, refl, refl, inr (bytes, ap (λ n. n ∷ bytes) (eqb-true b 10 e)), sym s))
bad_by q t Between b bytes f bad false e s = inl (inr (inl ([], Between, b, bytes, refl, refl, tt, eqb-false b 10 e, bad, sym s)))
bad_by q t (Going more low high) b bytes f bad false e s = inl (inr (inl ([], Going more low high, b, bytes, refl, refl, tt, eqb-false b 10 e, bad, sym s)))
bad_by q t Escaped b bytes f bad false e s = inr (b, bytes, refl, refl, eqb-false b 10 e, bad, sym s)

goes_by : (q t : ℕ) (w : Within) (b : ℕ) (bytes : List ℕ) (f : LexFault) (next : Within) → Steady w → string_turn w b ≡ Goes next → Outcome q t next bytes f ⊎ LetterAt t next bytes f → Outcome q t w (b ∷ bytes) f
goes_by q t w b bytes f next s e (inl o) = behind_step q t w next b bytes f (inl e) o
goes_by q t w b bytes f next s e (inr o) =
    let g = goes_facts w b next s e in
    let turn : string_turn w 92 ≡ Goes Escaped = ap (string_turn w) (sym g.1) ∙ e ∙ ap (λ u. Goes u) g.2 in
    let at : b ∷ bytes ≡ 92 ∷ o.0 ∷ o.1 = ap (λ n. n ∷ bytes) g.1 ∙ ap (λ (l : List ℕ). 92 ∷ l) o.2 in
    inr (inr ([], w, o.0, o.1, at, refl, g.0, turn, o.4, o.5, o.6))

puts_by : (q t : ℕ) (w : Within) (b : ℕ) (bytes : List ℕ) (f : LexFault) (c : ℕ) (next : Within) → Steady w → string_turn w b ≡ Puts c next → Outcome q t next bytes f ⊎ LetterAt t next bytes f → Outcome q t w (b ∷ bytes) f
puts_by q t w b bytes f c next s e (inl o) = behind_step q t w next b bytes f (inr (c, e)) o
puts_by q t w b bytes f c next s e (inr o) = absurd (subst IsInside o.3 (puts_facts w b c next s e).0)

abbrev Ended : ℕ → ℕ → List ℕ → LexFault → Type 0
Ended q t bytes f = (w : Within) → Steady w → string_rest q t w bytes ≡ Err f → Outcome q t w bytes f ⊎ LetterAt t w bytes f

turn_by : (q t : ℕ) (b : ℕ) (bytes : List ℕ) (f : LexFault) → Ended q t bytes f → (w : Within) → Steady w → (u : Turn) → string_turn w b ≡ u → turned q t w b u bytes ≡ Err f → Outcome q t w (b ∷ bytes) f ⊎ LetterAt t w (b ∷ bytes) f
turn_by q t b bytes f ih w s Ends eu e = cc
turn_by q t b bytes f ih w s (Goes next) eu e =
    let steady : Steady next = subst Steady (sym (goes_facts w b next s eu).2) tt in
    inl (goes_by q t w b bytes f next s eu (ih next steady e))
turn_by q t b bytes f ih w s (Puts c next) eu e = inl (puts_by q t w b bytes f c next s eu (ih next (puts_facts w b c next s eu).1 (prefix_err (c ∷ []) (string_rest q t next bytes) f e)))
turn_by q t b bytes f ih w s Bad eu e = bad_by q t w b bytes f eu (eqb b 10) refl (err_same {X = Pair} (string_fault q (t - suc (length bytes)) w b) f e)

ended : (q t : ℕ) (bytes : List ℕ) (f : LexFault) → Ended q t bytes f
ended q t [] f w s e = inl (inl ([], w, [], refl, refl, inl refl, sym (err_same {X = Pair} (fault.OpenString q) f e)))
ended q t (b ∷ bytes) f w s e = turn_by q t b bytes f (ended q t bytes f) w s (string_turn w b) refl e

-- no string begins with a walk and a byte that can't continue it
no_string : (pre : List ℕ) (v : Within) (b : ℕ) (more : List ℕ) → Walks Between pre v → ((tail : List ℕ) (y : Pair) → term_string 0 v (b ∷ (more ++ tail)) ≡ Ok y → ⊥) → BeginsString (34 ∷ pre ++ b ∷ more) → ⊥
no_string pre v b more p never g =
    let l = (pre ++ (b ∷ more)) ++ g.0 in
    let all : term_string 0 Between l ≡ Ok (g.1, []) = ap (term_string 0 Between) (sym (append-nil l)) ∙ text_read g.1 l g.2 0 [] in
    let regrouped : l ≡ pre ++ (b ∷ (more ++ g.0)) = append_assoc pre (b ∷ more) g.0 in
    let y = rest_read 0 pre (b ∷ (more ++ g.0)) Between v (g.1, []) p (ap (term_string 0 Between) (sym regrouped) ∙ all) in
    never g.0 y.0 y.1

bad_never : (v : Within) (b : ℕ) → string_turn v b ≡ Bad → (tail : List ℕ) (y : Pair) → term_string 0 v (b ∷ tail) ≡ Ok y → ⊥
bad_never v b bad tail y e = let no : term_turned 0 Bad tail ≡ Ok y = ap (λ u. term_turned 0 u tail) (sym bad) ∙ e in cc

escape_never : (v : Within) (letter : ℕ) → string_turn v 92 ≡ Goes Escaped → string_turn Escaped letter ≡ Bad → (tail : List ℕ) (y : Pair) → term_string 0 v (92 ∷ letter ∷ tail) ≡ Ok y → ⊥
escape_never v letter goes bad tail y e = bad_never Escaped letter bad tail y (ap (λ u. term_turned 0 u (letter ∷ tail)) (sym goes) ∙ e)

-- the error of a string whose quote is at this position
abbrev pub StringFault : LexFault → ℕ → List ℕ → Type 0
StringFault f position bytes = ((f ≡ fault.OpenString position) × IsOpenString bytes) ⊎ ((at : ℕ) × (f ≡ fault.BadByte at) × HasBadByte at position bytes)

position_bad : (total n : ℕ) (bytes pre rest : List ℕ) (b : ℕ) → suc (length bytes) ≤ total → bytes ≡ pre ++ (b ∷ rest) → total - suc (length rest) ≡ total - suc (length bytes) + 1 + length pre
position_bad total n bytes pre rest b w e =
    let len : length bytes ≡ length pre + suc (length rest) = ap (λ (l : List ℕ). length l) e ∙ length-append pre (b ∷ rest) in
    omega arith

position_escape : (total : ℕ) (bytes pre rest : List ℕ) (b c : ℕ) → suc (length bytes) ≤ total → bytes ≡ pre ++ (b ∷ c ∷ rest) → total - suc (length rest) - 1 ≡ total - suc (length bytes) + 1 + length pre
position_escape total bytes pre rest b c w e =
    let len : length bytes ≡ length pre + suc (suc (length rest)) = ap (λ (l : List ℕ). length l) e ∙ length-append pre (b ∷ c ∷ rest) in
    omega arith

outcome_fault : (total q : ℕ) (bytes : List ℕ) (f : LexFault) → q ≡ 34 → suc (length bytes) ≤ total → Outcome (total - suc (length bytes)) total Between bytes f → StringFault f (total - suc (length bytes)) (q ∷ bytes)
outcome_fault total q bytes f h w (inl o) =
    inl (o.6, (o.0, o.2, ap (λ n. n ∷ bytes) h ∙ ap (λ (l : List ℕ). 34 ∷ l) o.3, in_string o.0 o.1 o.4, o.5))
outcome_fault total q bytes f h w (inr (inl o)) =
    let pre = o.0 in
    let v = o.1 in
    let b = o.2 in
    let rest = o.3 in
    let never : BeginsString (34 ∷ pre ++ b ∷ []) → ⊥ = no_string pre v b [] o.5 (λ tail y e. bad_never v b o.8 tail y e) in
    let at = total - suc (length rest) in
    inr (at, o.9, (pre, b, rest, ap (λ n. n ∷ bytes) h ∙ ap (λ (l : List ℕ). 34 ∷ l) o.4, position_bad total 0 bytes pre rest b w o.4, in_string pre v o.5, uncut pre v o.5 o.6, o.7, inl never))
outcome_fault total q bytes f h w (inr (inr o)) =
    let pre = o.0 in
    let v = o.1 in
    let letter = o.2 in
    let rest = o.3 in
    let never : BeginsString (34 ∷ pre ++ 92 ∷ letter ∷ []) → ⊥ = no_string pre v 92 (letter ∷ []) o.5 (λ tail y e. escape_never v letter o.7 o.9 tail y e) in
    let at = total - suc (length rest) - 1 in
    let escape : IsBadEscape pre 92 (letter ∷ rest) = (refl, (letter, rest, refl, o.8, never)) in
    inr (at, o.10, (pre, 92, letter ∷ rest, ap (λ n. n ∷ bytes) h ∙ ap (λ (l : List ℕ). 34 ∷ l) o.4, position_escape total bytes pre rest 92 letter w o.4, in_string pre v o.5, uncut pre v o.5 o.6, ten_not, inr escape)) where
      ten_not : ◌≡◌ {A = ℕ} 92 10 → ⊥
      ten_not e = false≢true (ap (λ n. eqb n 10) e)

string_of_err : (r : Result Pair LexFault) (f : LexFault) → string_of r ≡ Err f → r ≡ Err f
string_of_err (Err g) f e = let same : g ≡ f = cc in ap (λ (h : LexFault). Err h) same
string_of_err (Ok y) f e = cc

-- the error that is found is the string's error
pub string_refused : (total q : ℕ) (bytes : List ℕ) (f : LexFault) → q ≡ 34 → suc (length bytes) ≤ total → string_at total (q ∷ bytes) ≡ Err f → StringFault f (total - suc (length bytes)) (q ∷ bytes)
string_refused total q bytes f h w e = by (ended (total - suc (length bytes)) total bytes f Between tt (string_of_err (string_rest (total - suc (length bytes)) total Between bytes) f e)) where
  by : Outcome (total - suc (length bytes)) total Between bytes f ⊎ LetterAt total Between bytes f → StringFault f (total - suc (length bytes)) (q ∷ bytes)
  by (inl o) = outcome_fault total q bytes f h w o
  by (inr o) = absurd (subst IsInside o.3 tt)

-- The string's error is found.

walk_err : (q t : ℕ) (pre stop : List ℕ) (w v : Within) (f : LexFault) → Walks w pre v → string_rest q t v stop ≡ Err f → string_rest q t w (pre ++ stop) ≡ Err f
walk_err q t [] stop w v f p e = subst (λ u. string_rest q t u stop ≡ Err f) (sym p) e
walk_err q t (b ∷ pre) stop w v f p e = by p.1 (walk_err q t pre stop p.0 v f p.2 e) where
  by : Step w b p.0 → string_rest q t p.0 (pre ++ stop) ≡ Err f → string_rest q t w (b ∷ (pre ++ stop)) ≡ Err f
  by (inl s) h = ap (λ u. turned q t w b u (pre ++ stop)) s ∙ h
  by (inr s) h = ap (λ u. turned q t w b u (pre ++ stop)) s.1 ∙ ap (λ (r : Result Pair LexFault). with_prefix (s.0 ∷ []) r) h

abbrev refused : LexFault → Result Pair LexFault
refused f = Err f

stop_open : (q t : ℕ) (v : Within) (stop : List ℕ) → Steady v → IsStop stop → string_rest q t v stop ≡ Err (fault.OpenString q)
stop_open q t v stop s (inl e) = ap (string_rest q t v) e
stop_open q t v stop s (inr p) = ap (string_rest q t v) p.1 ∙ ap (λ u. turned q t v 10 u p.0) (ten_bad v s)

abbrev rest_of : ℕ → List ℕ → Result Pair LexFault
rest_of total bytes = string_rest (total - suc (length bytes)) total Between bytes

open_rest : (total : ℕ) (inner stop : List ℕ) → IsInString inner → IsStop stop → rest_of total (inner ++ stop) ≡ Err (fault.OpenString (total - suc (length (inner ++ stop))))
open_rest total inner stop g s =
    let w = walk_in_string inner g in
    let q = total - suc (length (inner ++ stop)) in
    walk_err q total inner stop Between w.0 (fault.OpenString q) w.1 (stop_open q total w.0 stop (walk_steady inner Between w.0 tt w.1) s)

quote_behind : (q : ℕ) (bytes l : List ℕ) → q ∷ bytes ≡ 34 ∷ l → bytes ≡ l
quote_behind q bytes l e = cc

pub open_complete : (total q : ℕ) (bytes : List ℕ) → IsOpenString (q ∷ bytes) → string_at total (q ∷ bytes) ≡ Err (fault.OpenString (total - suc (length bytes)))
open_complete total q bytes o =
    let is : bytes ≡ o.0 ++ o.1 = quote_behind q bytes (o.0 ++ o.1) o.2 in
    let rest : rest_of total bytes ≡ refused (fault.OpenString (total - suc (length bytes))) = subst (λ (l : List ℕ). rest_of total l ≡ refused (fault.OpenString (total - suc (length l)))) (sym is) (open_rest total o.0 o.1 o.3 o.4) in
    ap string_of rest

abbrev BadTurn : ℕ → ℕ → Within → ℕ → List ℕ → Type 0
BadTurn q t v b rest = string_rest q t v (b ∷ rest) ≡ Err (fault.BadByte (t - suc (length rest)))

-- a turn that isn't bad can be continued to a string
may_continue : (pre : List ℕ) (v : Within) (b : ℕ) → Walks Between pre v → (t : Turn) → string_turn v b ≡ t → ((BeginsString (34 ∷ pre ++ b ∷ [])) → ⊥) → t ≡ Bad
may_continue pre v b p Bad et n = refl
may_continue pre v b p Ends et n =
    let closed : term_string 0 v (b ∷ []) ≡ Ok ([], []) = ap (λ u. term_turned 0 u []) et in
    let x = walk_read 0 pre (b ∷ []) Between v ([], []) p closed in
    let text = read_text (pre ++ (b ∷ [])) x.0 x.1 x.2 in
    absurd (n ([], x.0.0, subst (λ (l : List ℕ). SpellsString x.0.0 l) (sym (append-nil (34 ∷ (pre ++ (b ∷ []))))) text))
may_continue pre v b p (Goes next) et n = absurd (n (in_string_begins (pre ++ (b ∷ [])) (in_string (pre ++ (b ∷ [])) next (one_more pre Between v next b p (inl et)))))
may_continue pre v b p (Puts c next) et n = absurd (n (in_string_begins (pre ++ (b ∷ [])) (in_string (pre ++ (b ∷ [])) next (one_more pre Between v next b p (inr (c, et))))))

bad_rest : (q t : ℕ) (v : Within) (b : ℕ) (rest : List ℕ) → IsInside v → string_turn v b ≡ Bad → (b ≡ 10 → ⊥) → BadTurn q t v b rest
bad_rest q t Between b rest i bad n = ap (λ u. turned q t Between b u rest) bad ∙ ap (λ w. refused (cond w (fault.OpenString q) (fault.BadByte (t - suc (length rest))))) (ne_eqb b 10 n)
bad_rest q t (Going more low high) b rest i bad n = ap (λ u. turned q t (Going more low high) b u rest) bad ∙ ap (λ w. refused (cond w (fault.OpenString q) (fault.BadByte (t - suc (length rest))))) (ne_eqb b 10 n)
bad_rest q t Escaped b rest i bad n = absurd i

letter_rest : (q t : ℕ) (letter : ℕ) (rest : List ℕ) → string_turn Escaped letter ≡ Bad → (letter ≡ 10 → ⊥) → string_rest q t Escaped (letter ∷ rest) ≡ Err (fault.BadByte (t - suc (length rest) - 1))
letter_rest q t letter rest bad n = ap (λ u. turned q t Escaped letter u rest) bad ∙ ap (λ w. refused (cond w (fault.OpenString q) (fault.BadByte (t - suc (length rest) - 1)))) (ne_eqb letter 10 n)

abbrev Backslash : ℕ → ℕ → Within → ℕ → List ℕ → Type 0
Backslash q t v letter more = string_rest q t v (92 ∷ letter ∷ more) ≡ Err (fault.BadByte (t - suc (suc (length more))))

backslash_by : (q t : ℕ) (pre : List ℕ) (v : Within) (letter : ℕ) (more : List ℕ) → Walks Between pre v → IsInside v → (letter ≡ 10 → ⊥) → (BeginsString (34 ∷ pre ++ 92 ∷ letter ∷ []) → ⊥) → (u : Turn) → string_turn v 92 ≡ u → NextFacts v 92 u → Backslash q t v letter more
backslash_by q t pre v letter more p i n never Ends eu f = absurd (false≢true (ap (λ m. eqb m 34) f.1))
backslash_by q t pre v letter more p i n never (Puts c next) eu f = absurd (false≢true (f.2 i).1)
backslash_by q t pre v letter more p i n never Bad eu f = bad_rest q t v 92 (letter ∷ more) i eu (λ e. false≢true (ap (λ m. eqb m 10) e))
backslash_by q t pre v letter more p i n never (Goes next) eu f =
    let turn : string_turn v 92 ≡ Goes Escaped = eu ∙ ap (λ u. Goes u) f.2 in
    let walk : Walks Between (pre ++ (92 ∷ [])) Escaped = one_more pre Between v Escaped 92 p (inl turn) in
    let same : (pre ++ (92 ∷ [])) ++ (letter ∷ []) ≡ pre ++ (92 ∷ letter ∷ []) = append_assoc pre (92 ∷ []) (letter ∷ []) in
    let none : BeginsString (34 ∷ (pre ++ (92 ∷ [])) ++ letter ∷ []) → ⊥ = λ g. never (subst (λ (l : List ℕ). BeginsString (34 ∷ l)) same g) in
    let bad = may_continue (pre ++ (92 ∷ [])) Escaped letter walk (string_turn Escaped letter) refl none in
    let position : t - suc (length more) - 1 ≡ t - suc (suc (length more)) = omega arith in
    ap (λ u. turned q t v 92 u (letter ∷ more)) turn ∙ letter_rest q t letter more bad n ∙ ap (λ m. refused (fault.BadByte m)) position

bad_found : (q t : ℕ) (pre : List ℕ) (v : Within) (b : ℕ) (rest : List ℕ) → Walks Between pre v → IsInside v → (b ≡ 10 → ⊥) → (BeginsString (34 ∷ pre ++ b ∷ []) → ⊥) ⊎ IsBadEscape pre b rest → BadTurn q t v b rest
bad_found q t pre v b rest p i n (inl never) = bad_rest q t v b rest i (may_continue pre v b p (string_turn v b) refl never) n
bad_found q t pre v b rest p i n (inr e) =
    let letter = e.1.0 in
    let more = e.1.1 in
    let found = backslash_by q t pre v letter more p i e.1.3 e.1.4 (string_turn v 92) refl (next_facts v 92 (walk_steady pre Between v tt p)) in
    subst (λ (l : List ℕ). BadTurn q t v b l) (sym e.1.2) (subst (λ m. BadTurn q t v m (letter ∷ more)) (sym e.0) found)

bad_in : (total position at : ℕ) (inner : List ℕ) (b : ℕ) (rest : List ℕ) → IsInString inner → IsUncut inner → (b ≡ 10 → ⊥) → (BeginsString (34 ∷ inner ++ b ∷ []) → ⊥) ⊎ IsBadEscape inner b rest → rest_of total (inner ++ (b ∷ rest)) ≡ Err (fault.BadByte (total - suc (length rest)))
bad_in total position at inner b rest g u n h =
    let w = walk_in_string inner g in
    let q = total - suc (length (inner ++ (b ∷ rest))) in
    let i = inside_of u.0 inner Between w.0 tt tt u.1 w.1 in
    walk_err q total inner (b ∷ rest) Between w.0 (fault.BadByte (total - suc (length rest))) w.1 (bad_found q total inner w.0 b rest w.1 i n h)

pub bad_complete : (total q at : ℕ) (bytes : List ℕ) → suc (length bytes) ≤ total → HasBadByte at (total - suc (length bytes)) (q ∷ bytes) → string_at total (q ∷ bytes) ≡ Err (fault.BadByte at)
bad_complete total q at bytes w o =
    let inner = o.0 in
    let b = o.1 in
    let rest = o.2 in
    let is : bytes ≡ inner ++ (b ∷ rest) = quote_behind q bytes (inner ++ (b ∷ rest)) o.3 in
    let position : total - suc (length rest) ≡ at = position_bad total 0 bytes inner rest b w is ∙ sym o.4 in
    let found : rest_of total bytes ≡ refused (fault.BadByte at) = ap (rest_of total) is ∙ bad_in total 0 at inner b rest o.5 o.6 o.7 o.8 ∙ ap (λ m. refused (fault.BadByte m)) position in
    ap string_of found
