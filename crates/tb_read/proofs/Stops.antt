-- No continuation of the bytes up to and including the byte of a syntax error parses as a term.
use Rattle.std.proofs.Common.{◌≡◌, ℕ, ℤ, pos, neg_ℤ, suc, ◌+◌, ◌-◌, ◌^◌, ◌≤◌, ◌<◌, Bool, true, false, ◌||◌, ◌⊎◌, cond, eqb, List, [], ◌∷◌, ◌++◌, length, take, drop, Option, Some, None, Result, Ok, Err, refl, ap, sym, ◌∙◌, subst, inl, inr, arith, append_assoc}
use Rattle.std.proofs.Math.Numerals.{one-add}
use Rattle.std.proofs.Math.Seq.{take-append-add}
use Rattle.std.proofs.lemmas.Bool.{false≢true, eqb-true, and_parts, lt-ltb, le-leb}
use Rattle.std.proofs.lemmas.List.{take-append-drop, length-append}
use Rattle.std.specs.List.{list_all, prefix_len}
use Rattle.tb_terms.specs.Names.{is_digit, is_name_byte}
use Rattle.tb_terms.specs.declared.term.Term.{Term}
use Rattle.tb_read.specs.declared.quoted.Within.{Within}
use Rattle.tb_read.specs.declared.quoted.Within.TheVariants.{Between}
use Rattle.tb_read.specs.declared.quoted.Turn.{Turn}
use Rattle.tb_read.specs.declared.quoted.Turn.TheVariants.{Ends, Goes, Puts, Bad}
use Rattle.tb_read.specs.declared.fault.TermFault.{TermFault}
use Rattle.tb_read.specs.declared.fault.TermFault.TheVariants.{Syntax, Real}
use Rattle.tb_read.specs.declared.token.Token.{Token}
use Rattle.tb_read.specs.declared.token.Token.TheVariants as token
use Rattle.tb_read.specs.declared.kind.Kind.{Kind}
use Rattle.tb_read.specs.declared.kind.Kind.TheVariants as kind
use Rattle.tb_read.specs.declared.shape.Shape.{Shape}
use Rattle.tb_read.specs.Tokens.{tokens_of}
use Rattle.tb_read.specs.Spelling.{is_blank, is_digits, digits_value, SpellsToken, Reads}
use Rattle.tb_read.specs.Lexing.{skip_blanks, string_turn, string_rest, with_prefix, string_of, name_at, is_real, is_negative, number_of, in_range, number_from, number_at, kind_of, token_of}
use Rattle.tb_read.specs.Helpers.Answers.{begins_with}
use Rattle.tb_read.specs.Scanning.{Next, Makes, Ends as Stops, allows, after, may_end, made, next_at, next_of, start, Runs}
use Rattle.tb_read.specs.Reading.{StopsAt}
use Rattle.tb_read.proofs.Names.{all_of_prefix}
use Rattle.tb_read.proofs.Strings.{turned, prefix_ok}
use Rattle.tb_read.proofs.Grammar.{kind_of_token}
use Rattle.tb_read.proofs.Lexed.{Lexed, ok_same, number_from_sound, token_sound, kind_begins, blanks, makes_by, ends_by, not_makes}
use Rattle.tb_read.proofs.Complete.{name_taken, digits_taken, digit_unsigned, token_complete, begun, skipped, Begun, reads_scans}

abbrev Pair : Type 0
Pair = List ℕ × List ℕ

-- the error is where `l` begins, and with any other bytes after the first byte of `l`, the bytes aren't the rest of a string
abbrev RestStop : ℕ → Within → List ℕ → ℕ → Type 0
RestStop total w bytes n = (pre : List ℕ) × (l : List ℕ) × (bytes ≡ pre ++ l) × (n ≡ total - length l)
    × ((c : ℕ) (suf : List ℕ) → l ≡ c ∷ suf → (other : ℕ) (more : List ℕ) (x : Pair) → string_rest other w (pre ++ (c ∷ more)) ≡ Ok x → ⊥)

pub same_position : {X : Type 0} (m n : ℕ) → ◌≡◌ {A = Result X TermFault} (Err (Syntax m)) (Err (Syntax n)) → m ≡ n
same_position m n e = cc

pub prefix_err : (prefix : List ℕ) (r : Result Pair TermFault) (f : TermFault) → with_prefix prefix r ≡ Err f → r ≡ Err f
prefix_err prefix (Ok x) f e = cc
prefix_err prefix (Err g) f e = let same : g ≡ f = cc in ap (λ (h : TermFault). Err h) same

-- the error is of this byte or of a later one
abbrev Deeper : ℕ → List ℕ → ℕ → Turn → Type 0
Deeper total bytes n t = (v : Within) × (string_rest total v bytes ≡ Err (Syntax n)) × ((other : ℕ) (ys : List ℕ) (x : Pair) → turned other t ys ≡ Ok x → (z : Pair) × (string_rest other v ys ≡ Ok z))

turned_stop : (total : ℕ) (bytes : List ℕ) (t : Turn) (n : ℕ) → turned total t bytes ≡ Err (Syntax n) → ((t ≡ Bad) × (total - suc (length bytes) ≡ n)) ⊎ Deeper total bytes n t
turned_stop total bytes Ends n e = cc
turned_stop total bytes (Goes v) n e = inr (v, e, λ other ys x h. (x, h))
turned_stop total bytes (Puts c v) n e = inr (v, prefix_err (c ∷ []) (string_rest total v bytes) (Syntax n) e, λ other ys x h. let y = prefix_ok (c ∷ []) (string_rest other v ys) x h in (y.0, y.1))
turned_stop total bytes Bad n e = inl (refl, same_position (total - suc (length bytes)) n e)

bad_first : (other : ℕ) (w : Within) (b c : ℕ) (more : List ℕ) (x : Pair) → b ≡ c → string_turn w b ≡ Bad → string_rest other w (c ∷ more) ≡ Ok x → ⊥
bad_first other w b c more x e bad h =
    let t : string_turn w c ≡ Bad = ap (string_turn w) (sym e) ∙ bad in
    let no : turned other Bad more ≡ Ok x = subst (λ u. turned other u more ≡ Ok x) t h in
    cc

rest_stop : (total : ℕ) (bytes : List ℕ) (w : Within) (n : ℕ) → string_rest total w bytes ≡ Err (Syntax n) → RestStop total w bytes n
rest_stop total [] w n e = ([], [], refl, sym (same_position total n e) ∙ omega arith, λ c suf h. absurd (nil_cons c suf h)) where
  nil_cons : (c : ℕ) (suf : List ℕ) → [] ≡ c ∷ suf → ⊥
  nil_cons c suf h = cc
rest_stop total (b ∷ bytes) w n e = by (turned_stop total bytes (string_turn w b) n e) (rest_stop total bytes) where
  by : (((string_turn w b ≡ Bad) × (total - suc (length bytes) ≡ n)) ⊎ Deeper total bytes n (string_turn w b)) → ((v : Within) (m : ℕ) → string_rest total v bytes ≡ Err (Syntax m) → RestStop total v bytes m) → RestStop total w (b ∷ bytes) n
  by (inl f) ih = ([], b ∷ bytes, refl, sym f.1, λ c suf h other more x r. bad_first other w b c more x (first h) f.0 r) where
    first : {c : ℕ} {suf : List ℕ} → b ∷ bytes ≡ c ∷ suf → b ≡ c
    first h = cc
  by (inr f) ih =
      let s = ih f.0 n f.1 in
      (b ∷ s.0, s.1, ap (λ l. b ∷ l) s.2, s.3, λ c suf h other more x r. let z = f.2 other (s.0 ++ (c ∷ more)) x r in s.4 c suf h other more z.0 z.1)

-- the error is where `l` begins, and with any other bytes after the first byte of `l`, the bytes don't begin with a token of this kind
abbrev TokenStop : Kind → ℕ → List ℕ → ℕ → Type 0
TokenStop next total bytes n = (pre : List ℕ) × (l : List ℕ) × (bytes ≡ pre ++ l) × (n ≡ total - length l)
    × ((c : ℕ) (suf : List ℕ) → l ≡ c ∷ suf → (other : ℕ) (more : List ℕ) (x : Lexed) → token_of next other (pre ++ (c ∷ more)) ≡ Ok x → ⊥)

pub string_of_err : (r : Result Pair TermFault) (f : TermFault) → string_of r ≡ Err f → r ≡ Err f
string_of_err (Err g) f e = let same : g ≡ f = cc in ap (λ (h : TermFault). Err h) same
string_of_err (Ok y) f e = cc

string_of_ok : (r : Result Pair TermFault) (x : Lexed) → string_of r ≡ Ok x → (y : Pair) × (r ≡ Ok y)
string_of_ok (Err g) x e = cc
string_of_ok (Ok y) x e = (y, refl)

-- a syntax error of a number: its digits are missing
pub digits_stop : (total position : ℕ) (negative : Bool) (digits rest : List ℕ) (n : ℕ) → number_from total position negative digits rest ≡ Err (Syntax n) → (digits ≡ []) × (n ≡ total - length rest)
digits_stop total position negative [] rest n e = (refl, sym (same_position (total - length rest) n e))
digits_stop total position negative (d ∷ digits) rest n e = by (is_real rest) (number_of negative (digits_value (d ∷ digits))) e where
  by : (v : Bool) (o : Option ℤ) → ◌≡◌ {A = Result Lexed TermFault} (cond v (Err (Real position)) (in_range position o rest)) (Err (Syntax n)) → ((d ∷ digits) ≡ []) × (n ≡ total - length rest)
  by true o h = cc
  by false None h = cc
  by false (Some z) h = cc

-- the first byte is no digit
pub prefix_digit : (c : ℕ) (suf : List ℕ) → take (prefix_len is_digit (c ∷ suf)) (c ∷ suf) ≡ [] → is_digit c ≡ false
prefix_digit c suf e = by (is_digit c) refl e where
  by : (v : Bool) → is_digit c ≡ v → take (cond v (1 + prefix_len is_digit suf) 0) (c ∷ suf) ≡ [] → is_digit c ≡ false
  by false ev h = ev
  by true ev h = let no : c ∷ take (prefix_len is_digit suf) suf ≡ [] = rw one-add at h in cc

no_digits : (other position : ℕ) (negative : Bool) (c : ℕ) (more : List ℕ) (x : Lexed) → is_digit c ≡ false → number_from other position negative (take (prefix_len is_digit (c ∷ more)) (c ∷ more)) (drop (prefix_len is_digit (c ∷ more)) (c ∷ more)) ≡ Ok x → ⊥
no_digits other position negative c more x d h =
    let none : number_from other position negative [] (c ∷ more) ≡ Ok x = subst (λ v. number_from other position negative (take (cond v (1 + prefix_len is_digit more) 0) (c ∷ more)) (drop (cond v (1 + prefix_len is_digit more) 0) (c ∷ more)) ≡ Ok x) d h in
    cc

number_stop : (total b : ℕ) (bytes : List ℕ) (n : ℕ) → begins_with kind.Int (b ∷ bytes) ≡ true → number_at total (b ∷ bytes) ≡ Err (Syntax n) → TokenStop kind.Int total (b ∷ bytes) n
number_stop total b bytes n h e = by (eqb b 45) refl e where
  by : (v : Bool) → eqb b 45 ≡ v → number_from total (total - length (b ∷ bytes)) v (take (prefix_len is_digit (drop (cond v 1 0) (b ∷ bytes))) (drop (cond v 1 0) (b ∷ bytes))) (drop (prefix_len is_digit (drop (cond v 1 0) (b ∷ bytes))) (drop (cond v 1 0) (b ∷ bytes))) ≡ Err (Syntax n) → TokenStop kind.Int total (b ∷ bytes) n
  by true ev g =
      let len = prefix_len is_digit bytes in
      let s = digits_stop total (total - length (b ∷ bytes)) true (take len bytes) (drop len bytes) n g in
      let all : drop len bytes ≡ bytes = ap (λ (l : List ℕ). l ++ drop len bytes) (sym s.0) ∙ take-append-drop len bytes in (
        45 ∷ [],
        bytes,
        ap (λ m. m ∷ bytes) (eqb-true b 45 ev),
        s.1 ∙ ap (λ (l : List ℕ). total - length l) all,
        λ c suf same other more x r.
            no_digits other (other - length (45 ∷ c ∷ more)) true c more x (prefix_digit c suf (subst (λ (l : List ℕ). take (prefix_len is_digit l) l ≡ []) same s.0)) r,
      )
  by false ev g =
      let s = digits_stop total (total - length (b ∷ bytes)) false (take (prefix_len is_digit (b ∷ bytes)) (b ∷ bytes)) (drop (prefix_len is_digit (b ∷ bytes)) (b ∷ bytes)) n g in
      let no : is_digit b ≡ false = prefix_digit b bytes s.0 in
      absurd (false≢true (sym (ap (λ v. v || eqb b 45) no ∙ ev) ∙ h))

token_stop : (next : Kind) (total : ℕ) (bytes : List ℕ) (n : ℕ) → begins_with next bytes ≡ true → token_of next total bytes ≡ Err (Syntax n) → TokenStop next total bytes n
token_stop next total [] n h e = absurd (false≢true h)
token_stop kind.LeftParen total (b ∷ bytes) n h e = cc
token_stop kind.RightParen total (b ∷ bytes) n h e = cc
token_stop kind.LeftBracket total (b ∷ bytes) n h e = cc
token_stop kind.RightBracket total (b ∷ bytes) n h e = cc
token_stop kind.Comma total (b ∷ bytes) n h e = cc
token_stop kind.Name total (b ∷ bytes) n h e = cc
token_stop kind.Int total (b ∷ bytes) n h e = number_stop total b bytes n h e
token_stop kind.Other total (b ∷ bytes) n h e = ([], b ∷ bytes, refl, sym (same_position (total - length (b ∷ bytes)) n e), λ c suf same other more x r. other_kind other (c ∷ more) x r) where
  other_kind : (other : ℕ) (l : List ℕ) (x : Lexed) → token_of kind.Other other l ≡ Ok x → ⊥
  other_kind other l x r = cc
token_stop kind.Str total (b ∷ bytes) n h e =
    let s = rest_stop total bytes Between n (string_of_err (string_rest total Between bytes) (Syntax n) e) in
    (b ∷ s.0, s.1, ap (λ l. b ∷ l) s.2, s.3, λ c suf same other more x r. let y = string_of_ok (string_rest other Between (s.0 ++ (c ∷ more))) x r in s.4 c suf same other more y.0 y.1)

-- A found token is found again, whatever follows the byte after it.

-- the bytes after a token don't continue it
abbrev Stopped : Token → List ℕ → Type 0
Stopped (token.Name name) rest = prefix_len is_name_byte rest ≡ 0
Stopped (token.Int number) rest = prefix_len is_digit rest ≡ 0
Stopped _ rest = Unit {0}

pub prefix_stops : (p : ℕ → Bool) (bs : List ℕ) → prefix_len p (drop (prefix_len p bs) bs) ≡ 0
prefix_stops p [] = refl
prefix_stops p (b ∷ bs) = by (p b) refl (prefix_stops p bs) where
  by : (v : Bool) → p b ≡ v → prefix_len p (drop (prefix_len p bs) bs) ≡ 0 → prefix_len p (drop (cond v (1 + prefix_len p bs) 0) (b ∷ bs)) ≡ 0
  by true e rest = rw one-add rest
  by false e rest = rw e refl

number_stopped : (total : ℕ) (bytes : List ℕ) (x : Lexed) → number_at total bytes ≡ Ok x → Stopped x.0 x.1
number_stopped total bytes x e =
    let unsigned = drop (cond (is_negative bytes) 1 0) bytes in
    let len = prefix_len is_digit unsigned in
    let f = number_from_sound total (total - length bytes) (is_negative bytes) (take len unsigned) (drop len unsigned) x (all_of_prefix is_digit unsigned) e in
    subst (λ (y : Lexed). Stopped y.0 y.1) (sym f.1) (prefix_stops is_digit unsigned)

string_stopped : (r : Result Pair TermFault) (x : Lexed) → string_of r ≡ Ok x → Stopped x.0 x.1
string_stopped (Err f) x e = cc
string_stopped (Ok y) x e = subst (λ (z : Lexed). Stopped z.0 z.1) (ok_same (token.Str y.0, y.1) x e) tt

symbol_stopped : (k : Token) (rest : List ℕ) (x : Lexed) → Stopped k rest → ◌≡◌ {A = Result Lexed TermFault} (Ok (k, rest)) (Ok x) → Stopped x.0 x.1
symbol_stopped k rest x s e = subst (λ (z : Lexed). Stopped z.0 z.1) (ok_same (k, rest) x e) s

token_stopped : (next : Kind) (total : ℕ) (bytes : List ℕ) (x : Lexed) → token_of next total bytes ≡ Ok x → Stopped x.0 x.1
token_stopped kind.LeftParen total bytes x e = symbol_stopped token.LeftParen (drop 1 bytes) x tt e
token_stopped kind.RightParen total bytes x e = symbol_stopped token.RightParen (drop 1 bytes) x tt e
token_stopped kind.LeftBracket total bytes x e = symbol_stopped token.LeftBracket (drop 1 bytes) x tt e
token_stopped kind.RightBracket total bytes x e = symbol_stopped token.RightBracket (drop 1 bytes) x tt e
token_stopped kind.Comma total bytes x e = symbol_stopped token.Comma (drop 1 bytes) x tt e
token_stopped kind.Name total bytes x e =
    let len = prefix_len is_name_byte bytes in
    symbol_stopped (token.Name (take len bytes)) (drop len bytes) x (prefix_stops is_name_byte bytes) e
token_stopped kind.Int total bytes x e = number_stopped total bytes x e
token_stopped kind.Other total bytes x e = cc
token_stopped kind.Str total [] x e = cc
token_stopped kind.Str total (b ∷ bytes) x e = string_stopped (string_rest total Between bytes) x e

prefix_head : (p : ℕ → Bool) (c : ℕ) (suf more : List ℕ) → prefix_len p (c ∷ suf) ≡ 0 → prefix_len p (c ∷ more) ≡ 0
prefix_head p c suf more e = by (p c) e where
  by : (v : Bool) → cond v (1 + prefix_len p suf) 0 ≡ 0 → cond v (1 + prefix_len p more) 0 ≡ 0
  by false h = refl
  by true h = let no : suc (prefix_len p suf) ≡ 0 = rw one-add at h in absurd (omega arith)

prefix_same : (p : ℕ → Bool) (pre : List ℕ) (c : ℕ) (suf more : List ℕ) → prefix_len p (pre ++ (c ∷ suf)) ≡ 0 → prefix_len p (pre ++ (c ∷ more)) ≡ 0
prefix_same p [] c suf more e = prefix_head p c suf more e
prefix_same p (x ∷ pre) c suf more e = prefix_head p x (pre ++ (c ∷ suf)) (pre ++ (c ∷ more)) e

stopped_same : (k : Token) (pre : List ℕ) (c : ℕ) (suf more : List ℕ) → Stopped k (pre ++ (c ∷ suf)) → Stopped k (pre ++ (c ∷ more))
stopped_same (token.Name name) pre c suf more s = prefix_same is_name_byte pre c suf more s
stopped_same (token.Int number) pre c suf more s = prefix_same is_digit pre c suf more s
stopped_same (token.Str bytes) pre c suf more s = tt
stopped_same token.LeftParen pre c suf more s = tt
stopped_same token.RightParen pre c suf more s = tt
stopped_same token.LeftBracket pre c suf more s = tt
stopped_same token.RightBracket pre c suf more s = tt
stopped_same token.Comma pre c suf more s = tt

from_kept : (total position : ℕ) (negative : Bool) (z : ℤ) (y : ℕ) (digits rest : List ℕ) (x : Lexed) → number_of negative (digits_value (y ∷ digits)) ≡ Some z → number_from total position negative (y ∷ digits) rest ≡ Ok x → ◌≡◌ {A = Lexed} (token.Int z, rest) x
from_kept total position negative z y digits rest x o e = by (is_real rest) (number_of negative (digits_value (y ∷ digits))) o e where
  by : (v : Bool) (m : Option ℤ) → m ≡ Some z → ◌≡◌ {A = Result Lexed TermFault} (cond v (Err (Real position)) (in_range position m rest)) (Ok x) → ◌≡◌ {A = Lexed} (token.Int z, rest) x
  by true m em h = cc
  by false None em h = cc
  by false (Some w) em h = let same : z ≡ w = cc in ap (λ (n : ℤ). (token.Int n, rest)) same ∙ ok_same (token.Int w, rest) x h

number_kept : (total : ℕ) (z : ℤ) (digits text rest : List ℕ) (x : Lexed) → is_digits digits ≡ true → prefix_len is_digit rest ≡ 0 → ((text ≡ digits) × (z ≡ pos (digits_value digits)) × (digits_value digits < 2 ^ 63)) ⊎ ((text ≡ 45 ∷ digits) × (z ≡ neg_ℤ (pos (digits_value digits))) × (digits_value digits ≤ 2 ^ 63)) → number_at total (text ++ rest) ≡ Ok x → ◌≡◌ {A = Lexed} (token.Int z, rest) x
number_kept total z [] text rest x d a s e = absurd (false≢true d)
number_kept total z (y ∷ digits) text rest x d a (inl p) e =
    let q = and_parts (is_digit y) (list_all is_digit digits) d in
    let l = (y ∷ digits) ++ rest in
    let o : number_of false (digits_value (y ∷ digits)) ≡ Some z = rw (lt-ltb (digits_value (y ∷ digits)) (2 ^ 63) p.2) (ap Some (sym p.1)) in
    let at : number_at total (text ++ rest) ≡ number_from total (total - length l) false (y ∷ digits) rest =
    ap (λ (m : List ℕ). number_at total (m ++ rest)) p.0
    ∙ ap (λ v. number_from total (total - length l) v (take (prefix_len is_digit (drop (cond v 1 0) l)) (drop (cond v 1 0) l)) (drop (prefix_len is_digit (drop (cond v 1 0) l)) (drop (cond v 1 0) l))) (digit_unsigned y q.0)
    ∙ digits_taken total (total - length l) false (y ∷ digits) rest d a in
    from_kept total (total - length l) false z y digits rest x o (sym at ∙ e)
number_kept total z (y ∷ digits) text rest x d a (inr p) e =
    let l = (y ∷ digits) ++ rest in
    let o : number_of true (digits_value (y ∷ digits)) ≡ Some z = rw (le-leb (digits_value (y ∷ digits)) (2 ^ 63) p.2) (ap Some (sym p.1)) in
    let at : number_at total (text ++ rest) ≡ number_from total (total - length (45 ∷ l)) true (y ∷ digits) rest =
    ap (λ (m : List ℕ). number_at total (m ++ rest)) p.0 ∙ digits_taken total (total - length (45 ∷ l)) true (y ∷ digits) rest d a in
    from_kept total (total - length (45 ∷ l)) true z y digits rest x o (sym at ∙ e)

kept : (total : ℕ) (k : Token) (text rest : List ℕ) (x : Lexed) → SpellsToken k text → Stopped k rest → token_of (kind_of_token k) total (text ++ rest) ≡ Ok x → ◌≡◌ {A = Lexed} (k, rest) x
kept total (token.Int z) text rest x s a e = number_kept total z s.digits text rest x s.are_digits a s.signed e
kept total (token.Name name) text rest x s a e = ok_same (token.Name name, rest) x (sym (name_taken name rest s.0 a) ∙ ap (λ (l : List ℕ). name_at (l ++ rest)) (sym s.1) ∙ e)
kept total (token.Str bytes) text rest x s a e = ok_same (token.Str bytes, rest) x (sym (token_complete total (token.Str bytes) text rest s tt) ∙ e)
kept total token.LeftParen text rest x s a e = ok_same (token.LeftParen, rest) x (sym (token_complete total token.LeftParen text rest s tt) ∙ e)
kept total token.RightParen text rest x s a e = ok_same (token.RightParen, rest) x (sym (token_complete total token.RightParen text rest s tt) ∙ e)
kept total token.LeftBracket text rest x s a e = ok_same (token.LeftBracket, rest) x (sym (token_complete total token.LeftBracket text rest s tt) ∙ e)
kept total token.RightBracket text rest x s a e = ok_same (token.RightBracket, rest) x (sym (token_complete total token.RightBracket text rest s tt) ∙ e)
kept total token.Comma text rest x s a e = ok_same (token.Comma, rest) x (sym (token_complete total token.Comma text rest s tt) ∙ e)

-- The whole source.

abbrev Stop : Shape → ℕ → List ℕ → ℕ → Type 0
Stop s total bytes n = (pre : List ℕ) × (l : List ℕ) × (bytes ≡ pre ++ l) × (n ≡ total - length l)
    × ((c : ℕ) (suf : List ℕ) → l ≡ c ∷ suf → (other : ℕ) (more : List ℕ) (js : List Token) → Runs s other (pre ++ (c ∷ more)) js None → ⊥)

not_blank : (bytes : List ℕ) (b : ℕ) (l : List ℕ) → skip_blanks bytes ≡ b ∷ l → is_blank b ≡ false
not_blank [] b l e = cc
not_blank (c ∷ bytes) b l e = by (is_blank c) refl (not_blank bytes b l) e where
  by : (v : Bool) → is_blank c ≡ v → (skip_blanks bytes ≡ b ∷ l → is_blank b ≡ false) → cond v (skip_blanks bytes) (c ∷ bytes) ≡ b ∷ l → is_blank b ≡ false
  by true ev ih h = ih h
  by false ev ih h = let same : c ≡ b = cc in subst (λ n. is_blank n ≡ false) same ev

-- no run continues at a byte that begins no token
no_run : (s : Shape) (other : ℕ) (prefix : List ℕ) (b : ℕ) (l : List ℕ) (js : List Token) → list_all is_blank prefix ≡ true → is_blank b ≡ false → (allows s (kind_of b) ≡ true → (x : Lexed) → token_of (kind_of b) other (b ∷ l) ≡ Ok x → ⊥) → Runs s other (prefix ++ (b ∷ l)) js None → ⊥
no_run s other prefix b l [] h nb never r =
    let at : next_of s other (prefix ++ (b ∷ l)) ≡ next_at s other (b ∷ l) = ap (next_at s other) (skipped prefix b l h nb) in
    ends_by (allows s (kind_of b)) (token_of (kind_of b) other (b ∷ l)) (Syntax (other - length (b ∷ l))) (sym at ∙ r)
no_run s other prefix b l (j ∷ js) h nb never r =
    let at : next_of s other (prefix ++ (b ∷ l)) ≡ next_at s other (b ∷ l) = ap (next_at s other) (skipped prefix b l h nb) in
    let q = makes_by (allows s (kind_of b)) (token_of (kind_of b) other (b ∷ l)) (Syntax (other - length (b ∷ l))) j r.0 (sym at ∙ r.1) in
    never q.0 (j, r.0) q.1

-- after a token, the run continues
onward : (s : Shape) (other : ℕ) (prefix : List ℕ) (k : Token) (text rest : List ℕ) (js : List Token) → list_all is_blank prefix ≡ true → SpellsToken k text → Stopped k rest → Runs s other (prefix ++ (text ++ rest)) js None → (is : List Token) × Runs (after s k) other rest is None
onward s other prefix k text rest js h sp a r = by (begun k text sp) js r where
  by : Begun k text → (js : List Token) → Runs s other (prefix ++ (text ++ rest)) js None → (is : List Token) × Runs (after s k) other rest is None
  by b [] r =
      let l = b.1 ++ rest in
      let at : text ++ rest ≡ b.0 ∷ l = ap (λ (m : List ℕ). m ++ rest) b.2 in
      let reached : next_of s other (prefix ++ (text ++ rest)) ≡ next_at s other (b.0 ∷ l) = ap (λ (m : List ℕ). next_of s other (prefix ++ m)) at ∙ ap (next_at s other) (skipped prefix b.0 l h b.4) in
      absurd (ends_by (allows s (kind_of b.0)) (token_of (kind_of b.0) other (b.0 ∷ l)) (Syntax (other - length (b.0 ∷ l))) (sym reached ∙ r))
  by b (j ∷ js) r =
      let l = b.1 ++ rest in
      let at : text ++ rest ≡ b.0 ∷ l = ap (λ (m : List ℕ). m ++ rest) b.2 in
      let reached : next_of s other (prefix ++ (text ++ rest)) ≡ next_at s other (b.0 ∷ l) = ap (λ (m : List ℕ). next_of s other (prefix ++ m)) at ∙ ap (next_at s other) (skipped prefix b.0 l h b.4) in
      let q = makes_by (allows s (kind_of b.0)) (token_of (kind_of b.0) other (b.0 ∷ l)) (Syntax (other - length (b.0 ∷ l))) j r.0 (sym reached ∙ r.1) in
      let found : token_of (kind_of_token k) other (text ++ rest) ≡ Ok (j, r.0) =
      ap (λ (m : List ℕ). token_of (kind_of_token k) other m) at ∙ ap (λ (n : Kind). token_of n other (b.0 ∷ l)) (sym b.3) ∙ q.1 in
      (js, subst (λ (y : Lexed). Runs (after s y.0) other y.1 js None) (sym (kept other k text rest (j, r.0) sp a found)) r.2)

pub end_position : (v : Bool) (total n : ℕ) → cond v (Stops None) (Stops (Some (Syntax total))) ≡ Stops (Some (Syntax n)) → n ≡ total
end_position true total n e = cc
end_position false total n e = cc

pub made_err : (r : Result Lexed TermFault) (f : TermFault) → made r ≡ Stops (Some f) → r ≡ Err f
made_err (Ok x) f e = cc
made_err (Err g) f e = let same : g ≡ f = cc in ap (λ (h : TermFault). Err h) same

-- the first byte is kept
head_kept : (b : ℕ) (l pre end : List ℕ) (c : ℕ) (suf more : List ℕ) → b ∷ l ≡ pre ++ end → end ≡ c ∷ suf → (tail : List ℕ) × (pre ++ (c ∷ more) ≡ b ∷ tail)
head_kept b l [] end c suf more e h =
    let both : b ∷ l ≡ c ∷ suf = e ∙ h in
    let same : c ≡ b = cc in
    (more, ap (λ n. n ∷ more) same)
head_kept b l (x ∷ pre) end c suf more e h =
    let same : x ≡ b = cc in
    (pre ++ (c ∷ more), ap (λ n. n ∷ (pre ++ (c ∷ more))) same)

ends_stop : (s : Shape) (total : ℕ) (bytes prefix l : List ℕ) (n : ℕ) → bytes ≡ prefix ++ l → list_all is_blank prefix ≡ true → skip_blanks bytes ≡ l → next_at s total l ≡ Stops (Some (Syntax n)) → Stop s total bytes n
ends_stop s total bytes prefix [] n e h same r = (prefix, [], e, end_position (may_end s.expect s.brackets) total n r ∙ omega arith, λ c suf is. absurd (nil_cons c suf is)) where
  nil_cons : (c : ℕ) (suf : List ℕ) → [] ≡ c ∷ suf → ⊥
  nil_cons c suf is = cc
ends_stop s total bytes prefix (b ∷ l) n e h same r = by (allows s (kind_of b)) refl r where
  nb : is_blank b ≡ false
  nb = not_blank bytes b l same

  by : (v : Bool) → allows s (kind_of b) ≡ v → cond v (made (token_of (kind_of b) total (b ∷ l))) (Stops (Some (Syntax (total - length (b ∷ l))))) ≡ Stops (Some (Syntax n)) → Stop s total bytes n
  by false ev q = (
    prefix,
    b ∷ l,
    e,
    position q,
    λ c suf first other more js run.
        no_run s other prefix b more js h nb (λ ok x found. false≢true (sym ev ∙ ok)) (subst (λ m. Runs s other (prefix ++ (m ∷ more)) js None) (sym (heads first)) run),
  ) where
    position : ◌≡◌ {A = Next} (Stops (Some (Syntax (total - length (b ∷ l))))) (Stops (Some (Syntax n))) → n ≡ total - length (b ∷ l)
    position g = cc

    heads : {c : ℕ} {suf : List ℕ} → b ∷ l ≡ c ∷ suf → b ≡ c
    heads g = cc
  by true ev q =
      let t = token_stop (kind_of b) total (b ∷ l) n (kind_begins b l) (made_err (token_of (kind_of b) total (b ∷ l)) (Syntax n) q) in (
        prefix ++ t.0,
        t.1,
        e ∙ ap (λ (m : List ℕ). prefix ++ m) t.2 ∙ sym (append_assoc prefix t.0 t.1),
        t.3,
        λ c suf first other more js run.
            let k = head_kept b l t.0 t.1 c suf more t.2 first in
            let regrouped : (prefix ++ t.0) ++ (c ∷ more) ≡ prefix ++ (b ∷ k.0) = append_assoc prefix t.0 (c ∷ more) ∙ ap (λ (m : List ℕ). prefix ++ m) k.1 in
            no_run s other prefix b k.0 js h nb (λ ok x found. t.4 c suf first other more x (ap (λ (m : List ℕ). token_of (kind_of b) other m) k.1 ∙ found)) (subst (λ (m : List ℕ). Runs s other m js None) regrouped run),
      )

made_stop : (s : Shape) (total : ℕ) (prefix l bytes : List ℕ) (k : Token) (rest : List ℕ) (n : ℕ) → bytes ≡ prefix ++ l → list_all is_blank prefix ≡ true → next_at s total l ≡ Makes k rest → Stop (after s k) total rest n → Stop s total bytes n
made_stop s total prefix [] bytes k rest n e h r st = absurd (not_makes (may_end s.expect s.brackets) (Syntax total) k rest r)
made_stop s total prefix (b ∷ l) bytes k rest n e h r st =
    let p = makes_by (allows s (kind_of b)) (token_of (kind_of b) total (b ∷ l)) (Syntax (total - length (b ∷ l))) k rest r in
    let found = token_sound (kind_of b) total (b ∷ l) (k, rest) (kind_begins b l) p.1 in
    let text = found.0 in
    let stopped : Stopped k rest = token_stopped (kind_of b) total (b ∷ l) (k, rest) p.1 in
    let at : bytes ≡ (prefix ++ (text ++ st.0)) ++ st.1 =
    e ∙ ap (λ (m : List ℕ). prefix ++ m) (found.1 ∙ ap (λ (m : List ℕ). text ++ m) st.2 ∙ sym (append_assoc text st.0 st.1)) ∙ sym (append_assoc prefix (text ++ st.0) st.1) in (
      prefix ++ (text ++ st.0),
      st.1,
      at,
      st.3,
      λ c suf first other more js run.
          let tail = st.0 ++ (c ∷ more) in
          let regrouped : (prefix ++ (text ++ st.0)) ++ (c ∷ more) ≡ prefix ++ (text ++ tail) = append_assoc prefix (text ++ st.0) (c ∷ more) ∙ ap (λ (m : List ℕ). prefix ++ m) (append_assoc text st.0 (c ∷ more)) in
          let again : Stopped k (st.0 ++ (c ∷ suf)) = subst (λ (m : List ℕ). Stopped k m) (st.2 ∙ ap (λ (m : List ℕ). st.0 ++ m) first) stopped in
          let o = onward s other prefix k text tail js h found.2 (stopped_same k st.0 c suf more again) (subst (λ (m : List ℕ). Runs s other m js None) regrouped run) in
          st.4 c suf first other more o.0 o.1,
    )

runs_stop : (ks : List Token) (s : Shape) (total : ℕ) (bytes : List ℕ) (n : ℕ) → Runs s total bytes ks (Some (Syntax n)) → Stop s total bytes n
runs_stop [] s total bytes n r = let p = blanks bytes in ends_stop s total bytes p.0 (skip_blanks bytes) n p.1 p.2 refl r
runs_stop (k ∷ ks) s total bytes n r =
    let p = blanks bytes in
    made_stop s total p.0 (skip_blanks bytes) bytes k r.0 n p.1 p.2 r.1 (runs_stop ks (after s k) total r.0 n r.2)

pub position_of : (bytes pre l : List ℕ) (n : ℕ) → bytes ≡ pre ++ l → n ≡ length bytes - length l → n ≡ length pre
position_of bytes pre l n e h =
    let len : length bytes ≡ length pre + length l = ap (λ (m : List ℕ). length m) e ∙ length-append pre l in
    omega arith

pub syntax_stop : (bytes : List ℕ) (n : ℕ) → StopsAt bytes (Syntax n) → n < length bytes → (rest : List ℕ) (t : Term) → Reads (take (n + 1) bytes ++ rest) t → ⊥
syntax_stop bytes n f lt rest t r =
    let st = runs_stop f.0 start (length bytes) bytes n f.1 in
    by st.0 st.1 st.2 st.3 st.4 where
      by : (pre l : List ℕ) → bytes ≡ pre ++ l → n ≡ length bytes - length l → ((c : ℕ) (suf : List ℕ) → l ≡ c ∷ suf → (other : ℕ) (more : List ℕ) (js : List Token) → Runs start other (pre ++ (c ∷ more)) js None → ⊥) → ⊥
      by pre [] e h never = let all : n ≡ length bytes = h ∙ omega arith in omega arith
      by pre (c ∷ suf) e h never =
          let len : n ≡ length pre = position_of bytes pre (c ∷ suf) n e h in
          let prefix : take (n + 1) bytes ≡ pre ++ (c ∷ []) =
          ap (λ m. take (m + 1) bytes) len ∙ ap (λ (m : List ℕ). take (length pre + 1) m) e ∙ take-append-add pre (c ∷ suf) 1 in
          let whole : take (n + 1) bytes ++ rest ≡ pre ++ (c ∷ rest) = ap (λ (m : List ℕ). m ++ rest) prefix ∙ append_assoc pre (c ∷ []) rest in
          let total = length (take (n + 1) bytes ++ rest) in
          never c suf refl total rest (tokens_of t) (subst (λ (m : List ℕ). Runs start total m (tokens_of t) None) whole (reads_scans (take (n + 1) bytes ++ rest) t r))
