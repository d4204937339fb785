-- The bytes before an error can be continued to a source that parses as a term.
use Rattle.std.proofs.Common.{◌≡◌, ℕ, pos, neg_ℤ, zero, suc, ◌+◌, ◌-◌, ◌≤◌, Bool, true, false, not, leb, ◌&&◌, ◌||◌, ◌⊎◌, cond, eqb, ltb, List, [], ◌∷◌, ◌++◌, length, take, drop, Option, Some, None, Result, Ok, Err, refl, ap, sym, ◌∙◌, subst, inl, inr, arith, lit≤, append_assoc, append-nil}
use Rattle.std.proofs.Math.Seq.{take-append_seam, drop-append_seam}
use Rattle.std.proofs.lemmas.Bool.{false≢true, eqb-true, lt-ltb, le-leb}
use Rattle.std.proofs.lemmas.List.{take-append-drop, length-append}
use Rattle.std.proofs.lemmas.List.Folds.{list_all-append}
use Rattle.std.specs.List.{list_all, prefix_len}
use Rattle.tb_terms.specs.Names.{is_digit}
use Rattle.tb_terms.specs.declared.term.Term.{Term}
use Rattle.tb_read.specs.declared.quoted.Within.{Within}
use Rattle.tb_read.specs.declared.quoted.Within.TheVariants.{Between, Escaped, Going}
use Rattle.tb_read.specs.declared.quoted.Turn.{Turn}
use Rattle.tb_read.specs.declared.quoted.Turn.TheVariants.{Ends, Goes, Puts, Bad}
use Rattle.tb_read.specs.declared.fault.TermFault.{TermFault}
use Rattle.tb_read.specs.declared.fault.TermFault.TheVariants.{Syntax}
use Rattle.tb_read.specs.declared.token.Token.{Token}
use Rattle.tb_read.specs.declared.token.Token.TheVariants as token
use Rattle.tb_read.specs.declared.kind.Kind.{Kind}
use Rattle.tb_read.specs.declared.kind.Kind.TheVariants as kind
use Rattle.tb_read.specs.declared.shape.Shape.{Shape}
use Rattle.tb_read.specs.declared.shape.Expect.{Expect}
use Rattle.tb_read.specs.declared.shape.Expect.TheVariants as expect
use Rattle.tb_read.specs.declared.shape.Bracket.{Bracket}
use Rattle.tb_read.specs.declared.shape.Bracket.TheVariants.{Paren, Square}
use Rattle.tb_read.specs.Spelling.{is_blank, SpellsNumber, SpellsToken, Spaced, Reads}
use Rattle.tb_read.specs.Lexing.{skip_blanks, string_turn, escaped_turn, unescaped, lead, string_rest, with_prefix, string_of, number_from, number_at, kind_of, token_of}
use Rattle.tb_read.specs.Helpers.Answers.{begins_with}
use Rattle.tb_read.specs.Scanning.{Makes, Ends as Stops, allows, after, may_end, made, next_at, start, Runs}
use Rattle.tb_read.specs.Reading.{StopsAt}
use Rattle.tb_read.proofs.Strings.{turned}
use Rattle.tb_read.proofs.Chars.{puts, goes}
use Rattle.tb_read.proofs.Grammar.{kind_of_token, accepts, sh, going, closes_paren, closes_square, may_end-going, term-accepts}
use Rattle.tb_read.proofs.Lexed.{token_sound, kind_begins, blanks, makes_by, not_makes, unsigned_spelled, signed_spelled}
use Rattle.tb_read.proofs.Stops.{same_position, prefix_err, string_of_err, digits_stop, prefix_digit, made_err, end_position, position_of}

-- Each state of a scan can be completed.

-- some tokens complete this shape, and these bytes with some rest spell these tokens
abbrev pub Begins : Shape → List ℕ → Type 0
Begins s pre = (js : List Token) × (rest : List ℕ) × (accepts s js ≡ true) × Spaced js (pre ++ rest)

pub spells_zero : SpellsNumber (pos 0) (48 ∷ [])
spells_zero = unsigned_spelled (48 ∷ []) (pos 0) refl refl

spells_minus_zero : SpellsNumber (neg_ℤ (pos 0)) (45 ∷ 48 ∷ [])
spells_minus_zero = signed_spelled (48 ∷ []) (neg_ℤ (pos 0)) refl refl

-- the brackets are closed
closing : (bs : List Bracket) → (js : List Token) × (rest : List ℕ) × ((e : Expect) → going e ≡ true → accepts (sh e bs) js ≡ true) × Spaced js rest
closing [] = ([], [], may_end-going, refl)
closing (Paren ∷ bs) =
    let m = closing bs in
    (token.RightParen ∷ m.0, 41 ∷ m.1, λ e g. closes_paren e g bs m.0 ∙ m.2 expect.Further refl, ([], 41 ∷ [], m.1, refl, refl, refl, m.3))
closing (Square ∷ bs) =
    let m = closing bs in
    (token.RightBracket ∷ m.0, 93 ∷ m.1, λ e g. closes_square e g bs m.0 ∙ m.2 expect.Further refl, ([], 93 ∷ [], m.1, refl, refl, refl, m.3))

ahead : (e : Expect) (bs : List Bracket) → Begins (sh e bs) []
ahead expect.Term bs = let m = closing bs in (token.Int (pos 0) ∷ m.0, 48 ∷ m.1, m.2 expect.Further refl, ([], 48 ∷ [], m.1, refl, refl, spells_zero, m.3))
ahead expect.First bs = let m = closing bs in (token.Int (pos 0) ∷ m.0, 48 ∷ m.1, m.2 expect.Further refl, ([], 48 ∷ [], m.1, refl, refl, spells_zero, m.3))
ahead expect.Further bs = let m = closing bs in (m.0, m.1, m.2 expect.Further refl, m.3)
ahead expect.Named bs = let m = closing bs in (m.0, m.1, m.2 expect.Named refl, m.3)

all_blank : (prefix l : List ℕ) → list_all is_blank prefix ≡ true → list_all is_blank l ≡ true → list_all is_blank (prefix ++ l) ≡ true
all_blank prefix l h e = list_all-append is_blank prefix l ∙ ap (λ v. v && list_all is_blank l) h ∙ e

spaced_behind : (prefix : List ℕ) (js : List Token) (l : List ℕ) → list_all is_blank prefix ≡ true → Spaced js l → Spaced js (prefix ++ l)
spaced_behind prefix [] l h s = all_blank prefix l h s
spaced_behind prefix (k ∷ js) l h s =
    let at : prefix ++ l ≡ ((prefix ++ s.0) ++ s.1) ++ s.2 =
    ap (λ (m : List ℕ). prefix ++ m) s.3 ∙ sym (append_assoc prefix (s.0 ++ s.1) s.2) ∙ ap (λ (m : List ℕ). m ++ s.2) (sym (append_assoc prefix s.0 s.1)) in
    (prefix ++ s.0, s.1, s.2, at, all_blank prefix s.0 h s.4, s.5, s.6)

-- after whitespace
behind : (s : Shape) (prefix : List ℕ) → list_all is_blank prefix ≡ true → Begins s prefix
behind s prefix h = let b = ahead s.expect s.brackets in (b.0, b.1, b.2, spaced_behind prefix b.0 b.1 h b.3)

-- after whitespace and a prefix of a token
pub within_token : (s : Shape) (prefix : List ℕ) (k : Token) (pre tail : List ℕ) → list_all is_blank prefix ≡ true → allows s (kind_of_token k) ≡ true → SpellsToken k (pre ++ tail) → Begins s (prefix ++ pre)
within_token s prefix k pre tail h a sp =
    let b = ahead (after s k).expect (after s k).brackets in
    let r = b.1 in
    let at : (prefix ++ pre) ++ (tail ++ r) ≡ (prefix ++ (pre ++ tail)) ++ r =
    append_assoc prefix pre (tail ++ r) ∙ ap (λ (m : List ℕ). prefix ++ m) (sym (append_assoc pre tail r)) ∙ sym (append_assoc prefix (pre ++ tail) r) in
    (k ∷ b.0, tail ++ r, ap (λ v. v && accepts (after s k) b.0) a ∙ b.2, (prefix, pre ++ tail, r, at, h, sp, b.3))

-- after a whole token
behind_token : (s : Shape) (prefix : List ℕ) (k : Token) (text pre : List ℕ) → list_all is_blank prefix ≡ true → allows s (kind_of_token k) ≡ true → SpellsToken k text → Begins (after s k) pre → Begins s (prefix ++ (text ++ pre))
behind_token s prefix k text pre h a sp b =
    let at : (prefix ++ (text ++ pre)) ++ b.1 ≡ (prefix ++ text) ++ (pre ++ b.1) =
    append_assoc prefix (text ++ pre) b.1 ∙ ap (λ (m : List ℕ). prefix ++ m) (append_assoc text pre b.1) ∙ sym (append_assoc prefix text (pre ++ b.1)) in
    (k ∷ b.0, b.1, ap (λ v. v && accepts (after s k) b.0) a ∙ b.2, (prefix, text, pre ++ b.1, at, h, sp, b.3))

-- The position of an error: the bytes from there satisfy `Q`, and the bytes before it can be continued with these bytes.
abbrev pub Position : (List ℕ → Type 0) → List ℕ → Shape → ℕ → List ℕ → ℕ → Type 0
Position Q next s total bytes n = (pre : List ℕ) × (l : List ℕ) × (bytes ≡ pre ++ l) × (n ≡ total - length l) × Q l × Begins s (pre ++ next)

made_position : (Q : List ℕ → Type 0) (next : List ℕ) (s : Shape) (total : ℕ) (prefix l bytes : List ℕ) (k : Token) (rest : List ℕ) (n : ℕ) → bytes ≡ prefix ++ l → list_all is_blank prefix ≡ true → next_at s total l ≡ Makes k rest → Position Q next (after s k) total rest n → Position Q next s total bytes n
made_position Q next s total prefix [] bytes k rest n e h r st = absurd (not_makes (may_end s.expect s.brackets) (Syntax total) k rest r)
made_position Q next s total prefix (b ∷ l) bytes k rest n e h r st =
    let p = makes_by (allows s (kind_of b)) (token_of (kind_of b) total (b ∷ l)) (Syntax (total - length (b ∷ l))) k rest r in
    let found = token_sound (kind_of b) total (b ∷ l) (k, rest) (kind_begins b l) p.1 in
    let text = found.0 in
    let at : bytes ≡ (prefix ++ (text ++ st.0)) ++ st.1 =
    e ∙ ap (λ (m : List ℕ). prefix ++ m) (found.1 ∙ ap (λ (m : List ℕ). text ++ m) st.2 ∙ sym (append_assoc text st.0 st.1)) ∙ sym (append_assoc prefix (text ++ st.0) st.1) in
    let regrouped : prefix ++ (text ++ (st.0 ++ next)) ≡ (prefix ++ (text ++ st.0)) ++ next =
    ap (λ (m : List ℕ). prefix ++ m) (sym (append_assoc text st.0 next)) ∙ sym (append_assoc prefix (text ++ st.0) next) in
    let allowed : allows s (kind_of_token k) ≡ true = ap (allows s) found.3 ∙ p.0 in
    (prefix ++ (text ++ st.0), st.1, at, st.3, st.4, subst (λ (m : List ℕ). Begins s m) regrouped (behind_token s prefix k text (st.0 ++ next) h allowed found.2 st.5))

pub runs_position : (Q : List ℕ → Type 0) (next : List ℕ) (f : TermFault) (n : ℕ) → ((s : Shape) (total : ℕ) (bytes prefix l : List ℕ) → bytes ≡ prefix ++ l → list_all is_blank prefix ≡ true → next_at s total l ≡ Stops (Some f) → Position Q next s total bytes n) → (ks : List Token) (s : Shape) (total : ℕ) (bytes : List ℕ) → Runs s total bytes ks (Some f) → Position Q next s total bytes n
runs_position Q next f n base [] s total bytes r = let p = blanks bytes in base s total bytes p.0 (skip_blanks bytes) p.1 p.2 r
runs_position Q next f n base (k ∷ ks) s total bytes r =
    let p = blanks bytes in
    made_position Q next s total p.0 (skip_blanks bytes) bytes k r.0 n p.1 p.2 r.1 (runs_position Q next f n base ks (after s k) total r.0 r.2)

-- the position of an error in a whole source
pub continues_with : (Q : List ℕ → Type 0) (next bytes : List ℕ) (n : ℕ) → Position Q next start (length bytes) bytes n → (n ≤ length bytes) × Q (drop n bytes) × ((rest : List ℕ) × (t : Term) × Reads ((take n bytes ++ next) ++ rest) t)
continues_with Q next bytes n p =
    let len : n ≡ length p.0 = position_of bytes p.0 p.1 n p.2 p.3 in
    let all : length bytes ≡ length p.0 + length p.1 = ap (λ (m : List ℕ). length m) p.2 ∙ length-append p.0 p.1 in
    let prefix : take n bytes ≡ p.0 = ap (λ m. take m bytes) len ∙ ap (λ (m : List ℕ). take (length p.0) m) p.2 ∙ take-append_seam p.0 p.1 in
    let b = p.5 in
    let t = term-accepts b.0 b.2 in
    let read : Reads ((p.0 ++ next) ++ b.1) t.0 = subst (λ (js : List Token). Spaced js ((p.0 ++ next) ++ b.1)) t.2 b.3 in
    let behind_it : drop n bytes ≡ p.1 = ap (λ m. drop m bytes) len ∙ ap (λ (m : List ℕ). drop (length p.0) m) p.2 ∙ drop-append_seam p.0 p.1 in
    (omega arith, subst Q (sym behind_it) p.4, (b.1, t.0, subst (λ (m : List ℕ). Reads ((m ++ next) ++ b.1) t.0) (sym prefix) read))

-- A string that has begun can be completed.

abbrev Pair : Type 0
Pair = List ℕ × List ℕ

abbrev pub strung : List ℕ → List ℕ → Result Pair TermFault
strung bytes rest = Ok (bytes, rest)

abbrev pub Ready : Within → Type 0
Ready Between = Unit {0}
Ready Escaped = Unit {0}
Ready (Going more low high) = low ≤ high

abbrev pub ReadyTurn : Turn → Type 0
ReadyTurn Ends = Unit {0}
ReadyTurn (Goes next) = Ready next
ReadyTurn (Puts put next) = Ready next
ReadyTurn Bad = Unit {0}

lead_by : (b : ℕ) (p q r s t u v w x : Bool) → ReadyTurn (cond p (Puts b Between) (cond q Bad (cond r (Puts b (Going 1 128 191)) (cond s (Puts b (Going 2 160 191)) (cond t (Puts b (Going 2 128 159)) (cond u (Puts b (Going 2 128 191)) (cond v (Puts b (Going 3 144 191)) (cond w (Puts b (Going 3 128 191)) (cond x (Puts b (Going 3 128 143)) Bad)))))))))
lead_by b true q r s t u v w x = tt
lead_by b false true r s t u v w x = tt
lead_by b false false true s t u v w x = lit≤ tt
lead_by b false false false true t u v w x = lit≤ tt
lead_by b false false false false true u v w x = lit≤ tt
lead_by b false false false false false true v w x = lit≤ tt
lead_by b false false false false false false true w x = lit≤ tt
lead_by b false false false false false false false true x = lit≤ tt
lead_by b false false false false false false false false true = lit≤ tt
lead_by b false false false false false false false false false = tt

between_by : (b : ℕ) (p q r : Bool) → ReadyTurn (cond p Ends (cond q (Goes Escaped) (cond r Bad (lead b))))
between_by b true q r = tt
between_by b false true r = tt
between_by b false false true = tt
between_by b false false false = lead_by b (ltb b 128) (ltb b 194) (ltb b 224) (eqb b 224) (eqb b 237) (ltb b 240) (eqb b 240) (ltb b 244) (eqb b 244)

escaped_by : (o : Option ℕ) → ReadyTurn (escaped_turn o)
escaped_by None = tt
escaped_by (Some b) = tt

going_by : (more b : ℕ) (p r : Bool) → ReadyTurn (cond p (Puts b (cond r Between (Going (more - 1) 128 191))) Bad)
going_by more b true true = tt
going_by more b true false = lit≤ tt
going_by more b false r = tt

pub turn_ready : (w : Within) (b : ℕ) → ReadyTurn (string_turn w b)
turn_ready Between b = between_by b (eqb b 34) (eqb b 92) (ltb b 32 && not (eqb b 9))
turn_ready Escaped b = escaped_by (unescaped b)
turn_ready (Going more low high) b = going_by more b (leb low b && leb b high) (ltb more 2)

abbrev pub Closed : Within → Type 0
Closed w = (tail : List ℕ) × (put : List ℕ) × ((other : ℕ) → string_rest other w tail ≡ strung put [])

going_put : (more low high : ℕ) → low ≤ high → (v : Within) → cond (ltb more 2) Between (Going (more - 1) 128 191) ≡ v → Closed v → Closed (Going more low high)
going_put more low high r v e c =
    let turn : string_turn (Going more low high) low ≡ Puts low v = rw (le-leb low low (omega arith), le-leb low high r) (ap (λ (u : Within). Puts low u) e) in
    (low ∷ c.0, low ∷ c.1, λ other. puts other (Going more low high) v low low c.0 turn ∙ ap (λ (x : Result Pair TermFault). with_prefix (low ∷ []) x) (c.2 other))

close_between : Closed Between
close_between = (34 ∷ [], [], λ other. refl)

close_going : (n more low high : ℕ) → more ≤ n → low ≤ high → Closed (Going more low high)
close_going zero more low high m r = going_put more low high r Between (rw (lt-ltb more 2 (omega arith)) refl) close_between
close_going (suc n) more low high m r = by (ltb more 2) refl (close_going n (more - 1) 128 191 (omega arith) (lit≤ tt)) where
  by : (v : Bool) → ltb more 2 ≡ v → Closed (Going (more - 1) 128 191) → Closed (Going more low high)
  by true ev c = going_put more low high r Between (rw ev refl) close_between
  by false ev c = going_put more low high r (Going (more - 1) 128 191) (rw ev refl) c

pub close : (w : Within) → Ready w → Closed w
close Between r = close_between
close Escaped r = (34 ∷ 34 ∷ [], 34 ∷ [], λ other. refl)
close (Going more low high) r = close_going more more low high (omega arith) r

abbrev RestBegins : ℕ → Within → List ℕ → ℕ → Type 0
RestBegins total w bytes n = (pre : List ℕ) × (l : List ℕ) × (bytes ≡ pre ++ l) × (n ≡ total - length l) × (tail : List ℕ) × (put : List ℕ) × ((other : ℕ) → string_rest other w (pre ++ tail) ≡ strung put [])

rest_begins : (total : ℕ) (bytes : List ℕ) (w : Within) (n : ℕ) → Ready w → string_rest total w bytes ≡ Err (Syntax n) → RestBegins total w bytes n
rest_begins total [] w n r e = let c = close w r in ([], [], refl, sym (same_position total n e) ∙ omega arith, c.0, c.1, c.2)
rest_begins total (b ∷ bytes) w n r e = by (string_turn w b) refl (turn_ready w b) e (rest_begins total bytes) where
  by : (t : Turn) → string_turn w b ≡ t → ReadyTurn t → turned total t bytes ≡ Err (Syntax n) → ((v : Within) (m : ℕ) → Ready v → string_rest total v bytes ≡ Err (Syntax m) → RestBegins total v bytes m) → RestBegins total w (b ∷ bytes) n
  by Ends et rt q ih = cc
  by (Goes v) et rt q ih =
      let s = ih v n rt q in
      (b ∷ s.0, s.1, ap (λ (m : List ℕ). b ∷ m) s.2, s.3, s.4, s.5, λ other. goes other w v b (s.0 ++ s.4) et ∙ s.6 other)
  by (Puts c v) et rt q ih =
      let s = ih v n rt (prefix_err (c ∷ []) (string_rest total v bytes) (Syntax n) q) in
      (b ∷ s.0, s.1, ap (λ (m : List ℕ). b ∷ m) s.2, s.3, s.4, c ∷ s.5, λ other. puts other w v b c (s.0 ++ s.4) et ∙ ap (λ (x : Result Pair TermFault). with_prefix (c ∷ []) x) (s.6 other))
  by Bad et rt q ih = let c = close w r in ([], b ∷ bytes, refl, sym (same_position (total - suc (length bytes)) n q), c.0, c.1, c.2)

-- Before a syntax error.

abbrev TokenBegins : Kind → ℕ → List ℕ → ℕ → Type 0
TokenBegins next total bytes n = (pre : List ℕ) × (l : List ℕ) × (bytes ≡ pre ++ l) × (n ≡ total - length l)
    × ((pre ≡ []) ⊎ ((k : Token) × (tail : List ℕ) × SpellsToken k (pre ++ tail) × (kind_of_token k ≡ next)))

number_begins : (total b : ℕ) (bytes : List ℕ) (n : ℕ) → begins_with kind.Int (b ∷ bytes) ≡ true → number_at total (b ∷ bytes) ≡ Err (Syntax n) → TokenBegins kind.Int total (b ∷ bytes) n
number_begins total b bytes n h e = by (eqb b 45) refl e where
  by : (v : Bool) → eqb b 45 ≡ v → number_from total (total - length (b ∷ bytes)) v (take (prefix_len is_digit (drop (cond v 1 0) (b ∷ bytes))) (drop (cond v 1 0) (b ∷ bytes))) (drop (prefix_len is_digit (drop (cond v 1 0) (b ∷ bytes))) (drop (cond v 1 0) (b ∷ bytes))) ≡ Err (Syntax n) → TokenBegins kind.Int total (b ∷ bytes) n
  by true ev g =
      let len = prefix_len is_digit bytes in
      let s = digits_stop total (total - length (b ∷ bytes)) true (take len bytes) (drop len bytes) n g in
      let all : drop len bytes ≡ bytes = ap (λ (l : List ℕ). l ++ drop len bytes) (sym s.0) ∙ take-append-drop len bytes in
      (45 ∷ [], bytes, ap (λ m. m ∷ bytes) (eqb-true b 45 ev), s.1 ∙ ap (λ (l : List ℕ). total - length l) all, inr (token.Int (neg_ℤ (pos 0)), 48 ∷ [], spells_minus_zero, refl))
  by false ev g =
      let s = digits_stop total (total - length (b ∷ bytes)) false (take (prefix_len is_digit (b ∷ bytes)) (b ∷ bytes)) (drop (prefix_len is_digit (b ∷ bytes)) (b ∷ bytes)) n g in
      let none : is_digit b ≡ false = prefix_digit b bytes s.0 in
      absurd (false≢true (sym (ap (λ v. v || eqb b 45) none ∙ ev) ∙ h))

string_begins : (total b : ℕ) (bytes : List ℕ) (n : ℕ) → begins_with kind.Str (b ∷ bytes) ≡ true → string_rest total Between bytes ≡ Err (Syntax n) → TokenBegins kind.Str total (b ∷ bytes) n
string_begins total b bytes n h e =
    let s = rest_begins total bytes Between n tt e in
    let text = b ∷ (s.0 ++ s.4) in
    let found = token_sound kind.Str 0 text (token.Str s.5, []) h (ap (λ (r : Result Pair TermFault). string_of r) (s.6 0)) in
    let all : text ≡ found.0 = found.1 ∙ append-nil found.0 in
    (b ∷ s.0, s.1, ap (λ (m : List ℕ). b ∷ m) s.2, s.3, inr (token.Str s.5, s.4, subst (λ (m : List ℕ). SpellsToken (token.Str s.5) m) (sym all) found.2, refl))

token_begins : (next : Kind) (total : ℕ) (bytes : List ℕ) (n : ℕ) → begins_with next bytes ≡ true → token_of next total bytes ≡ Err (Syntax n) → TokenBegins next total bytes n
token_begins next total [] n h e = absurd (false≢true h)
token_begins kind.LeftParen total (b ∷ bytes) n h e = cc
token_begins kind.RightParen total (b ∷ bytes) n h e = cc
token_begins kind.LeftBracket total (b ∷ bytes) n h e = cc
token_begins kind.RightBracket total (b ∷ bytes) n h e = cc
token_begins kind.Comma total (b ∷ bytes) n h e = cc
token_begins kind.Name total (b ∷ bytes) n h e = cc
token_begins kind.Int total (b ∷ bytes) n h e = number_begins total b bytes n h e
token_begins kind.Other total (b ∷ bytes) n h e = ([], b ∷ bytes, refl, sym (same_position (total - length (b ∷ bytes)) n e), inl refl)
token_begins kind.Str total (b ∷ bytes) n h e = string_begins total b bytes n h (string_of_err (string_rest total Between bytes) (Syntax n) e)

abbrev Anything : List ℕ → Type 0
Anything l = Unit {0}

with_nil : (s : Shape) (prefix : List ℕ) → Begins s prefix → Begins s (prefix ++ [])
with_nil s prefix b = subst (λ (m : List ℕ). Begins s m) (sym (append-nil prefix)) b

ends_begins : (n : ℕ) (s : Shape) (total : ℕ) (bytes prefix l : List ℕ) → bytes ≡ prefix ++ l → list_all is_blank prefix ≡ true → next_at s total l ≡ Stops (Some (Syntax n)) → Position Anything [] s total bytes n
ends_begins n s total bytes prefix [] e h r = (prefix, [], e, end_position (may_end s.expect s.brackets) total n r ∙ omega arith, tt, with_nil s prefix (behind s prefix h))
ends_begins n s total bytes prefix (b ∷ l) e h r = by (allows s (kind_of b)) refl r where
  by_token : allows s (kind_of b) ≡ true → (t : TokenBegins (kind_of b) total (b ∷ l) n) → Begins s (prefix ++ t.0)
  by_token a t = cases t.4 where
    cases : ((t.0 ≡ []) ⊎ ((k : Token) × (tail : List ℕ) × SpellsToken k (t.0 ++ tail) × (kind_of_token k ≡ kind_of b))) → Begins s (prefix ++ t.0)
    cases (inl none) = subst (λ (m : List ℕ). Begins s (prefix ++ m)) (sym none) (with_nil s prefix (behind s prefix h))
    cases (inr k) = within_token s prefix k.0 t.0 k.1 h (ap (allows s) k.3 ∙ a) k.2

  by : (v : Bool) → allows s (kind_of b) ≡ v → cond v (made (token_of (kind_of b) total (b ∷ l))) (Stops (Some (Syntax (total - length (b ∷ l))))) ≡ Stops (Some (Syntax n)) → Position Anything [] s total bytes n
  by false ev q = (prefix, b ∷ l, e, end_position false (total - length (b ∷ l)) n q, tt, with_nil s prefix (behind s prefix h))
  by true ev q =
      let t = token_begins (kind_of b) total (b ∷ l) n (kind_begins b l) (made_err (token_of (kind_of b) total (b ∷ l)) (Syntax n) q) in
      (prefix ++ t.0, t.1, e ∙ ap (λ (m : List ℕ). prefix ++ m) t.2 ∙ sym (append_assoc prefix t.0 t.1), t.3, tt, with_nil s (prefix ++ t.0) (by_token ev t))

pub syntax_begin : (bytes : List ℕ) (n : ℕ) → StopsAt bytes (Syntax n) → (n ≤ length bytes) × ((rest : List ℕ) × (t : Term) × Reads (take n bytes ++ rest) t)
syntax_begin bytes n f =
    let g = continues_with Anything [] bytes n (runs_position Anything [] (Syntax n) n (ends_begins n) f.0 start (length bytes) bytes f.1) in
    (g.0, (g.2.0, g.2.1, subst (λ (m : List ℕ). Reads (m ++ g.2.0) g.2.1) (append-nil (take n bytes)) g.2.2))
