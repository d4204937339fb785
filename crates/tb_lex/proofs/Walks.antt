-- How a reader walks through a string, byte by byte.
use Rattle.std.proofs.Common.{◌≡◌, ℕ, true, ◌⊎◌, List, [], ◌∷◌, ◌++◌, Option, Some, None, Result, Ok, refl, ap, sym, ◌∙◌, subst, inl, inr, arith, append_assoc, append-nil}
use Rattle.std.proofs.lemmas.Bool.{false≢true, lt-leb, and_parts}
use Rattle.std.proofs.lemmas.Str.{IsUtf8-from_is_utf8}
use Rattle.std.specs.Str.{is_utf8}
use lib.Utf8.{encodes}
use Rattle.tb_terms.specs.Names.{is_text}
use Rattle.tb_read.specs.declared.quoted.Within.{Within}
use Rattle.tb_read.specs.declared.quoted.Within.TheVariants.{Between, Escaped, Going}
use Rattle.tb_read.specs.declared.quoted.Turn.{Turn}
use Rattle.tb_read.specs.declared.quoted.Turn.TheVariants.{Ends, Goes, Puts, Bad}
use Rattle.tb_read.specs.declared.fault.TermFault.{TermFault}
use Rattle.tb_read.specs.Spelling.{is_plain, SpellsByte, SpellsBytes, SpellsString}
use Rattle.tb_read.specs.Lexing.{string_turn, escaped_turn, unescaped, string_rest as term_string, with_prefix as term_prefix}
use Rattle.tb_read.proofs.Strings.{Steady, IsInside, Facts, between_facts, going_facts, letter_of, string_sound, prefix_ok as term_prefix_ok, turned as term_turned}
use Rattle.tb_read.proofs.Chars.{string_taken}
use Rattle.tb_read.proofs.Scalars.{string_put}
use Rattle.tb_read.proofs.Begins.{Ready, ReadyTurn, turn_ready, close}
use Rattle.tb_lex.specs.Faults.{BeginsString, IsInString, IsUncut}
use Rattle.tb_lex.proofs.Strings.{Pair, read}

-- a byte brings the reader on
abbrev pub Step : Within → ℕ → Within → Type 0
Step w b next = (string_turn w b ≡ Goes next) ⊎ ((c : ℕ) × (string_turn w b ≡ Puts c next))

abbrev pub Walks : Within → List ℕ → Within → Type 0
Walks w [] v = w ≡ v
Walks w (b ∷ bytes) v = (next : Within) × Step w b next × Walks next bytes v

pub one_more : (pre : List ℕ) (w v next : Within) (b : ℕ) → Walks w pre v → Step v b next → Walks w (pre ++ (b ∷ [])) next
one_more [] w v next b e s = (next, subst (λ u. Step u b next) (sym e) s, refl)
one_more (c ∷ pre) w v next b p s = (p.0, p.1, one_more pre p.0 v next b p.2 s)

-- what is known of a byte's turn
abbrev pub NextFacts : Within → ℕ → Turn → Type 0
NextFacts w b Ends = IsInside w × (b ≡ 34)
NextFacts w b (Goes next) = IsInside w × (b ≡ 92) × (next ≡ Escaped)
NextFacts w b (Puts c next) = IsInside next × Steady next × (IsInside w → (c ≡ b) × (is_plain b ≡ true))
NextFacts w b Bad = Unit {0}

inside_facts : (w : Within) (b : ℕ) (t : Turn) → IsInside w → Facts b t → NextFacts w b t
inside_facts w b Ends i f = (i, f)
inside_facts w b (Goes next) i f = (i, f.0, f.1)
inside_facts w b (Puts c next) i f = (f.3, f.2, λ _. (f.0, f.1))
inside_facts w b Bad i f = tt

escaped_facts : (b : ℕ) (o : Option ℕ) → NextFacts Escaped b (escaped_turn o)
escaped_facts b None = tt
escaped_facts b (Some c) = (tt, tt, λ no. absurd no)

pub next_facts : (w : Within) (b : ℕ) → Steady w → NextFacts w b (string_turn w b)
next_facts Between b s = inside_facts Between b (string_turn Between b) tt (between_facts b)
next_facts Escaped b s = escaped_facts b (unescaped b)
next_facts (Going more low high) b s = inside_facts (Going more low high) b (string_turn (Going more low high) b) tt (going_facts more low high b s)

pub goes_facts : (w : Within) (b : ℕ) (next : Within) → Steady w → string_turn w b ≡ Goes next → IsInside w × (b ≡ 92) × (next ≡ Escaped)
goes_facts w b next s e = subst (λ t. NextFacts w b t) e (next_facts w b s)

pub puts_facts : (w : Within) (b c : ℕ) (next : Within) → Steady w → string_turn w b ≡ Puts c next → IsInside next × Steady next × (IsInside w → (c ≡ b) × (is_plain b ≡ true))
puts_facts w b c next s e = subst (λ t. NextFacts w b t) e (next_facts w b s)

step_steady : (w : Within) (b : ℕ) (next : Within) → Steady w → Step w b next → Steady next
step_steady w b next s (inl e) = subst Steady (sym (goes_facts w b next s e).2) tt
step_steady w b next s (inr p) = (puts_facts w b p.0 next s p.1).1

pub walk_steady : (pre : List ℕ) (w v : Within) → Steady w → Walks w pre v → Steady v
walk_steady [] w v s e = subst Steady e s
walk_steady (b ∷ pre) w v s p = walk_steady pre p.0 v (step_steady w b p.0 s p.1) p.2

step_ready : (w : Within) (b : ℕ) (next : Within) → Step w b next → Ready next
step_ready w b next (inl e) = subst ReadyTurn e (turn_ready w b)
step_ready w b next (inr p) = subst ReadyTurn p.1 (turn_ready w b)

walk_ready : (pre : List ℕ) (w v : Within) → Ready w → Walks w pre v → Ready v
walk_ready [] w v r e = subst Ready e r
walk_ready (b ∷ pre) w v r p = walk_ready pre p.0 v (step_ready w b p.0 p.1) p.2

pub ten_bad : (w : Within) → Steady w → string_turn w 10 ≡ Bad
ten_bad Between s = refl
ten_bad Escaped s = refl
ten_bad (Going more low high) s = rw (lt-leb low 10 (omega arith)) refl

-- Walks and strings that are read.

abbrev Prefix : ℕ → List ℕ → List ℕ → Within → Type 0
Prefix other pre rest w = (v : Within) × Walks w pre v × ((y : Pair) × (term_string other v rest ≡ Ok y))

not_nil : (inner : List ℕ) (b : ℕ) (tail : List ℕ) → inner ++ (b ∷ tail) ≡ [] → ⊥
not_nil [] b tail e = cc
not_nil (c ∷ inner) b tail e = cc

prefix_by : (other b : ℕ) (inner : List ℕ) (d : ℕ) (tail : List ℕ) (w : Within) → ((u : Within) (x : Pair) → term_string other u (inner ++ (d ∷ tail)) ≡ Ok x → x.1 ≡ [] → Prefix other inner (d ∷ tail) u) → (t : Turn) → string_turn w b ≡ t → (x : Pair) → term_turned other t (inner ++ (d ∷ tail)) ≡ Ok x → x.1 ≡ [] → Prefix other (b ∷ inner) (d ∷ tail) w
prefix_by other b inner d tail w ih Ends et x e n =
    let same : ◌≡◌ {A = Pair} ([], inner ++ (d ∷ tail)) x = cc in
    absurd (not_nil inner d tail (ap (λ (p : Pair). p.1) same ∙ n))
prefix_by other b inner d tail w ih (Goes next) et x e n = let f = ih next x e n in (f.0, (next, inl et, f.1), f.2)
prefix_by other b inner d tail w ih (Puts c next) et x e n =
    let y = term_prefix_ok (c ∷ []) (term_string other next (inner ++ (d ∷ tail))) x e in
    let f = ih next y.0 y.1 (sym y.3 ∙ n) in
    (f.0, (next, inr (c, et), f.1), f.2)
prefix_by other b inner d tail w ih Bad et x e n = cc

-- a walk goes through each prefix of a string
prefix : (other : ℕ) (inner : List ℕ) (d : ℕ) (tail : List ℕ) (w : Within) (x : Pair) → term_string other w (inner ++ (d ∷ tail)) ≡ Ok x → x.1 ≡ [] → Prefix other inner (d ∷ tail) w
prefix other [] d tail w x e n = (w, refl, (x, e))
prefix other (b ∷ inner) d tail w x e n = prefix_by other b inner d tail w (prefix other inner d tail) (string_turn w b) refl x e n

-- after a walk, the rest is read
pub rest_read : (other : ℕ) (pre rest : List ℕ) (w v : Within) (x : Pair) → Walks w pre v → term_string other w (pre ++ rest) ≡ Ok x → (y : Pair) × (term_string other v rest ≡ Ok y)
rest_read other [] rest w v x p e = (x, subst (λ u. term_string other u rest ≡ Ok x) p e)
rest_read other (b ∷ pre) rest w v x p e = by p.1 (λ z h. rest_read other pre rest p.0 v z p.2 h) where
  by : Step w b p.0 → ((z : Pair) → term_string other p.0 (pre ++ rest) ≡ Ok z → (y : Pair) × (term_string other v rest ≡ Ok y)) → (y : Pair) × (term_string other v rest ≡ Ok y)
  by (inl t) ih = ih x (ap (λ u. term_turned other u (pre ++ rest)) (sym t) ∙ e)
  by (inr t) ih =
      let y = term_prefix_ok (t.0 ∷ []) (term_string other p.0 (pre ++ rest)) x (ap (λ u. term_turned other u (pre ++ rest)) (sym t.1) ∙ e) in
      ih y.0 y.1

-- a walk and a rest that is read are read together
pub walk_read : (other : ℕ) (pre rest : List ℕ) (w v : Within) (y : Pair) → Walks w pre v → term_string other v rest ≡ Ok y → (x : Pair) × (term_string other w (pre ++ rest) ≡ Ok x) × (x.1 ≡ y.1)
walk_read other [] rest w v y p e = (y, subst (λ u. term_string other u rest ≡ Ok y) (sym p) e, refl)
walk_read other (b ∷ pre) rest w v y p e = by p.1 (walk_read other pre rest p.0 v y p.2 e) where
  by : Step w b p.0 → ((x : Pair) × (term_string other p.0 (pre ++ rest) ≡ Ok x) × (x.1 ≡ y.1)) → (x : Pair) × (term_string other w (b ∷ (pre ++ rest)) ≡ Ok x) × (x.1 ≡ y.1)
  by (inl t) q = (q.0, ap (λ u. term_turned other u (pre ++ rest)) t ∙ q.1, q.2)
  by (inr t) q =
      let more = ap (λ u. term_turned other u (pre ++ rest)) t.1 ∙ ap (λ (r : Result Pair TermFault). term_prefix (t.0 ∷ []) r) q.1 in
      (((t.0 ∷ []) ++ q.0.0, q.0.1), more, q.2)

-- the whole text of a string is read
pub text_read : (bytes inner : List ℕ) → SpellsString bytes (34 ∷ inner) → (other : ℕ) (rest : List ℕ) → term_string other Between (inner ++ rest) ≡ Ok (bytes, rest)
text_read bytes inner s other rest =
    let valid = and_parts (is_utf8 bytes) (is_text bytes) s.is in
    let u = IsUtf8-from_is_utf8 bytes valid.0 in
    let is : inner ≡ s.inner ++ (34 ∷ []) = behind s.quoted in
    let regrouped : inner ++ rest ≡ s.inner ++ (34 ∷ rest) = ap (λ (l : List ℕ). l ++ rest) is ∙ append_assoc s.inner (34 ∷ []) rest in
    let spelled : SpellsBytes (encodes u.0) s.inner = subst (λ (l : List ℕ). SpellsBytes l s.inner) (sym u.1.1) s.spelled in
    ap (term_string other Between) regrouped ∙ string_taken u.0 u.1.0 s.inner spelled other rest ∙ ap (λ (l : List ℕ). read (l, rest)) u.1.1 where
      behind : {l : List ℕ} → 34 ∷ inner ≡ 34 ∷ l → inner ≡ l
      behind e = cc

-- what is read to its end is the text of a string
pub read_text : (l : List ℕ) (x : Pair) → term_string 0 Between l ≡ Ok x → x.1 ≡ [] → SpellsString x.0 (34 ∷ l)
read_text l x e n =
    let f = string_sound 0 l Between tt x e in
    let quoted : 34 ∷ l ≡ (34 ∷ f.0) ++ (34 ∷ []) = ap (λ (m : List ℕ). 34 ∷ m) f.1 ∙ ap (λ (m : List ℕ). (34 ∷ f.0) ++ (34 ∷ m)) n in
    record { is = string_put 0 l x e; inner = f.0; quoted = quoted; spelled = f.2 }

-- the bytes since the quote, of a string that goes on, are walked through
pub walk_in_string : (inner : List ℕ) → IsInString inner → (v : Within) × Walks Between inner v
walk_in_string inner p =
    let l = inner ++ (p.0 ∷ p.1) in
    let all : term_string 0 Between l ≡ Ok (p.2, []) = ap (term_string 0 Between) (sym (append-nil l)) ∙ text_read p.2 l p.3 0 [] in
    let f = prefix 0 inner p.0 p.1 Between (p.2, []) all refl in
    (f.0, f.1)

in_string_by : (pre tail : List ℕ) (x : Pair) → term_string 0 Between (pre ++ tail) ≡ Ok x → x.1 ≡ [] → (v : Within) (y : Pair) → term_string 0 v tail ≡ Ok y → IsInString pre
in_string_by pre [] x e n v y h = cc
in_string_by pre (b ∷ tail) x e n v y h = (b, tail, x.0, read_text (pre ++ (b ∷ tail)) x e n)

-- what is walked through goes on to a string
pub in_string : (pre : List ℕ) (v : Within) → Walks Between pre v → IsInString pre
in_string pre v p =
    let c = close v (walk_ready pre Between v tt p) in
    let closed : term_string 0 v c.0 ≡ Ok (c.1, []) = c.2 0 in
    let x = walk_read 0 pre c.0 Between v (c.1, []) p closed in
    in_string_by pre c.0 x.0 x.1 x.2 v (c.1, []) closed

pub in_string_begins : (inner : List ℕ) → IsInString inner → BeginsString (34 ∷ inner)
in_string_begins inner p = (p.0 ∷ p.1, p.2, p.3)

-- Escapes.

abbrev UncutFrom : Within → List ℕ → Type 0
UncutFrom Between pre = IsUncut pre
UncutFrom Escaped pre = (letter : ℕ) × (rest : List ℕ) × (byte : ℕ) × (pre ≡ letter ∷ rest) × (unescaped letter ≡ Some byte) × IsUncut rest
UncutFrom (Going more low high) pre = IsUncut pre

inside_uncut : (w : Within) (pre : List ℕ) → IsInside w → UncutFrom w pre → IsUncut pre
inside_uncut Between pre i u = u
inside_uncut Escaped pre i u = absurd i
inside_uncut (Going more low high) pre i u = u

from_uncut : (w : Within) (pre : List ℕ) → IsInside w → IsUncut pre → UncutFrom w pre
from_uncut Between pre i u = u
from_uncut Escaped pre i u = absurd i
from_uncut (Going more low high) pre i u = u

escape_uncut : (b : ℕ) (pre : List ℕ) → b ≡ 92 → UncutFrom Escaped pre → IsUncut (b ∷ pre)
escape_uncut b pre e u =
    (u.2 ∷ u.5.0, (92 ∷ u.0 ∷ [], u.1, ap (λ n. n ∷ pre) e ∙ ap (λ (l : List ℕ). 92 ∷ l) u.3, inr (u.0, letter_of u.0 u.2 u.4, refl), u.5.1))

plain_uncut : (b : ℕ) (pre : List ℕ) → is_plain b ≡ true → IsUncut pre → IsUncut (b ∷ pre)
plain_uncut b pre h u = (b ∷ u.0, (b ∷ [], pre, refl, inl (h, refl), u.1))

letter_by : (b c : ℕ) (next : Within) (o : Option ℕ) → unescaped b ≡ o → escaped_turn o ≡ Puts c next → (byte : ℕ) × (unescaped b ≡ Some byte) × (next ≡ Between)
letter_by b c next None u e = cc
letter_by b c next (Some d) u e = let same : next ≡ Between = cc in (d, u, same)

pub escaped_puts : (b c : ℕ) (next : Within) → string_turn Escaped b ≡ Puts c next → (byte : ℕ) × (unescaped b ≡ Some byte) × (next ≡ Between)
escaped_puts b c next e = letter_by b c next (unescaped b) refl e

step_uncut : (b : ℕ) (pre : List ℕ) (w next : Within) → Steady w → Step w b next → UncutFrom next pre → UncutFrom w (b ∷ pre)
step_uncut b pre w next s (inl e) u =
    let f = goes_facts w b next s e in
    from_uncut w (b ∷ pre) f.0 (escape_uncut b pre f.1 (subst (λ n. UncutFrom n pre) f.2 u))
step_uncut b pre Between next s (inr p) u = let f = puts_facts Between b p.0 next s p.1 in plain_uncut b pre (f.2 tt).1 (inside_uncut next pre f.0 u)
step_uncut b pre (Going more low high) next s (inr p) u = let f = puts_facts (Going more low high) b p.0 next s p.1 in plain_uncut b pre (f.2 tt).1 (inside_uncut next pre f.0 u)
step_uncut b pre Escaped next s (inr p) u =
    let f = escaped_puts b p.0 next p.1 in
    (b, pre, f.0, refl, f.1, subst (λ n. UncutFrom n pre) f.2 u)

uncut_from : (pre : List ℕ) (w v : Within) → Steady w → Walks w pre v → IsInside v → UncutFrom w pre
uncut_from [] w v s p i = from_uncut w [] (subst IsInside (sym p) i) ([], refl)
uncut_from (b ∷ pre) w v s p i = step_uncut b pre w p.0 s p.1 (uncut_from pre p.0 v (step_steady w b p.0 s p.1) p.2 i)

-- after a walk that doesn't end after a backslash, no escape is cut off
pub uncut : (pre : List ℕ) (v : Within) → Walks Between pre v → IsInside v → IsUncut pre
uncut pre v p i = uncut_from pre Between v tt p i

plain_backslash : (b : ℕ) → is_plain b ≡ true → b ≡ 92 → ⊥
plain_backslash b h e = false≢true (subst (λ n. is_plain n ≡ true) e h)

plain_step : (b : ℕ) (w next : Within) → IsInside w → Steady w → is_plain b ≡ true → Step w b next → IsInside next × Steady next
plain_step b w next i s h (inl e) = absurd (plain_backslash b h (goes_facts w b next s e).1)
plain_step b w next i s h (inr p) = let f = puts_facts w b p.0 next s p.1 in (f.0, f.1)

backslash_step : (w next : Within) → IsInside w → Steady w → Step w 92 next → next ≡ Escaped
backslash_step w next i s (inl e) = (goes_facts w 92 next s e).2
backslash_step w next i s (inr p) = absurd (plain_backslash 92 ((puts_facts w 92 p.0 next s p.1).2 i).1 refl)

escaped_step : (b : ℕ) (next : Within) → Step Escaped b next → next ≡ Between
escaped_step b next (inl e) = absurd (goes_facts Escaped b next tt e).0
escaped_step b next (inr p) = (escaped_puts b p.0 next p.1).2

-- if no escape is cut off, a walk doesn't end after a backslash
pub inside_of : (put pre : List ℕ) (w v : Within) → IsInside w → Steady w → SpellsBytes put pre → Walks w pre v → IsInside v
inside_of [] pre w v i s e p = subst IsInside (subst (λ (l : List ℕ). Walks w l v) e p) i
inside_of (b ∷ put) pre w v i s e p = by e.3 (λ u j t q. inside_of put e.1 u v j t e.4 q) where
  by : SpellsByte b e.0 → ((u : Within) → IsInside u → Steady u → Walks u e.1 v → IsInside v) → IsInside v
  by (inl q) ih =
      let walk : Walks w (b ∷ e.1) v = subst (λ (l : List ℕ). Walks w l v) (e.2 ∙ ap (λ (l : List ℕ). l ++ e.1) q.1) p in
      let f = plain_step b w walk.0 i s q.0 walk.1 in
      ih walk.0 f.0 f.1 walk.2
  by (inr q) ih =
      let walk : Walks w (92 ∷ q.0 ∷ e.1) v = subst (λ (l : List ℕ). Walks w l v) (e.2 ∙ ap (λ (l : List ℕ). l ++ e.1) q.2) p in
      let first : walk.0 ≡ Escaped = backslash_step w walk.0 i s walk.1 in
      let behind : Walks Escaped (q.0 ∷ e.1) v = subst (λ u. Walks u (q.0 ∷ e.1) v) first walk.2 in
      let second : behind.0 ≡ Between = escaped_step q.0 behind.0 behind.1 in
      ih Between tt tt (subst (λ u. Walks u e.1 v) second behind.2)
