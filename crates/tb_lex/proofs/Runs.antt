-- The scan from the left finds exactly the tokens and errors that the specification defines.
use Rattle.std.proofs.Common.{◌≡◌, ℕ, zero, suc, ◌+◌, ◌-◌, ◌≤◌, ◌<◌, Bool, true, false, not, ◌||◌, ◌⊎◌, cond, eqb, List, [], ◌∷◌, ◌++◌, length, Option, Some, None, Ok, Err, refl, ap, sym, ◌∙◌, subst, inl, inr, arith, append_assoc}
use Rattle.std.proofs.lemmas.Bool.{false≢true, eqb-true, eqb-false, ne_eqb, eq-eqb}
use Rattle.std.proofs.lemmas.Bool.Decides.{nat_tests}
use Rattle.std.proofs.lemmas.List.{length-append}
use Rattle.tb_terms.specs.Names.{is_digit, is_lower, is_upper}
use Rattle.tb_read.specs.Spelling.{is_blank}
use Rattle.tb_lex.specs.declared.fault.LexFault.{LexFault}
use Rattle.tb_lex.specs.declared.fault.LexFault.TheVariants as fault
use Rattle.tb_lex.specs.declared.head.Head.{Head}
use Rattle.tb_lex.specs.declared.head.Head.TheVariants as head
use Rattle.tb_lex.specs.declared.token.Token.{Token}
use Rattle.tb_lex.specs.declared.kind.TokenKind.{TokenKind}
use Rattle.tb_lex.specs.Gaps.{IsGap, IsLast}
use Rattle.tb_lex.specs.Tokens.{IsPiece, IsToken, TokensThen, Lexes}
use Rattle.tb_lex.specs.Faults.{IsBegun, IsFault, Stops, StopsAt, HasFault}
use Rattle.tb_lex.specs.Helpers.Scanning.{Read, has_head, head_of, piece_at, skip_gap, Next, Makes, Ends, made, next_at, next_of, Runs, Scans}
use Rattle.tb_lex.proofs.Gaps.{Skipped, skipped, gap_skipped, last_skipped}
use Rattle.tb_lex.proofs.Heads.{PieceOf, piece_begun}
use Rattle.tb_lex.proofs.Symbols.{symbol_head}
use Rattle.tb_lex.proofs.Pieces.{Piece, Cut, OfPiece, piece_sound, has_its_head, piece_complete, piece_refused, refused_complete}

-- A piece begins with neither whitespace nor a comment.

abbrev IsClear : ℕ → Type 0
IsClear b = (is_blank b ≡ false) × (eqb b 37 ≡ false)

lower_clear : (b : ℕ) → is_lower b ≡ true → IsClear b
lower_clear b h = (blank b h, percent b h) where
  blank : (b : ℕ) → is_lower b ≡ true → is_blank b ≡ false
  blank b h = grind (arith, nat_tests)

  percent : (b : ℕ) → is_lower b ≡ true → eqb b 37 ≡ false
  percent b h = grind (arith, nat_tests)

upper_clear : (b : ℕ) → is_upper b ≡ true → IsClear b
upper_clear b h = (blank b h, percent b h) where
  blank : (b : ℕ) → is_upper b ≡ true → is_blank b ≡ false
  blank b h = grind (arith, nat_tests)

  percent : (b : ℕ) → is_upper b ≡ true → eqb b 37 ≡ false
  percent b h = grind (arith, nat_tests)

digit_clear : (b : ℕ) → (is_digit b || eqb b 45) ≡ true → IsClear b
digit_clear b h = (blank b h, percent b h) where
  blank : (b : ℕ) → (is_digit b || eqb b 45) ≡ true → is_blank b ≡ false
  blank b h = grind (arith, nat_tests)

  percent : (b : ℕ) → (is_digit b || eqb b 45) ≡ true → eqb b 37 ≡ false
  percent b h = grind (arith, nat_tests)

clear_by : (h : Head) (b : ℕ) (t : List ℕ) → has_head h (b ∷ t) ≡ true → PieceOf h (b ∷ t) → IsClear b
clear_by head.Lower b t g p = lower_clear b g
clear_by head.Upper b t g p = upper_clear b g
clear_by head.Quote b t g p = subst IsClear (sym (eqb-true b 34 g)) (refl, refl)
clear_by head.Numeral b t g p = digit_clear b g
clear_by head.Other b t g p =
    let h = symbol_head p.0 in
    let form : b ∷ t ≡ h.0 ∷ h.1 = p.1 ∙ h.2 in
    let first : b ≡ h.0 = cc in
    subst IsClear (sym first) (h.4, h.5)

not_comment : (b : ℕ) (l : List ℕ) → eqb b 37 ≡ false → (more : List ℕ) → b ∷ l ≡ 37 ∷ 37 ∷ more → ⊥
not_comment b l e more f =
    let first : b ≡ 37 = cc in
    false≢true (sym e ∙ ap (λ n. eqb n 37) first)

piece_is_begun : (text rest : List ℕ) → IsPiece text → IsBegun (text ++ rest)
piece_is_begun text rest p =
    let g = piece_begun text p in
    let clear = clear_by (head_of g.0) g.0 g.1 (has_its_head g.0 g.1) (subst (λ (l : List ℕ). PieceOf (head_of g.0) l) g.2 g.3) in
    let form : text ++ rest ≡ g.0 ∷ (g.1 ++ rest) = ap (λ (l : List ℕ). l ++ rest) g.2 in
    (g.0, g.1 ++ rest, form, ap not clear.0, λ more e. not_comment g.0 (g.1 ++ rest) clear.1 more (sym form ∙ e))

-- The next token.

abbrev token_at : ℕ → ℕ → Piece → Token
token_at total from x = record { kind = x.0; from = from; to = total - length x.1 }

-- the next token or error at a position after the gap, given whether the limit is reached, and what is read
abbrev chosen : ℕ → ℕ → Bool → Read → Next
chosen total from v r = cond v (Ends (Some fault.TooMany)) (made total from r)

lengths : (total : ℕ) (bytes gap rest : List ℕ) → bytes ≡ gap ++ rest → length bytes ≤ total → (length rest ≤ total) × (total - length bytes + length gap ≡ total - length rest)
lengths total bytes gap rest e w =
    let len : length bytes ≡ length gap + length rest = ap (λ (l : List ℕ). length l) e ∙ length-append gap rest in
    (omega arith, omega arith)

abbrev Made : ℕ → ℕ → ℕ → List ℕ → Token → List ℕ → Type 0
Made limit count total bytes token rest =
    (gap : List ℕ) × (text : List ℕ) × (bytes ≡ gap ++ text ++ rest) × IsGap gap × IsToken (total - length bytes + length gap) token text rest × (count ≡ limit → ⊥)

token_made : (limit count total : ℕ) (bytes gap l : List ℕ) (x : Piece) → bytes ≡ gap ++ l → IsGap gap → length bytes ≤ total → (count ≡ limit → ⊥) → Cut l x → Made limit count total bytes (token_at total (total - length l) x) x.1
token_made limit count total bytes gap l x e g w n c =
    let p = lengths total bytes gap l e w in
    let q = lengths total l c.0 x.1 c.1 p.0 in
    let at : bytes ≡ (gap ++ c.0) ++ x.1 = e ∙ ap (λ (m : List ℕ). gap ++ m) c.1 ∙ sym (append_assoc gap c.0 x.1) in
    let to : total - length x.1 ≡ total - length bytes + length gap + length c.0 = sym q.1 ∙ ap (λ m. m + length c.0) (sym p.1) in
    (gap, c.0, at, g, record { spelled = c.2; longest = c.3; whole = c.4; from = sym p.1; to = to }, n)

makes_same : (t u : Token) (l m : List ℕ) → Makes t l ≡ Makes u m → (t ≡ u) × (l ≡ m)
makes_same t u l m e = (cc, cc)

made_by : (limit count total : ℕ) (bytes gap : List ℕ) (b : ℕ) (l : List ℕ) (token : Token) (rest : List ℕ) → bytes ≡ gap ++ (b ∷ l) → IsGap gap → length bytes ≤ total → (v : Bool) → eqb count limit ≡ v → (r : Read) → piece_at (head_of b) total (b ∷ l) ≡ r → chosen total (total - length (b ∷ l)) v r ≡ Makes token rest → Made limit count total bytes token rest
made_by limit count total bytes gap b l token rest e g w true ev r er m = cc
made_by limit count total bytes gap b l token rest e g w false ev (Err f) er m = cc
made_by limit count total bytes gap b l token rest e g w false ev (Ok x) er m =
    let same = makes_same (token_at total (total - length (b ∷ l)) x) token x.1 rest m in
    let cut = piece_sound (head_of b) total b l x (has_its_head b l) er in
    let is = token_made limit count total bytes gap (b ∷ l) x e g w (eqb-false count limit ev) cut in
    subst (λ (t : Token). Made limit count total bytes t rest) same.0 (subst (λ (m : List ℕ). Made limit count total bytes (token_at total (total - length (b ∷ l)) x) m) same.1 is)

makes_sound : (limit count total : ℕ) (bytes : List ℕ) (token : Token) (rest : List ℕ) → length bytes ≤ total → next_of limit count total bytes ≡ Makes token rest → Made limit count total bytes token rest
makes_sound limit count total bytes token rest w m = by (skipped bytes) where
  by : Skipped bytes → Made limit count total bytes token rest
  by (inl s) = let no : Ends None ≡ Makes token rest = ap (next_at limit count total) (sym s.1) ∙ m in cc
  by (inr s) =
      made_by limit count total bytes s.0 s.1 s.2 token rest s.3 s.4 w (eqb count limit) refl (piece_at (head_of s.1) total (s.1 ∷ s.2)) refl
      (ap (next_at limit count total) (sym s.6) ∙ m)

-- The end.

last_sound : (limit count total : ℕ) (bytes : List ℕ) → next_of limit count total bytes ≡ Ends None → IsLast bytes
last_sound limit count total bytes m = by (skipped bytes) where
  none : (v : Bool) (from : ℕ) (r : Read) → chosen total from v r ≡ Ends None → ⊥
  none true from r e = cc
  none false from (Ok x) e = cc
  none false from (Err f) e = cc

  by : Skipped bytes → IsLast bytes
  by (inl s) = s.0
  by (inr s) = absurd (none (eqb count limit) (total - length (s.1 ∷ s.2)) (piece_at (head_of s.1) total (s.1 ∷ s.2)) (ap (next_at limit count total) (sym s.6) ∙ m))

last_complete : (limit count total : ℕ) (bytes : List ℕ) → IsLast bytes → next_of limit count total bytes ≡ Ends None
last_complete limit count total bytes l = ap (next_at limit count total) (last_skipped bytes l)

-- The error.

-- an error, and how many tokens are before it
abbrev Counts : ℕ → ℕ → LexFault → Type 0
Counts limit count f = ((f ≡ fault.TooMany) × (count ≡ limit)) ⊎ (OfPiece f × (count ≡ limit → ⊥))

ends_same : (f g : LexFault) → Ends (Some f) ≡ Ends (Some g) → f ≡ g
ends_same f g e = cc

stops_by : (limit count total : ℕ) (bytes gap : List ℕ) (b : ℕ) (l : List ℕ) (f : LexFault) → bytes ≡ gap ++ (b ∷ l) → IsGap gap → IsBegun (b ∷ l) → length bytes ≤ total → (v : Bool) → eqb count limit ≡ v → (r : Read) → piece_at (head_of b) total (b ∷ l) ≡ r → chosen total (total - length (b ∷ l)) v r ≡ Ends (Some f) → Stops f (total - length bytes) bytes × Counts limit count f
stops_by limit count total bytes gap b l f e g begun w true ev r er m =
    let is : fault.TooMany ≡ f = ends_same fault.TooMany f m in
    subst (λ (k : LexFault). Stops k (total - length bytes) bytes × Counts limit count k) is ((gap, b ∷ l, e, g, begun, tt), inl (refl, eqb-true count limit ev))
stops_by limit count total bytes gap b l f e g begun w false ev (Ok x) er m = cc
stops_by limit count total bytes gap b l f e g begun w false ev (Err h) er m =
    let p = lengths total bytes gap (b ∷ l) e w in
    let fits : suc (length l) ≤ total = p.0 in
    let q = piece_refused total b l h fits er in
    let stops : Stops h (total - length bytes) bytes = (gap, b ∷ l, e, g, begun, subst (λ n. IsFault h n (b ∷ l)) (sym p.1) q.1) in
    subst (λ (k : LexFault). Stops k (total - length bytes) bytes × Counts limit count k) (ends_same h f m) (stops, inr (q.0, eqb-false count limit ev))

stops_sound : (limit count total : ℕ) (bytes : List ℕ) (f : LexFault) → length bytes ≤ total → next_of limit count total bytes ≡ Ends (Some f) → Stops f (total - length bytes) bytes × Counts limit count f
stops_sound limit count total bytes f w m = by (skipped bytes) where
  by : Skipped bytes → Stops f (total - length bytes) bytes × Counts limit count f
  by (inl s) = let no : Ends None ≡ Ends (Some f) = ap (next_at limit count total) (sym s.1) ∙ m in cc
  by (inr s) =
      stops_by limit count total bytes s.0 s.1 s.2 f s.3 s.4 s.5 w (eqb count limit) refl (piece_at (head_of s.1) total (s.1 ∷ s.2)) refl
      (ap (next_at limit count total) (sym s.6) ∙ m)

-- the bytes after the gap
reached : (limit count total : ℕ) (bytes gap l : List ℕ) → bytes ≡ gap ++ l → IsGap gap → IsBegun l → next_of limit count total bytes ≡ next_at limit count total l
reached limit count total bytes gap l e g b = ap (next_at limit count total) (ap (skip_gap false) e ∙ gap_skipped gap l g b)

stops_complete : (limit count total : ℕ) (bytes : List ℕ) (f : LexFault) → length bytes ≤ total → Stops f (total - length bytes) bytes → Counts limit count f → next_of limit count total bytes ≡ Ends (Some f)
stops_complete limit count total bytes f w s c =
    let l = s.1 in
    let b = s.4.0 in
    let rest = s.4.1 in
    let form : l ≡ b ∷ rest = s.4.2 in
    let p = lengths total bytes s.0 l s.2 w in
    let is : IsFault f (total - length (b ∷ rest)) (b ∷ rest) = subst (λ (m : List ℕ). IsFault f (total - length m) m) form (subst (λ n. IsFault f n l) p.1 s.5) in
    let fits : suc (length rest) ≤ total = subst (λ (m : List ℕ). length m ≤ total) form p.0 in
    reached limit count total bytes s.0 l s.2 s.3 s.4 ∙ ap (next_at limit count total) form ∙ by c b rest is fits where
      by : Counts limit count f → (b : ℕ) (rest : List ℕ) → IsFault f (total - length (b ∷ rest)) (b ∷ rest) → suc (length rest) ≤ total → next_at limit count total (b ∷ rest) ≡ Ends (Some f)
      by (inl q) b rest is fits =
          let from = total - length (b ∷ rest) in
          ap (λ v. chosen total from v (piece_at (head_of b) total (b ∷ rest))) (eq-eqb count limit q.1) ∙ ap (λ (k : LexFault). Ends (Some k)) (sym q.0)
      by (inr q) b rest is fits =
          let from = total - length (b ∷ rest) in
          ap (λ v. chosen total from v (piece_at (head_of b) total (b ∷ rest))) (ne_eqb count limit q.1)
          ∙ ap (made total from) (refused_complete total b rest f fits q.0 is)

-- Sequences of tokens.

runs_sound : (limit total : ℕ) (end : Option LexFault) (P : ℕ → List ℕ → Type 0) (tokens : List Token) (count : ℕ) (bytes : List ℕ) → length bytes ≤ total → ((l : List ℕ) → length l ≤ total → next_of limit (count + length tokens) total l ≡ Ends end → P (total - length l) l) → Runs limit count total bytes tokens end → TokensThen P (total - length bytes) bytes tokens
runs_sound limit total end P [] count bytes w base r =
    let counted : count + 0 ≡ count = omega arith in
    base bytes w (ap (λ n. next_of limit n total bytes) counted ∙ r)
runs_sound limit total end P (token ∷ tokens) count bytes w base r =
    let rest = r.0 in
    let m = makes_sound limit count total bytes token rest w r.1 in
    let p = lengths total bytes (m.0 ++ m.1) rest m.2 w in
    let long : length (m.0 ++ m.1) ≡ length m.0 + length m.1 = length-append m.0 m.1 in
    let to : total - length rest ≡ token.to = sym p.1 ∙ omega arith ∙ sym m.4.to in
    let next : TokensThen P (total - length rest) rest tokens = runs_sound limit total end P tokens (count + 1) rest p.0 (λ l v e. base l v (ap (λ n. next_of limit n total l) (one_on count tokens) ∙ e)) r.2 in
    (m.0, m.1, rest, m.2, m.3, m.4, subst (λ n. TokensThen P n rest tokens) to next) where
      one_on : (count : ℕ) (tokens : List Token) → count + length (token ∷ tokens) ≡ count + 1 + length tokens
      one_on count tokens = omega arith

runs_length : (limit total : ℕ) (end : Option LexFault) (tokens : List Token) (count : ℕ) (bytes : List ℕ) → length bytes ≤ total → count ≤ limit → Runs limit count total bytes tokens end → count + length tokens ≤ limit
runs_length limit total end [] count bytes w c r = omega arith
runs_length limit total end (token ∷ tokens) count bytes w c r =
    let m = makes_sound limit count total bytes token r.0 w r.1 in
    let p = lengths total bytes (m.0 ++ m.1) r.0 m.2 w in
    let ih : count + 1 + length tokens ≤ limit = runs_length limit total end tokens (count + 1) r.0 p.0 (below count limit c m.5) r.2 in
    omega arith where
      below : (count limit : ℕ) → count ≤ limit → (count ≡ limit → ⊥) → count + 1 ≤ limit
      below count limit c n = grind (arith, n)

token_is : (total from : ℕ) (token : Token) (rest : List ℕ) → token.from ≡ from → token.to ≡ total - length rest → token_at total from (token.kind, rest) ≡ token
token_is total from token rest e f =
    ap (λ n. made_of token.kind n (total - length rest)) (sym e) ∙ ap (λ n. made_of token.kind token.from n) (sym f) where
      made_of : TokenKind → ℕ → ℕ → Token
      made_of k from to = record { kind = k; from = from; to = to }

makes_complete : (limit count total : ℕ) (bytes gap text rest : List ℕ) (token : Token) → length bytes ≤ total → bytes ≡ gap ++ text ++ rest → IsGap gap → IsToken (total - length bytes + length gap) token text rest → (count ≡ limit → ⊥) → next_of limit count total bytes ≡ Makes token rest
makes_complete limit count total bytes gap text rest token w e g t n =
    let l = text ++ rest in
    let at : bytes ≡ gap ++ l = e ∙ append_assoc gap text rest in
    let p = lengths total bytes gap l at w in
    let q = lengths total l text rest refl p.0 in
    let found = piece_complete total token.kind text rest t.spelled t.longest t.whole in
    let b = found.0 in
    let behind = found.1 in
    let form : l ≡ b ∷ behind = found.2 in
    let from = total - length (b ∷ behind) in
    let read : piece_at (head_of b) total (b ∷ behind) ≡ Ok (token.kind, rest) = ap (piece_at (head_of b) total) (sym form) ∙ found.3 in
    let from_is : token.from ≡ from = t.from ∙ p.1 ∙ ap (λ (m : List ℕ). total - length m) form in
    let to_is : token.to ≡ total - length rest = t.to ∙ ap (λ m. m + length text) p.1 ∙ q.1 in
    reached limit count total bytes gap l at g (piece_is_begun text rest (inr (token.kind, t.spelled)))
    ∙ ap (next_at limit count total) form
    ∙ ap (λ v. chosen total from v (piece_at (head_of b) total (b ∷ behind))) (ne_eqb count limit n)
    ∙ ap (made total from) read
    ∙ ap (λ (k : Token). Makes k rest) (token_is total from token rest from_is to_is)

runs_complete : (limit total : ℕ) (end : Option LexFault) (P : ℕ → List ℕ → Type 0) (tokens : List Token) (count position : ℕ) (bytes : List ℕ) → position ≡ total - length bytes → length bytes ≤ total → count + length tokens ≤ limit → ((l : List ℕ) → length l ≤ total → P (total - length l) l → next_of limit (count + length tokens) total l ≡ Ends end) → TokensThen P position bytes tokens → Runs limit count total bytes tokens end
runs_complete limit total end P [] count position bytes e w c base t =
    let counted : count ≡ count + 0 = omega arith in
    ap (λ n. next_of limit n total bytes) counted ∙ base bytes w (subst (λ n. P n bytes) e t)
runs_complete limit total end P (token ∷ tokens) count position bytes e w c base t =
    let gap = t.0 in
    let text = t.1 in
    let rest = t.2 in
    let is : IsToken (total - length bytes + length gap) token text rest = subst (λ n. IsToken (n + length gap) token text rest) e t.5 in
    let p = lengths total bytes (gap ++ text) rest t.3 w in
    let long : length (gap ++ text) ≡ length gap + length text = length-append gap text in
    let to : token.to ≡ total - length rest = is.to ∙ omega arith ∙ p.1 in
    let fewer : count + 1 + length tokens ≤ limit = fewer_by count tokens c in (
      rest,
      makes_complete limit count total bytes gap text rest token w t.3 t.4 is (not_yet count tokens c),
      runs_complete limit total end P tokens (count + 1) token.to rest to p.0 fewer (λ l v h. ap (λ n. next_of limit n total l) (one_on count tokens) ∙ base l v h) t.6,
    ) where
      one_on : (count : ℕ) (tokens : List Token) → count + 1 + length tokens ≡ count + length (token ∷ tokens)
      one_on count tokens = omega arith

      fewer_by : (count : ℕ) (tokens : List Token) → count + length (token ∷ tokens) ≤ limit → count + 1 + length tokens ≤ limit
      fewer_by count tokens c = omega arith

      not_yet : (count : ℕ) (tokens : List Token) → count + length (token ∷ tokens) ≤ limit → count ≡ limit → ⊥
      not_yet count tokens c e = omega arith

-- a scan has one outcome
runs_same : (ts us : List Token) (limit count total : ℕ) (bytes : List ℕ) (e f : Option LexFault) → Runs limit count total bytes ts e → Runs limit count total bytes us f → (ts ≡ us) × (e ≡ f)
runs_same [] [] limit count total bytes e f p q = (refl, let same : Ends e ≡ Ends f = sym p ∙ q in cc)
runs_same [] (u ∷ us) limit count total bytes e f p q = let no : Ends e ≡ Makes u q.0 = sym p ∙ q.1 in cc
runs_same (t ∷ ts) [] limit count total bytes e f p q = let no : Makes t p.0 ≡ Ends f = sym p.1 ∙ q in cc
runs_same (t ∷ ts) (u ∷ us) limit count total bytes e f p q =
    let same = makes_same t u p.0 q.0 (sym p.1 ∙ q.1) in
    let more : Runs limit (count + 1) total p.0 us f = subst (λ (l : List ℕ). Runs limit (count + 1) total l us f) (sym same.1) q.2 in
    let rest = runs_same ts us limit (count + 1) total p.0 e f p.2 more in
    (ap (λ (k : Token). k ∷ ts) same.0 ∙ ap (λ (l : List Token). u ∷ l) rest.0, rest.1)

-- Whole sources.

from_start : (bytes : List ℕ) → length bytes - length bytes ≡ 0
from_start bytes = omega arith

lexes_runs : (limit : ℕ) (bytes : List ℕ) (tokens : List Token) → Lexes bytes tokens → length tokens ≤ limit → Runs limit 0 (length bytes) bytes tokens None
lexes_runs limit bytes tokens l c =
    runs_complete limit (length bytes) None (λ position rest. IsLast rest) tokens 0 0 bytes (sym (from_start bytes)) (omega arith) (omega arith) (λ m w h. last_complete limit (0 + length tokens) (length bytes) m h) l

runs_lexes : (bytes : List ℕ) (tokens : List Token) → Scans bytes tokens None → Lexes bytes tokens × (length tokens ≤ 200000)
runs_lexes bytes tokens r =
    let counted : 0 + length tokens ≤ 200000 = runs_length 200000 (length bytes) None tokens 0 bytes (omega arith) (omega arith) r in
    let t = runs_sound 200000 (length bytes) None (λ position rest. IsLast rest) tokens 0 bytes (omega arith) (λ m w e. last_sound 200000 (0 + length tokens) (length bytes) m e) r in
    (subst (λ n. TokensThen (λ position rest. IsLast rest) n bytes tokens) (from_start bytes) t, omega arith)

pub lexes_one : (bytes : List ℕ) (ts us : List Token) → Lexes bytes ts → Lexes bytes us → ts ≡ us
lexes_one bytes ts us l m =
    let limit = length ts + length us in
    (runs_same ts us limit 0 (length bytes) bytes None None (lexes_runs limit bytes ts l (omega arith)) (lexes_runs limit bytes us m (omega arith))).0

runs_counts : (limit total : ℕ) (f : LexFault) (tokens : List Token) (count : ℕ) (bytes : List ℕ) → length bytes ≤ total → Runs limit count total bytes tokens (Some f) → Counts limit (count + length tokens) f
runs_counts limit total f [] count bytes w r =
    let counted : count ≡ count + 0 = omega arith in
    subst (λ n. Counts limit n f) counted (stops_sound limit count total bytes f w r).1
runs_counts limit total f (token ∷ tokens) count bytes w r =
    let m = makes_sound limit count total bytes token r.0 w r.1 in
    let p = lengths total bytes (m.0 ++ m.1) r.0 m.2 w in
    let counted : count + 1 + length tokens ≡ count + length (token ∷ tokens) = omega arith in
    subst (λ n. Counts limit n f) counted (runs_counts limit total f tokens (count + 1) r.0 p.0 r.2)

-- an error of one piece, with fewer tokens before it than the limit; or too many tokens
abbrev Cause : List ℕ → LexFault → Type 0
Cause bytes f = (OfPiece f × StopsAt bytes f) ⊎ ((f ≡ fault.TooMany) × HasFault bytes fault.TooMany)

scan_cause : (bytes : List ℕ) (tokens : List Token) (f : LexFault) → Scans bytes tokens (Some f) → Cause bytes f
scan_cause bytes tokens f r = by (runs_counts 200000 (length bytes) f tokens 0 bytes (omega arith) r) where
  at_most : length tokens ≤ 200000
  at_most = let counted : 0 + length tokens ≤ 200000 = runs_length 200000 (length bytes) (Some f) tokens 0 bytes (omega arith) (omega arith) r in omega arith

  stops : TokensThen (Stops f) 0 bytes tokens
  stops =
      let t = runs_sound 200000 (length bytes) (Some f) (Stops f) tokens 0 bytes (omega arith) (λ m w e. (stops_sound 200000 (0 + length tokens) (length bytes) m f w e).0) r in
      subst (λ n. TokensThen (Stops f) n bytes tokens) (from_start bytes) t

  fewer : length tokens ≤ 200000 → (0 + length tokens ≡ 200000 → ⊥) → length tokens < 200000
  fewer m n = below (length tokens) m (λ e. n (omega arith)) where
    below : (k : ℕ) → k ≤ 200000 → (k ≡ 200000 → ⊥) → k < 200000
    below k m n = grind (arith, n)

  by : Counts 200000 (0 + length tokens) f → Cause bytes f
  by (inl c) =
      let counted : length tokens ≡ 200000 = let d : 0 + length tokens ≡ 200000 = c.1 in omega arith in
      inr (c.0, (tokens, counted, subst (λ (k : LexFault). TokensThen (Stops k) 0 bytes tokens) c.0 stops))
  by (inr c) = inl (c.0, (tokens, fewer at_most c.1, stops))

cause_fault : (bytes : List ℕ) (f : LexFault) → Cause bytes f → HasFault bytes f
cause_fault bytes f (inr c) = subst (HasFault bytes) (sym c.0) c.1
cause_fault bytes (fault.BadByte at) (inl c) = c.1
cause_fault bytes (fault.OpenString at) (inl c) = c.1
cause_fault bytes (fault.Real at) (inl c) = c.1
cause_fault bytes (fault.IntRange at) (inl c) = c.1
cause_fault bytes fault.TooMany (inl c) = absurd c.0
cause_fault bytes fault.NoMemory (inl c) = absurd c.0

cause_known : (bytes : List ℕ) (f : LexFault) → Cause bytes f → f ≡ fault.NoMemory → ⊥
cause_known bytes f (inl c) e = subst OfPiece e c.0
cause_known bytes f (inr c) e = let no : fault.TooMany ≡ fault.NoMemory = sym c.0 ∙ e in cc

fault_cause : (bytes : List ℕ) (f : LexFault) → HasFault bytes f → (f ≡ fault.NoMemory → ⊥) → Cause bytes f
fault_cause bytes (fault.BadByte at) h n = inl (tt, h)
fault_cause bytes (fault.OpenString at) h n = inl (tt, h)
fault_cause bytes (fault.Real at) h n = inl (tt, h)
fault_cause bytes (fault.IntRange at) h n = inl (tt, h)
fault_cause bytes fault.TooMany h n = inr (refl, h)
fault_cause bytes fault.NoMemory h n = absurd (n refl)

abbrev StopsSo : List ℕ → LexFault → Type 0
StopsSo bytes f = (tokens : List Token) × Scans bytes tokens (Some f)

cause_scan : (bytes : List ℕ) (f : LexFault) → Cause bytes f → StopsSo bytes f
cause_scan bytes f (inl c) =
    let tokens = c.1.0 in
    let w : length tokens < 200000 = c.1.1 in
    let counts : Counts 200000 (0 + length tokens) f = inr (c.0, λ e. let d : 0 + length tokens ≡ 200000 = e in omega arith) in
    (tokens, runs_complete 200000 (length bytes) (Some f) (Stops f) tokens 0 0 bytes (sym (from_start bytes)) (omega arith) (omega arith) (λ m v s. stops_complete 200000 (0 + length tokens) (length bytes) m f v s counts) c.1.2)
cause_scan bytes f (inr c) =
    let tokens = c.1.0 in
    let w : length tokens ≡ 200000 = c.1.1 in
    let all : 0 + length tokens ≡ 200000 = omega arith in
    let counts : Counts 200000 (0 + length tokens) fault.TooMany = inl (refl, all) in
    let run = runs_complete 200000 (length bytes) (Some fault.TooMany) (Stops fault.TooMany) tokens 0 0 bytes (sym (from_start bytes)) (omega arith) (omega arith) (λ m v s. stops_complete 200000 (0 + length tokens) (length bytes) m fault.TooMany v s counts) c.1.2 in
    subst (StopsSo bytes) (sym c.0) (tokens, run)

pub scan_tokens : (bytes : List ℕ) (tokens : List Token) → Scans bytes tokens None → Lexes bytes tokens × (length tokens ≤ 200000)
scan_tokens bytes tokens r = runs_lexes bytes tokens r

pub scan_fault : (bytes : List ℕ) (f : LexFault) → StopsSo bytes f → HasFault bytes f × (f ≡ fault.NoMemory → ⊥)
scan_fault bytes f s = let c = scan_cause bytes s.0 f s.1 in (cause_fault bytes f c, cause_known bytes f c)

pub fault_scan : (bytes : List ℕ) (f : LexFault) → HasFault bytes f → (f ≡ fault.NoMemory → ⊥) → StopsSo bytes f
fault_scan bytes f h n = cause_scan bytes f (fault_cause bytes f h n)

pub fault_one : (bytes : List ℕ) (f g : LexFault) → HasFault bytes f → HasFault bytes g → (f ≡ fault.NoMemory → ⊥) → (g ≡ fault.NoMemory → ⊥) → f ≡ g
fault_one bytes f g p q nf ng =
    let s = fault_scan bytes f p nf in
    let t = fault_scan bytes g q ng in
    let same : Some f ≡ Some g = (runs_same s.0 t.0 200000 0 (length bytes) bytes (Some f) (Some g) s.1 t.1).1 in
    cc

lexes_no_stop : (bytes : List ℕ) (tokens : List Token) (f : LexFault) → Lexes bytes tokens → length tokens ≤ 200000 → StopsSo bytes f → ⊥
lexes_no_stop bytes tokens f l c s =
    let same : None ≡ Some f = (runs_same tokens s.0 200000 0 (length bytes) bytes None (Some f) (lexes_runs 200000 bytes tokens l c) s.1).1 in
    cc

memory_or_not : (f : LexFault) → (f ≡ fault.NoMemory) ⊎ (f ≡ fault.NoMemory → ⊥)
memory_or_not fault.NoMemory = inl refl
memory_or_not (fault.BadByte at) = inr (λ e. cc)
memory_or_not (fault.OpenString at) = inr (λ e. cc)
memory_or_not (fault.Real at) = inr (λ e. cc)
memory_or_not (fault.IntRange at) = inr (λ e. cc)
memory_or_not fault.TooMany = inr (λ e. cc)

pub no_fault : (bytes : List ℕ) (tokens : List Token) (f : LexFault) → Lexes bytes tokens → length tokens ≤ 200000 → HasFault bytes f → f ≡ fault.NoMemory
no_fault bytes tokens f l c h = by (memory_or_not f) where
  by : (f ≡ fault.NoMemory) ⊎ (f ≡ fault.NoMemory → ⊥) → f ≡ fault.NoMemory
  by (inl e) = e
  by (inr n) = absurd (lexes_no_stop bytes tokens f l c (fault_scan bytes f h n))

-- The scan of each source ends.

abbrev Ran : ℕ → ℕ → ℕ → List ℕ → Type 0
Ran limit count total bytes = (tokens : List Token) × (end : Option LexFault) × Runs limit count total bytes tokens end

pub piece_some : (text : List ℕ) → IsPiece text → 1 ≤ length text
piece_some text p = let g = piece_begun text p in let len : length text ≡ suc (length g.1) = ap (λ (l : List ℕ). length l) g.2 in omega arith

ran : (most limit total : ℕ) (count : ℕ) (bytes : List ℕ) → length bytes ≤ most → length bytes ≤ total → Ran limit count total bytes
ran zero limit total count [] m w = ([], None, refl)
ran zero limit total count (b ∷ bytes) m w = absurd (omega arith)
ran (suc most) limit total count bytes m w = by (next_of limit count total bytes) refl (λ rest v u. ran most limit total (count + 1) rest v u) where
  by : (n : Next) → next_of limit count total bytes ≡ n → ((rest : List ℕ) → length rest ≤ most → length rest ≤ total → Ran limit (count + 1) total rest) → Ran limit count total bytes
  by (Ends end) e ih = ([], end, e)
  by (Makes token rest) e ih =
      let made = makes_sound limit count total bytes token rest w e in
      let p = lengths total bytes (made.0 ++ made.1) rest made.2 w in
      let some = piece_some made.1 (inr (token.kind, made.4.spelled)) in
      let long : length (made.0 ++ made.1) ≡ length made.0 + length made.1 = length-append made.0 made.1 in
      let all : length bytes ≡ length (made.0 ++ made.1) + length rest = ap (λ (l : List ℕ). length l) made.2 ∙ length-append (made.0 ++ made.1) rest in
      let r = ih rest (omega arith) p.0 in
      (token ∷ r.0, r.1, (rest, e, r.2))

abbrev OneOf : List ℕ → Type 0
OneOf bytes = ((tokens : List Token) × Lexes bytes tokens × (length tokens ≤ 200000)) ⊎ ((f : LexFault) × HasFault bytes f × (f ≡ fault.NoMemory → ⊥))

one_by : (bytes : List ℕ) (tokens : List Token) (end : Option LexFault) → Scans bytes tokens end → OneOf bytes
one_by bytes tokens None r = let l = runs_lexes bytes tokens r in inl (tokens, l.0, l.1)
one_by bytes tokens (Some f) r = let h = scan_fault bytes f (tokens, r) in inr (f, h.0, h.1)

pub has_one : (bytes : List ℕ) → OneOf bytes
has_one bytes = let r = ran (length bytes) 200000 (length bytes) 0 bytes (omega arith) (omega arith) in one_by bytes r.0 r.1 r.2
