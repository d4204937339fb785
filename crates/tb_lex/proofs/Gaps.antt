-- Exactly the whitespace and comments at the start are skipped.
use Rattle.std.proofs.Common.{◌≡◌, ℕ, Bool, true, false, not, ◌&&◌, ◌⊎◌, cond, eqb, List, [], ◌∷◌, ◌++◌, Option, Some, None, refl, ap, sym, ◌∙◌, subst, inl, inr, append_assoc, append-nil, arith}
use Rattle.std.proofs.lemmas.Bool.{false≢true, eqb-true, and_parts}
use Rattle.std.proofs.lemmas.Bool.Decides.{nat_tests}
use Rattle.std.specs.List.{list_all}
use Rattle.tb_read.specs.Spelling.{is_blank}
use Rattle.tb_lex.specs.Gaps.{is_within_line, IsComment, IsGapPart, InParts, IsGap, IsLast}
use Rattle.tb_lex.specs.Faults.{IsBegun}
use Rattle.tb_lex.specs.Helpers.Scanning.{begins_with, gap_step, skip_gap}

-- what is left, once the step of the first byte is known
abbrev stepped : Option Bool → ℕ → List ℕ → List ℕ
stepped step byte bytes = elim step [
  | None ↦ byte ∷ bytes
  | Some next ↦ skip_gap next bytes
]

-- a line up to its end, within a comment
line_skipped : (line rest : List ℕ) → list_all is_within_line line ≡ true → skip_gap true (line ++ (10 ∷ rest)) ≡ skip_gap false rest
line_skipped [] rest h = refl
line_skipped (b ∷ line) rest h =
    let p = and_parts (is_within_line b) (list_all is_within_line line) h in
    ap (λ v. skip_gap v (line ++ (10 ∷ rest))) p.0 ∙ line_skipped line rest p.1

line_ended : (line : List ℕ) → list_all is_within_line line ≡ true → skip_gap true line ≡ []
line_ended [] h = refl
line_ended (b ∷ line) h =
    let p = and_parts (is_within_line b) (list_all is_within_line line) h in
    ap (λ v. skip_gap v line) p.0 ∙ line_ended line p.1

blank_percent : (b : ℕ) → is_blank b ≡ true → eqb b 37 ≡ false
blank_percent b h = grind (arith, nat_tests)

blank_step : (b : ℕ) (rest : List ℕ) → is_blank b ≡ true → gap_step false b rest ≡ Some false
blank_step b rest h = rw (blank_percent b h, h) refl

part_skipped : (part rest : List ℕ) → IsGapPart part → skip_gap false (part ++ rest) ≡ skip_gap false rest
part_skipped part rest (inl p) = ap (λ (l : List ℕ). skip_gap false (l ++ rest)) p.2 ∙ ap (λ s. stepped s p.0 rest) (blank_step p.0 rest p.1)
part_skipped part rest (inr p) =
    let line = p.1.0 in
    let whole : part ++ rest ≡ 37 ∷ 37 ∷ (line ++ (10 ∷ rest)) =
    ap (λ (l : List ℕ). l ++ rest) (p.2 ∙ ap (λ (l : List ℕ). l ++ (10 ∷ [])) p.1.1) ∙ append_assoc (37 ∷ 37 ∷ line) (10 ∷ []) rest in
    ap (skip_gap false) whole ∙ line_skipped line rest p.1.2

parts_skipped : (parts : List (List ℕ)) (gap rest : List ℕ) → InParts parts gap → skip_gap false (gap ++ rest) ≡ skip_gap false rest
parts_skipped [] gap rest p = ap (λ (l : List ℕ). skip_gap false (l ++ rest)) p
parts_skipped (part ∷ parts) gap rest p =
    ap (λ (l : List ℕ). skip_gap false (l ++ rest)) p.1 ∙ ap (skip_gap false) (append_assoc part p.0 rest)
    ∙ part_skipped part (p.0 ++ rest) p.2 ∙ parts_skipped parts p.0 rest p.3

percents : (b : ℕ) (rest : List ℕ) → (eqb b 37 && begins_with 37 rest) ≡ true → (more : List ℕ) × (b ≡ 37) × (rest ≡ 37 ∷ more)
percents b [] h = let p = and_parts (eqb b 37) false h in absurd (false≢true p.1)
percents b (c ∷ more) h =
    let p = and_parts (eqb b 37) (eqb c 37) h in
    (more, eqb-true b 37 p.0, ap (λ n. n ∷ more) (eqb-true c 37 p.1))

not_blank : (b : ℕ) → not (is_blank b) ≡ true → is_blank b ≡ false
not_blank b h = by (is_blank b) refl h where
  by : (v : Bool) → is_blank b ≡ v → not v ≡ true → is_blank b ≡ false
  by true e h = absurd (false≢true h)
  by false e h = e

begun_step : (b : ℕ) (rest : List ℕ) → is_blank b ≡ false → ((more : List ℕ) → b ∷ rest ≡ 37 ∷ 37 ∷ more → ⊥) → gap_step false b rest ≡ None
begun_step b rest e n = by (eqb b 37 && begins_with 37 rest) refl where
  by : (v : Bool) → (eqb b 37 && begins_with 37 rest) ≡ v → cond v (Some true) (cond (is_blank b) (Some false) None) ≡ None
  by true h = let p = percents b rest h in absurd (n p.0 (ap (λ n. n ∷ rest) p.1 ∙ ap (λ (l : List ℕ). 37 ∷ l) p.2))
  by false h = rw e refl

begun_kept : (bytes : List ℕ) → IsBegun bytes → skip_gap false bytes ≡ bytes
begun_kept bytes p =
    let never : (more : List ℕ) → p.0 ∷ p.1 ≡ 37 ∷ 37 ∷ more → ⊥ = λ more e. p.4 more (p.2 ∙ e) in
    ap (skip_gap false) p.2 ∙ ap (λ s. stepped s p.0 p.1) (begun_step p.0 p.1 (not_blank p.0 p.3) never) ∙ sym p.2

pub gap_skipped : (gap rest : List ℕ) → IsGap gap → IsBegun rest → skip_gap false (gap ++ rest) ≡ rest
gap_skipped gap rest g b = parts_skipped g.0 gap rest g.1 ∙ begun_kept rest b

pub last_skipped : (bytes : List ℕ) → IsLast bytes → skip_gap false bytes ≡ []
last_skipped bytes (inl g) = ap (skip_gap false) (sym (append-nil bytes)) ∙ parts_skipped g.0 bytes [] g.1
last_skipped bytes (inr p) =
    let c = p.4 in
    ap (skip_gap false) p.2 ∙ parts_skipped p.3.0 p.0 p.1 p.3.1 ∙ ap (skip_gap false) c.1 ∙ line_ended c.0 c.2

-- the bytes that are skipped

pub no_gap : IsGap []
no_gap = ([], refl)

more_gap : (part gap : List ℕ) → IsGapPart part → IsGap gap → IsGap (part ++ gap)
more_gap part gap p g = (part ∷ g.0, (gap, refl, p, g.1))

more_last : (part bytes : List ℕ) → IsGapPart part → IsLast bytes → IsLast (part ++ bytes)
more_last part bytes p (inl g) = inl (more_gap part bytes p g)
more_last part bytes p (inr q) =
    inr (part ++ q.0, q.1, ap (λ (l : List ℕ). part ++ l) q.2 ∙ sym (append_assoc part q.0 q.1), more_gap part q.0 p q.3, q.4)

-- the source ends in whitespace and comments, or something else follows them
abbrev Something : List ℕ → Type 0
Something bytes = (gap : List ℕ) × (byte : ℕ) × (rest : List ℕ) × (bytes ≡ gap ++ (byte ∷ rest)) × IsGap gap × IsBegun (byte ∷ rest) × (skip_gap false bytes ≡ byte ∷ rest)

abbrev pub Skipped : List ℕ → Type 0
Skipped bytes = (IsLast bytes × (skip_gap false bytes ≡ [])) ⊎ Something bytes

more_skipped : (part bytes : List ℕ) → IsGapPart part → Skipped bytes → Skipped (part ++ bytes)
more_skipped part bytes p (inl s) = inl (more_last part bytes p s.0, part_skipped part bytes p ∙ s.1)
more_skipped part bytes p (inr s) =
    inr (part ++ s.0, s.1, s.2, ap (λ (l : List ℕ). part ++ l) s.3 ∙ sym (append_assoc part s.0 (s.1 ∷ s.2)), more_gap part s.0 p s.4, s.5, part_skipped part bytes p ∙ s.6)

-- within a comment: the line ends at the end of the source, or at a newline that more bytes follow
abbrev InLine : List ℕ → Type 0
InLine bytes = (line : List ℕ) × (list_all is_within_line line ≡ true) × ((bytes ≡ line) ⊎ ((rest : List ℕ) × (bytes ≡ line ++ (10 ∷ rest)) × Skipped rest))

in_line_by : (b : ℕ) (bytes : List ℕ) → Skipped bytes → InLine bytes → (v : Bool) → eqb b 10 ≡ v → InLine (b ∷ bytes)
in_line_by b bytes s i true e = ([], refl, inr (bytes, ap (λ n. n ∷ bytes) (eqb-true b 10 e), s))
in_line_by b bytes s (line, h, inl p) false e = (b ∷ line, rw e h, inl (ap (λ (l : List ℕ). b ∷ l) p))
in_line_by b bytes s (line, h, inr p) false e = (b ∷ line, rw e h, inr (p.0, ap (λ (l : List ℕ). b ∷ l) p.1, p.2))

-- after the first of two percent signs
comment_skipped : (more line : List ℕ) → list_all is_within_line line ≡ true → ((37 ∷ more ≡ line) ⊎ ((rest : List ℕ) × (37 ∷ more ≡ line ++ (10 ∷ rest)) × Skipped rest)) → Skipped (37 ∷ 37 ∷ more)
comment_skipped more line h (inl p) =
    let c : IsComment (37 ∷ 37 ∷ more) = (more, refl, (and_parts (is_within_line 37) (list_all is_within_line more) (subst (λ (l : List ℕ). list_all is_within_line l ≡ true) (sym p) h)).1) in
    inl (inr ([], 37 ∷ 37 ∷ more, refl, no_gap, c), line_ended more c.2)
comment_skipped more [] h (inr p) = let no : 37 ≡ 10 = cc in absurd (false≢true (ap (λ n. eqb n 10) no))
comment_skipped more (c ∷ line) h (inr p) =
    let first : 37 ≡ c = cc in
    let behind : more ≡ line ++ (10 ∷ p.0) = cc in
    let q = and_parts (is_within_line c) (list_all is_within_line line) h in
    let part : IsGapPart ((37 ∷ 37 ∷ line) ++ (10 ∷ [])) = inr (37 ∷ 37 ∷ line, (line, refl, q.1), refl) in
    let whole : ((37 ∷ 37 ∷ line) ++ (10 ∷ [])) ++ p.0 ≡ 37 ∷ 37 ∷ more = append_assoc (37 ∷ 37 ∷ line) (10 ∷ []) p.0 ∙ ap (λ (l : List ℕ). 37 ∷ 37 ∷ l) (sym behind) in
    subst Skipped whole (more_skipped ((37 ∷ 37 ∷ line) ++ (10 ∷ [])) p.0 part p.2)

begun_by : (b : ℕ) (bytes : List ℕ) → is_blank b ≡ false → (eqb b 37 && begins_with 37 bytes) ≡ false → IsBegun (b ∷ bytes)
begun_by b bytes e h = (b, bytes, refl, ap not e, λ more same. absurd (no more same h)) where
  no : (more : List ℕ) → b ∷ bytes ≡ 37 ∷ 37 ∷ more → (eqb b 37 && begins_with 37 bytes) ≡ false → ⊥
  no more same h =
      let first : b ≡ 37 = cc in
      let behind : bytes ≡ 37 ∷ more = cc in
      false≢true (sym h ∙ ap (λ n. eqb n 37 && begins_with 37 bytes) first ∙ ap (λ (l : List ℕ). begins_with 37 l) behind)

skipped_by : (b : ℕ) (bytes : List ℕ) → Skipped bytes → InLine bytes → (v w : Bool) → (eqb b 37 && begins_with 37 bytes) ≡ v → is_blank b ≡ w → Skipped (b ∷ bytes)
skipped_by b bytes s i true w ev ew =
    let p = percents b bytes ev in
    let line = subst InLine p.2 i in
    subst Skipped (ap (λ (l : List ℕ). 37 ∷ l) (sym p.2) ∙ ap (λ n. n ∷ bytes) (sym p.1)) (comment_skipped p.0 line.0 line.1 line.2)
skipped_by b bytes s i false true ev ew = more_skipped (b ∷ []) bytes (inl (b, ew, refl)) s
skipped_by b bytes s i false false ev ew =
    let begun = begun_by b bytes ew ev in
    inr ([], b, bytes, refl, no_gap, begun, begun_kept (b ∷ bytes) begun)

both : (bytes : List ℕ) → Skipped bytes × InLine bytes
both [] = (inl (inl no_gap, refl), ([], refl, inl refl))
both (b ∷ bytes) =
    let p = both bytes in
    (skipped_by b bytes p.0 p.1 (eqb b 37 && begins_with 37 bytes) (is_blank b) refl refl, in_line_by b bytes p.0 p.1 (eqb b 10) refl)

pub skipped : (bytes : List ℕ) → Skipped bytes
skipped bytes = (both bytes).0
