-- The lanes are dismissed one by one, with a line for each that is open.
use Rattle.std.proofs.Common.{◌≡◌, ℕ, zero, suc, ◌+◌, ◌<◌, ◌≤◌, Bool, true, false, if◌then◌else◌, List, [], ◌∷◌, ◌++◌, length, get_or, set, map, take, drop, replicate, count_by, refl, ap, sym, ◌∙◌, add-one, arith}
use Rattle.std.proofs.Math.Seq.{drop-cons}
use Rattle.std.proofs.lemmas.List.{same_from_push, replicate_more, length-replicate, append-nil, take_all, drop_all}
use Rattle.std.proofs.lemmas.List.Sums.{sum_by-cons}
use Rattle.tb_log.specs.declared.entry.Out.{Out}
use Rattle.tb_tools.specs.Lanes.{Lane, is_open}
use Rattle.tb_tools.specs.Acts.{ended_with, dismissed}

-- how many lines a lane takes
abbrev pub lines_for : Bool → ℕ
lines_for is = if is then 1 else 0

one-more : (left : ℕ) (line : Out) → replicate (1 + left) line ≡ replicate left line ++ line ∷ []
one-more left line =
    let e : 1 + left ≡ left + 1 = omega arith in
    ap (λ (n : ℕ). replicate n line) e ∙ sym (replicate_more left line)

pub dismissed-open : (lane new : Lane) (lines rest : List Out) (last : Out) → is_open lane ≡ true → lines ≡ rest ++ last ∷ [] → new ≡ ended_with last lane
    → (line : Out) (left : ℕ) → lines ≡ replicate (lines_for (is_open lane) + left) line → (new ≡ dismissed line lane) × (rest ≡ replicate left line)
dismissed-open lane new lines rest last up parts e line left all =
    let count : lines_for (is_open lane) + left ≡ 1 + left = ap (λ (b : Bool). lines_for b + left) up in
    let same = same_from_push rest (replicate left line) last line (sym parts ∙ all ∙ ap (λ (n : ℕ). replicate n line) count ∙ one-more left line) in
    (e ∙ ap (λ (x : Out). ended_with x lane) same.1 ∙ sym (ap (λ (b : Bool). if b then ended_with line lane else lane) up), same.0)

pub dismissed-without : (lane : Lane) (lines : List Out) → is_open lane ≡ true → length lines ≡ 0 → (line : Out) (left : ℕ) → lines ≡ replicate (lines_for (is_open lane) + left) line → ⊥
dismissed-without lane lines up none line left all =
    let count : lines_for (is_open lane) + left ≡ 1 + left = ap (λ (b : Bool). lines_for b + left) up in
    let e : 0 ≡ 1 + left = sym none ∙ ap length (all ∙ ap (λ (n : ℕ). replicate n line) count) ∙ length-replicate (1 + left) line in
    omega arith

pub dismissed-closed : (lane new : Lane) (lines rest : List Out) → is_open lane ≡ false → new ≡ lane → rest ≡ lines
    → (line : Out) (left : ℕ) → lines ≡ replicate (lines_for (is_open lane) + left) line → (new ≡ dismissed line lane) × (rest ≡ replicate left line)
dismissed-closed lane new lines rest closed e f line left all =
    let count : lines_for (is_open lane) + left ≡ left = ap (λ (b : Bool). lines_for b + left) closed ∙ omega arith in
    (e ∙ sym (ap (λ (b : Bool). if b then ended_with line lane else lane) closed), f ∙ all ∙ ap (λ (n : ℕ). replicate n line) count)

-- the lanes so far were dismissed
abbrev pub so_far : (Lane → Lane) → ℕ → List Lane → List Lane
so_far change i lanes = map change (take i lanes) ++ drop i lanes

so_far-at : (change : Lane → Lane) (i : ℕ) (lanes : List Lane) (d : Lane) → get_or (so_far change i lanes) i d ≡ get_or lanes i d
so_far-at change zero lanes d = refl
so_far-at change (suc i) [] d = refl
so_far-at change (suc i) (lane ∷ lanes) d = so_far-at change i lanes d

so_far-more : (change : Lane → Lane) (i : ℕ) (lanes : List Lane) (old : Lane) → i < length lanes → old ≡ get_or lanes i old
    → set (so_far change i lanes) i (change old) ≡ so_far change (suc i) lanes
so_far-more change i [] old l e = absurd (omega arith)
so_far-more change zero (lane ∷ lanes) old l e = ap (λ (x : Lane). change x ∷ lanes) e
so_far-more change (suc i) (lane ∷ lanes) old l e =
    let m : i < length lanes = omega arith in
    ap (λ (xs : List Lane). change lane ∷ xs) (so_far-more change i lanes old m e)

count-more : (lanes : List Lane) (i : ℕ) (old : Lane) → i < length lanes → old ≡ get_or lanes i old
    → count_by is_open (drop i lanes) ≡ lines_for (is_open old) + count_by is_open (drop (suc i) lanes)
count-more lanes i old l e =
    ap (count_by is_open) (drop-cons lanes i old l ∙ ap (λ (x : Lane). x ∷ drop (suc i) lanes) (sym e))
    ∙ sum_by-cons (λ lane. lines_for (is_open lane)) old (drop (suc i) lanes)

pub dismissed-more : (lanes now : List Lane) (lines rest : List Out) (i : ℕ) (old new : Lane) (line : Out) → i < length lanes
    → now ≡ so_far (dismissed line) i lanes → lines ≡ replicate (count_by is_open (drop i lanes)) line → old ≡ get_or now i old
    → ((last : Out) (left : ℕ) → lines ≡ replicate (lines_for (is_open old) + left) last → (new ≡ dismissed last old) × (rest ≡ replicate left last))
    → (set now i new ≡ so_far (dismissed line) (i + 1) lanes) × (rest ≡ replicate (count_by is_open (drop (i + 1) lanes)) line)
dismissed-more lanes now lines rest i old new line l e f at made =
    let here : old ≡ get_or lanes i old = at ∙ ap (λ (xs : List Lane). get_or xs i old) e ∙ so_far-at (dismissed line) i lanes old in
    let count = count-more lanes i old l here in
    let both = made line (count_by is_open (drop (suc i) lanes)) (f ∙ ap (λ (n : ℕ). replicate n line) count) in (
      rw add-one (ap (λ (xs : List Lane). set xs i new) e ∙ ap (λ (x : Lane). set (so_far (dismissed line) i lanes) i x) both.0 ∙ so_far-more (dismissed line) i lanes old l here),
      rw add-one both.1,
    )

pub dismissed-all : (lanes now : List Lane) (i : ℕ) (line : Out) → length lanes ≤ i → now ≡ so_far (dismissed line) i lanes → now ≡ map (dismissed line) lanes
dismissed-all lanes now i line l e =
    e
    ∙ ap (λ (xs : List Lane). map (dismissed line) xs ++ drop i lanes) (take_all i lanes l)
    ∙ ap (λ (xs : List Lane). map (dismissed line) lanes ++ xs) (drop_all i lanes l)
    ∙ append-nil (map (dismissed line) lanes)
