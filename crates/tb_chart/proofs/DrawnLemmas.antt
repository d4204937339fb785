-- Lemmas on the lines that are drawn.
use Rattle.std.proofs.Common.{◌≡◌, ◌∙◌, ◌+◌, ◌<◌, ◌≤◌, ◌^◌, ◌++◌, ◌∷◌, ◌&&◌, [], ℕ, zero, suc, List, length, set, take, get_or, Bool, true, false, All, refl, sym, ap, subst, arith}
use Rattle.std.specs.Prelude.{nat_lt, if◌then◌else◌}
use Rattle.std.proofs.lemmas.Bool.{lt-ltb, ltb-true}
use Rattle.std.proofs.Math.Seq.{take-length}
use Rattle.std.proofs.lemmas.List.{length-take-le, take_more}
use Rattle.std.proofs.lemmas.List.Elements.{All-cons, All-nil}
use Rattle.tb_log.specs.Lanes.{is_tick}
use Rattle.tb_chart.specs.declared.drawn.Drawn.{Drawn}
use Rattle.tb_chart.specs.declared.row.Row.{Row}
use Rattle.tb_chart.specs.Drawn.{are_ticks, before_lines, drawn_from, joined, own_line}
use Rattle.tb_chart.specs.Helpers.Additions.{HasFewTicks, after_lines}

-- the last line joins, or not
pub last_joins : (lines : List Drawn) (line : Drawn) (index : ℕ) → index + 1 ≡ length lines → are_ticks (get_or lines index line) line ≡ true
    → after_lines lines line ≡ set lines index (joined (get_or lines index line) line)
last_joins [] line index last are = absurd (omega (arith, last))
last_joins (it ∷ []) line zero last are = ap (λ b. if b then joined it line ∷ [] else it ∷ line ∷ []) are
last_joins (it ∷ []) line (suc index) last are = absurd (omega (arith, last))
last_joins (it ∷ next ∷ lines) line zero last are = absurd (omega (arith, last))
last_joins (it ∷ next ∷ lines) line (suc index) last are =
    ap (λ (those : List Drawn). it ∷ those) (last_joins (next ∷ lines) line index (omega (arith, last)) are)

pub last_apart : (lines : List Drawn) (line : Drawn) (index : ℕ) → index + 1 ≡ length lines → are_ticks (get_or lines index line) line ≡ false
    → after_lines lines line ≡ lines ++ line ∷ []
last_apart [] line index last are = refl
last_apart (it ∷ []) line zero last are = ap (λ b. if b then joined it line ∷ [] else it ∷ line ∷ []) are
last_apart (it ∷ []) line (suc index) last are = absurd (omega (arith, last))
last_apart (it ∷ next ∷ lines) line zero last are = absurd (omega (arith, last))
last_apart (it ∷ next ∷ lines) line (suc index) last are =
    ap (λ (those : List Drawn). it ∷ those) (last_apart (next ∷ lines) line index (omega (arith, last)) are)

pub none_last : (lines : List Drawn) (line : Drawn) → length lines < 1 → after_lines lines line ≡ lines ++ line ∷ []
none_last [] line few = refl
none_last (it ∷ lines) line few = absurd (omega (arith, few))

-- A line before others and one after them may be added in either order. First with one line between them.
assoc_joined : (a x b : Drawn) → joined a (joined x b) ≡ joined (joined a x) b
assoc_joined a x b =
    let sum : a.ticks + (x.ticks + b.ticks) ≡ a.ticks + x.ticks + b.ticks = omega arith in
    ap (λ n. record { index = a.index; ticks = n; last = b.last }) sum

more_ticks : (m n : ℕ) → nat_lt 0 m ≡ true → nat_lt 0 (m + n) ≡ true
more_ticks m n some = let is : 0 < m = ltb-true 0 m some in lt-ltb 0 (m + n) (omega (arith, is))

ticks_more : (m n : ℕ) → nat_lt 0 n ≡ true → nat_lt 0 (m + n) ≡ true
ticks_more m n some = let is : 0 < n = ltb-true 0 n some in lt-ltb 0 (m + n) (omega (arith, is))

before_two : (a x b : Drawn) (t u v : Bool) → are_ticks x b ≡ t → are_ticks a (joined x b) ≡ u → are_ticks a x ≡ v
    → before_lines a (after_lines (x ∷ []) b)
    ≡ (if t then if u then joined a (joined x b) ∷ [] else a ∷ joined x b ∷ [] else if v then joined a x ∷ b ∷ [] else a ∷ x ∷ b ∷ [])
before_two a x b true u v last both first =
    ap (λ c. before_lines a (if c then joined x b ∷ [] else x ∷ b ∷ [])) last
    ∙ ap (λ c. if c then joined a (joined x b) ∷ [] else a ∷ joined x b ∷ []) both
before_two a x b false u v last both first =
    ap (λ c. before_lines a (if c then joined x b ∷ [] else x ∷ b ∷ [])) last ∙ ap (λ c. if c then joined a x ∷ b ∷ [] else a ∷ x ∷ b ∷ []) first

after_two : (a x b : Drawn) (v w t : Bool) → are_ticks a x ≡ v → are_ticks (joined a x) b ≡ w → are_ticks x b ≡ t
    → after_lines (before_lines a (x ∷ [])) b
    ≡ (if v then if w then joined (joined a x) b ∷ [] else joined a x ∷ b ∷ [] else a ∷ (if t then joined x b ∷ [] else x ∷ b ∷ []))
after_two a x b true w t first both last =
    ap (λ c. after_lines (if c then joined a x ∷ [] else a ∷ x ∷ []) b) first
    ∙ ap (λ c. if c then joined (joined a x) b ∷ [] else joined a x ∷ b ∷ []) both
after_two a x b false w t first both last =
    ap (λ c. after_lines (if c then joined a x ∷ [] else a ∷ x ∷ []) b) first ∙ ap (λ c. a ∷ (if c then joined x b ∷ [] else x ∷ b ∷ [])) last

both_are : (p q c d : Bool) → p ≡ c → q ≡ d → (p && q) ≡ (c && d)
both_are p q c d one two = ap (λ b. b && q) one ∙ ap (λ b. c && b) two

between : (a x b : Drawn) (ta tx tb : Bool) → nat_lt 0 a.ticks ≡ ta → nat_lt 0 x.ticks ≡ tx → nat_lt 0 b.ticks ≡ tb
    → before_lines a (after_lines (x ∷ []) b) ≡ after_lines (before_lines a (x ∷ [])) b
between a x b ta tx tb is_a is_x is_b =
    let last : are_ticks x b ≡ (tx && tb) = both_are (nat_lt 0 x.ticks) (nat_lt 0 b.ticks) tx tb is_x is_b in
    let first : are_ticks a x ≡ (ta && tx) = both_are (nat_lt 0 a.ticks) (nat_lt 0 x.ticks) ta tx is_a is_x in
    by ta tx tb is_a is_x is_b last first
  where
    by : (ta tx tb : Bool) → nat_lt 0 a.ticks ≡ ta → nat_lt 0 x.ticks ≡ tx → nat_lt 0 b.ticks ≡ tb → are_ticks x b ≡ (tx && tb)
        → are_ticks a x ≡ (ta && tx) → before_lines a (after_lines (x ∷ []) b) ≡ after_lines (before_lines a (x ∷ [])) b
    by true true true is_a is_x is_b last first =
        before_two a x b true true true last
        (both_are (nat_lt 0 a.ticks) (nat_lt 0 (x.ticks + b.ticks)) true true is_a (more_ticks x.ticks b.ticks is_x)) first
        ∙ ap (λ (it : Drawn). it ∷ []) (assoc_joined a x b)
        ∙ sym (after_two a x b true true true first
        (both_are (nat_lt 0 (a.ticks + x.ticks)) (nat_lt 0 b.ticks) true true (ticks_more a.ticks x.ticks is_x) is_b) last)
    by true true false is_a is_x is_b last first =
        before_two a x b false (are_ticks a (joined x b)) true last refl first
        ∙ sym (after_two a x b true false false first
        (both_are (nat_lt 0 (a.ticks + x.ticks)) (nat_lt 0 b.ticks) true false (ticks_more a.ticks x.ticks is_x) is_b) last)
    by false true true is_a is_x is_b last first =
        before_two a x b true false false last (ap (λ c. c && nat_lt 0 (x.ticks + b.ticks)) is_a) first
        ∙ sym (after_two a x b false (are_ticks (joined a x) b) true first refl last)
    by false true false is_a is_x is_b last first =
        before_two a x b false (are_ticks a (joined x b)) false last refl first
        ∙ sym (after_two a x b false (are_ticks (joined a x) b) false first refl last)
    by true false tb is_a is_x is_b last first =
        before_two a x b false (are_ticks a (joined x b)) false last refl first
        ∙ sym (after_two a x b false (are_ticks (joined a x) b) false first refl last)
    by false false tb is_a is_x is_b last first =
        before_two a x b false (are_ticks a (joined x b)) false last refl first
        ∙ sym (after_two a x b false (are_ticks (joined a x) b) false first refl last)

by_more : (a x y b : Drawn) (lines : List Drawn) (are : Bool) → are_ticks a x ≡ are
    → (if are then joined a x ∷ after_lines (y ∷ lines) b else a ∷ x ∷ after_lines (y ∷ lines) b)
    ≡ after_lines (if are then joined a x ∷ y ∷ lines else a ∷ x ∷ y ∷ lines) b
by_more a x y b lines true are = refl
by_more a x y b lines false are = refl

either_order : (a b : Drawn) (lines : List Drawn) → before_lines a (after_lines lines b) ≡ after_lines (before_lines a lines) b
either_order a b [] = refl
either_order a b (x ∷ []) = between a x b (nat_lt 0 a.ticks) (nat_lt 0 x.ticks) (nat_lt 0 b.ticks) refl refl refl
either_order a b (x ∷ y ∷ lines) = by_more a x y b lines (are_ticks a x) refl

-- one row more
pub drawn_push : (index next : ℕ) (rows : List Row) (row : Row) → next ≡ index + length rows
    → drawn_from index (rows ++ row ∷ []) ≡ after_lines (drawn_from index rows) (own_line next row)
drawn_push index next [] row at =
    let same : index ≡ next = omega (arith, at) in ap (λ n. own_line n row ∷ []) same
drawn_push index next (it ∷ rows) row at =
    ap (before_lines (own_line index it)) (drawn_push (index + 1) next rows row (omega (arith, at)))
    ∙ either_order (own_line index it) (own_line next row) (drawn_from (index + 1) rows)

-- no line shows more ticks than there are rows
few_before : (many : ℕ) (line : Drawn) (lines : List Drawn) → line.ticks ≤ 1 → All (λ (it : Drawn). it.ticks ≤ many) lines
    → All (λ (it : Drawn). it.ticks ≤ many + 1) (before_lines line lines)
few_before many line [] one few = All-cons (λ (it : Drawn). it.ticks ≤ many + 1) line [] (omega (arith, one)) (All-nil (λ (it : Drawn). it.ticks ≤ many + 1))
few_before many line (next ∷ lines) one few =
    let P : Drawn → Type 0 = λ (it : Drawn). it.ticks ≤ many + 1 in
    let first : next.ticks ≤ many = few 0 next (omega arith) in
    let rest : All P lines = λ k d within. let it : (get_or lines k d).ticks ≤ many = few (suc k) d (omega (arith, within)) in omega (arith, it) in
    by (are_ticks line next) P (All-cons P (joined line next) lines (omega (arith, one, first)) rest)
    (All-cons P line (next ∷ lines) (omega (arith, one)) (All-cons P next lines (omega (arith, first)) rest))
  where
    by : (b : Bool) (P : Drawn → Type 0) → All P (joined line next ∷ lines) → All P (line ∷ next ∷ lines)
        → All P (if b then joined line next ∷ lines else line ∷ next ∷ lines)
    by true P join apart = join
    by false P join apart = apart

own_few : (index : ℕ) (row : Row) → (own_line index row).ticks ≤ 1
own_few index row = by (is_tick row.entry.now)
  where
    by : (b : Bool) → (if b then 1 else 0) ≤ 1
    by true = omega arith
    by false = omega arith

few_drawn : (index : ℕ) (rows : List Row) → All (λ (it : Drawn). it.ticks ≤ length rows) (drawn_from index rows)
few_drawn index [] = All-nil (λ (it : Drawn). it.ticks ≤ 0)
few_drawn index (row ∷ rows) =
    let few = few_before (length rows) (own_line index row) (drawn_from (index + 1) rows) (own_few index row) (few_drawn (index + 1) rows) in
    λ k d within. let it : (get_or (drawn_from index (row ∷ rows)) k d).ticks ≤ length rows + 1 = few k d within in omega (arith, it)

-- the lines of the rows so far, and of one row more
pub one_more : (rows : List Row) (index : ℕ) (row : Row) (line : Drawn) (old new : List Drawn) → index < length rows → row ≡ get_or rows index row
    → line ≡ own_line index row → old ≡ drawn_from 0 (take index rows) → new ≡ after_lines old line → new ≡ drawn_from 0 (take (index + 1) rows)
one_more rows index row line old new within here is before after =
    let long : length (take index rows) ≡ index = length-take-le index rows (omega (arith, within)) in
    let more : take (index + 1) rows ≡ take index rows ++ row ∷ [] =
    take_more rows index row within ∙ ap (λ (it : Row). take index rows ++ it ∷ []) (sym here) in
    after ∙ ap (λ those. after_lines those line) before ∙ ap (after_lines (drawn_from 0 (take index rows))) is
    ∙ sym (drawn_push 0 index (take index rows) row (omega (arith, long)))
    ∙ ap (drawn_from 0) (sym more)

pub few_so_far : (rows : List Row) (index : ℕ) (row : Row) (line : Drawn) (old : List Drawn) → index < length rows → length rows < 2 ^ 64
    → line ≡ own_line index row → old ≡ drawn_from 0 (take index rows) → All (HasFewTicks line.ticks) old
few_so_far rows index row line old within small is before =
    let long : length (take index rows) ≡ index = length-take-le index rows (omega (arith, within)) in
    let one : line.ticks ≤ 1 = subst (λ (it : Drawn). it.ticks ≤ 1) (sym is) (own_few index row) in
    subst (All (HasFewTicks line.ticks)) (sym before)
    (λ k d inside.
    let few : (get_or (drawn_from 0 (take index rows)) k d).ticks ≤ length (take index rows) = few_drawn 0 (take index rows) k d inside in
    omega (arith, few, long, one, within, small))

pub all_drawn : (rows : List Row) (index : ℕ) (lines : List Drawn) → index ≡ length rows → lines ≡ drawn_from 0 (take index rows)
    → lines ≡ drawn_from 0 rows
all_drawn rows index lines last before = before ∙ ap (λ n. drawn_from 0 (take n rows)) last ∙ ap (drawn_from 0) (take-length rows)
