-- Where the branches of a row stand.
use Rattle.std.proofs.Common.{◌≡◌, ℕ, suc, ◌<◌, ◌≤◌, Bool, true, false, ◌||◌, nat_lt, ◌==◌, if◌then◌else◌, List, [], ◌∷◌, ◌++◌, Option, Some, None, refl, ap, ◌∙◌, arith, ◌⊎◌, inl, inr}
use Rattle.std.specs.Prelude.{⊤}
use Rattle.std.proofs.lemmas.Bool.{ltb-true, lt-ltb}
use Rattle.tb_walk.specs.Lefts.{entered_at}
use Rattle.tb_walk.specs.Helpers.Reads.{branch, is_inside, any_inside}
use Rattle.tb_walk.specs.Helpers.Rests.{without}
use Rattle.tb_walk.specs.declared.branch.Branch.{Branch}

abbrev pub InRange : ℕ → ℕ → List Branch → Type 0
InRange low high [] = ⊤
InRange low high (b ∷ row) = ((low ≤ b.position) × (b.position < high)) × InRange low high row

pub wider : (low high lower higher : ℕ) (row : List Branch) → lower ≤ low → high ≤ higher → InRange low high row → InRange lower higher row
wider low high lower higher [] h k r = tt
wider low high lower higher (b ∷ row) h k r = (let g = r.0 in ((omega arith, omega arith), wider low high lower higher row h k r.1))

pub range-append : (low high : ℕ) (l r : List Branch) → InRange low high l → InRange low high r → InRange low high (l ++ r)
range-append low high [] r h k = k
range-append low high (b ∷ l) r h k = (h.0, range-append low high l r h.1 k)

-- nothing of the row stands between positions within these
abbrev pub Outside : ℕ → ℕ → List Branch → Type 0
Outside low high row = (at bound : ℕ) → low ≤ at → bound ≤ high → any_inside at bound row ≡ false

pub narrower : (low high lower higher : ℕ) (row : List Branch) → low ≤ lower → higher ≤ high → Outside low high row → Outside lower higher row
narrower low high lower higher row h k o at bound f g = o at bound (omega arith) (omega arith)

or-false : (a b : Bool) → a ≡ false → b ≡ false → (a || b) ≡ false
or-false a b e f = rw (e, f) refl

or-true : (a b : Bool) → b ≡ true → (a || b) ≡ true
or-true false b e = e
or-true true b e = refl

pub inside-append : (at bound : ℕ) (l r : List Branch) → any_inside at bound (l ++ r) ≡ (any_inside at bound l || any_inside at bound r)
inside-append at bound [] r = refl
inside-append at bound (b ∷ l) r = ap (λ (x : Bool). is_inside at bound b || x) (inside-append at bound l r) ∙ or-assoc (is_inside at bound b) (any_inside at bound l) (any_inside at bound r)
  where
    or-assoc : (a b c : Bool) → (a || (b || c)) ≡ ((a || b) || c)
    or-assoc true b c = refl
    or-assoc false b c = refl

pub outside-append : (low high : ℕ) (l r : List Branch) → Outside low high l → Outside low high r → Outside low high (l ++ r)
outside-append low high l r o p at bound f g = inside-append at bound l r ∙ or-false (any_inside at bound l) (any_inside at bound r) (o at bound f g) (p at bound f g)

pub outside-nil : (low high : ℕ) → Outside low high []
outside-nil low high at bound f g = refl

not-inside : (at bound : ℕ) (b : Branch) → ((at < b.position) → (b.position < bound) → ⊥) → is_inside at bound b ≡ false
not-inside at bound b never = by_cases (nat_lt at b.position) (nat_lt b.position bound) refl refl
  where
    by_cases : (x y : Bool) → nat_lt at b.position ≡ x → nat_lt b.position bound ≡ y → is_inside at bound b ≡ false
    by_cases false y e f = rw e refl
    by_cases true false e f = rw (e, f) refl
    by_cases true true e f = absurd (never (ltb-true at b.position e) (ltb-true b.position bound f))

-- a row within a range is outside each that is apart from it
pub apart : (low high lower higher : ℕ) (row : List Branch) → (high ≤ lower) ⊎ (higher ≤ low) → InRange low high row → Outside lower higher row
apart low high lower higher [] s r at bound f g = refl
apart low high lower higher (b ∷ row) s r at bound f g =
    let h = r.0 in
    or-false (is_inside at bound b) (any_inside at bound row) (not-inside at bound b (by_side s h)) (apart low high lower higher row s r.1 at bound f g)
  where
    by_side : (high ≤ lower) ⊎ (higher ≤ low) → (low ≤ b.position) × (b.position < high) → (at < b.position) → (b.position < bound) → ⊥
    by_side (inl k) h p q = omega arith
    by_side (inr k) h p q = omega arith

pub inside-first : (at bound : ℕ) (b : Branch) (row : List Branch) → at < b.position → b.position < bound → any_inside at bound (b ∷ row) ≡ true
inside-first at bound b row h k = rw (lt-ltb at b.position h, lt-ltb b.position bound k) refl

pub inside-left : (at bound : ℕ) (l r : List Branch) → any_inside at bound l ≡ true → any_inside at bound (l ++ r) ≡ true
inside-left at bound l r e = inside-append at bound l r ∙ rw e refl

-- when a branch entered a position, in a row of two

chosen_left : (x : Bool) (e : ℕ) (xs ys : Option ℕ) → xs ≡ ys → (if x then Some e else xs) ≡ (if x then Some e else ys)
chosen_left x e xs ys h = ap (λ (o : Option ℕ). if x then Some e else o) h

chosen_right : (x : Bool) (e : ℕ) (l r whole : Option ℕ) → (if x then Some e else l) ≡ None → (l ≡ None → whole ≡ r) → (if x then Some e else whole) ≡ r
chosen_right true e l r whole h f = (let t : ◌≡◌ {A = Option ℕ} (Some e) None = h in cc)
chosen_right false e l r whole h f = f h

pub entered-left : (l r : List Branch) (at : ℕ) → entered_at r at ≡ None → entered_at (l ++ r) at ≡ entered_at l at
entered-left [] r at e = e
entered-left (b ∷ l) r at e = chosen_left (b.position == at) b.entered (entered_at (l ++ r) at) (entered_at l at) (entered-left l r at e)

pub entered-right : (l r : List Branch) (at : ℕ) → entered_at l at ≡ None → entered_at (l ++ r) at ≡ entered_at r at
entered-right [] r at e = refl
entered-right (b ∷ l) r at e = chosen_right (b.position == at) b.entered (entered_at l at) (entered_at r at) (entered_at (l ++ r) at) e (entered-right l r at)

eq-false : (m n : ℕ) → ((m < n) ⊎ (n < m)) → (m == n) ≡ false
eq-false m n (inl h) = grind arith
eq-false m n (inr h) = grind arith

pub entered-none : (low high at : ℕ) (row : List Branch) → (at < low) ⊎ (high ≤ at) → InRange low high row → entered_at row at ≡ None
entered-none low high at [] s r = refl
entered-none low high at (b ∷ row) s r =
    rw (eq-false b.position at (by_side s r.0)) (entered-none low high at row s r.1)
  where
    by_side : (at < low) ⊎ (high ≤ at) → (low ≤ b.position) × (b.position < high) → (b.position < at) ⊎ (at < b.position)
    by_side (inl k) h = inr (omega arith)
    by_side (inr k) h = inl (omega arith)

pub entered-only : (at entered : ℕ) → entered_at (branch at entered ∷ []) at ≡ Some entered
entered-only at entered = let e : (at == at) ≡ true = grind arith in rw e refl

-- a row without what stands between two positions

if-append : (c : Bool) (b : Branch) (l r whole : List Branch) → whole ≡ l ++ r → (if c then whole else b ∷ whole) ≡ (if c then l else b ∷ l) ++ r
if-append true b l r whole e = e
if-append false b l r whole e = ap (λ (m : List Branch). b ∷ m) e

pub without-append : (at bound : ℕ) (l r : List Branch) → without at bound (l ++ r) ≡ without at bound l ++ without at bound r
without-append at bound [] r = refl
without-append at bound (b ∷ l) r = if-append (is_inside at bound b) b (without at bound l) (without at bound r) (without at bound (l ++ r)) (without-append at bound l r)

if-none : (c d : Bool) (b : Branch) (l row : List Branch) → (c || d) ≡ false → (d ≡ false → l ≡ row) → (if c then l else b ∷ l) ≡ b ∷ row
if-none true d b l row e f = (let t : true ≡ false = e in cc)
if-none false d b l row e f = ap (λ (m : List Branch). b ∷ m) (f e)

pub without-none : (at bound : ℕ) (row : List Branch) → any_inside at bound row ≡ false → without at bound row ≡ row
without-none at bound [] e = refl
without-none at bound (b ∷ row) e = if-none (is_inside at bound b) (any_inside at bound row) b (without at bound row) row e (without-none at bound row)

pub without-all : (at bound : ℕ) (row : List Branch) → InRange (suc at) bound row → without at bound row ≡ []
without-all at bound [] r = refl
without-all at bound (b ∷ row) r =
    let h = r.0 in
    let p : at < b.position = omega arith in
    let e : is_inside at bound b ≡ true = rw (lt-ltb at b.position p, lt-ltb b.position bound h.1) refl in
    rw e (without-all at bound row r.1)
