-- What is left of a term is what its row is read as.
use Rattle.std.proofs.Common.{◌≡◌, ℕ, suc, ◌+◌, ◌-◌, ◌<◌, ◌≤◌, List, [], ◌∷◌, ◌++◌, Option, Some, None, refl, ◌∙◌, arith, inl, inr}
use Rattle.tb_process_steps.specs.Processes.{Process, At, Seq, Alt, Star, Par, Disrupt, If, When, Let}
use Rattle.tb_process_steps.specs.Helpers.Runnings.{waited}
use Rattle.tb_code.specs.Positions.{size}
use Rattle.tb_code.proofs.Parts.{some_size}
use Rattle.tb_walk.specs.Lefts.{entered_at, beside, left}
use Rattle.tb_walk.specs.Helpers.Reads.{branch, Passes, behind, one, other, leaves, transfers, then_side, else_side, when, set, Follows, sequence, turn, Reads, ended, waits, passes, follows, both, stands_until as until}
use Rattle.tb_walk.specs.declared.branch.Branch.{Branch}
use Rattle.tb_walk.proofs.Ranges.{wider, range-append, entered-left, entered-right, entered-none, entered-only}
use Rattle.tb_walk.proofs.ReadLemmas.{passes-range, follows-range, in_range}

module _ (ticks : ℕ) (row : List Branch) where
  left-here : (at : ℕ) (w : Process) (entered : ℕ) → entered_at row at ≡ Some entered → left ticks row at w ≡ Some (waited (ticks - entered) w)
  left-here at (At atom age) entered h = rw h refl
  left-here at (Seq x y) entered h = rw h refl
  left-here at (Alt x y) entered h = rw h refl
  left-here at (Star x y) entered h = rw h refl
  left-here at (Par x y) entered h = rw h refl
  left-here at (Disrupt x y) entered h = rw h refl
  left-here at (If test x y) entered h = rw h refl
  left-here at (When test x) entered h = rw h refl
  left-here at (Let settings x) entered h = rw h refl

  abbrev Quiet : ℕ → ℕ → Type 0
  Quiet low high = (i : ℕ) → low ≤ i → i < high → entered_at row i ≡ None

  less : (low high lower higher : ℕ) → low ≤ lower → higher ≤ high → Quiet low high → Quiet lower higher
  less low high lower higher h k q i f g = q i (omega arith) (omega arith)

  quiet : (at : ℕ) (w : Process) → Quiet at (at + size w) → left ticks row at w ≡ None
  quiet at (At atom age) q = rw (q at (omega arith) (omega arith)) refl
  quiet at (Seq x y) q = rw (q at (omega arith) (omega arith), quiet (suc at) x (less at (at + size (Seq x y)) (suc at) (suc at + size x) (omega arith) (omega arith) q), quiet (suc at + size x) y (less at (at + size (Seq x y)) (suc at + size x) (suc at + size x + size y) (omega arith) (omega arith) q)) refl
  quiet at (Alt x y) q = rw (q at (omega arith) (omega arith), quiet (suc at) x (less at (at + size (Alt x y)) (suc at) (suc at + size x) (omega arith) (omega arith) q), quiet (suc at + size x) y (less at (at + size (Alt x y)) (suc at + size x) (suc at + size x + size y) (omega arith) (omega arith) q)) refl
  quiet at (Star x y) q = rw (q at (omega arith) (omega arith), quiet (suc at) x (less at (at + size (Star x y)) (suc at) (suc at + size x) (omega arith) (omega arith) q), quiet (suc at + size x) y (less at (at + size (Star x y)) (suc at + size x) (suc at + size x + size y) (omega arith) (omega arith) q)) refl
  quiet at (Par x y) q = rw (q at (omega arith) (omega arith), quiet (suc at) x (less at (at + size (Par x y)) (suc at) (suc at + size x) (omega arith) (omega arith) q), quiet (suc at + size x) y (less at (at + size (Par x y)) (suc at + size x) (suc at + size x + size y) (omega arith) (omega arith) q)) refl
  quiet at (Disrupt x y) q = rw (q at (omega arith) (omega arith), quiet (suc at) x (less at (at + size (Disrupt x y)) (suc at) (suc at + size x) (omega arith) (omega arith) q), q (suc at + size x) (omega arith) (omega arith), quiet (suc (suc at + size x)) y (less at (at + size (Disrupt x y)) (suc (suc at + size x)) (suc (suc at + size x) + size y) (omega arith) (omega arith) q)) refl
  quiet at (If test x y) q = rw (q at (omega arith) (omega arith), quiet (suc at) x (less at (at + size (If test x y)) (suc at) (suc at + size x) (omega arith) (omega arith) q), quiet (suc at + size x) y (less at (at + size (If test x y)) (suc at + size x) (suc at + size x + size y) (omega arith) (omega arith) q)) refl
  quiet at (When test x) q = rw (q at (omega arith) (omega arith), quiet (suc at) x (less at (at + size (When test x)) (suc at) (suc at + size x) (omega arith) (omega arith) q)) refl
  quiet at (Let settings x) q = rw (q at (omega arith) (omega arith), quiet (suc at) x (less at (at + size (Let settings x)) (suc at) (suc at + size x) (omega arith) (omega arith) q)) refl

  left-passes : {at : ℕ} {w : Process} {at-x : ℕ} {x : Process} → Passes at w at-x x → (r : Process) → left ticks row at-x x ≡ Some r → Quiet at at-x → left ticks row at w ≡ Some r
  left-passes (behind {at = at} {x = x} {y = y}) r h q = rw (q at (omega arith) (omega arith), quiet (suc at) x (less at (suc at + size x) (suc at) (suc at + size x) (omega arith) (omega arith) q), h) refl
  left-passes (one {at = at}) r h q = rw (q at (omega arith) (omega arith), h) refl
  left-passes (other {at = at} {x = x} {y = y}) r h q = rw (q at (omega arith) (omega arith), quiet (suc at) x (less at (suc at + size x) (suc at) (suc at + size x) (omega arith) (omega arith) q), h) refl
  left-passes (leaves {at = at} {x = x} {y = y}) r h q = rw (q at (omega arith) (omega arith), quiet (suc at) x (less at (suc at + size x) (suc at) (suc at + size x) (omega arith) (omega arith) q), h) refl
  left-passes (transfers {at = at} {x = x} {y = y}) r h q = rw (q at (omega arith) (omega arith), quiet (suc at) x (less at (suc (suc at + size x)) (suc at) (suc at + size x) (omega arith) (omega arith) q), q (suc at + size x) (omega arith) (omega arith), h) refl
  left-passes (then_side {at = at}) r h q = rw (q at (omega arith) (omega arith), h) refl
  left-passes (else_side {at = at} {test = test} {x = x} {y = y}) r h q = rw (q at (omega arith) (omega arith), quiet (suc at) x (less at (suc at + size x) (suc at) (suc at + size x) (omega arith) (omega arith) q), h) refl
  left-passes (when {at = at}) r h q = rw (q at (omega arith) (omega arith), h) refl
  left-passes (set {at = at}) r h q = rw (q at (omega arith) (omega arith), h) refl

  left-follows : {at : ℕ} {w x : Process} {at-z : ℕ} {z : Process} → Follows at w x at-z z → (r : Process) → left ticks row (suc at) x ≡ Some r → entered_at row at ≡ None → left ticks row at w ≡ Some (Seq r z)
  left-follows sequence r h e = rw (e, h) refl
  left-follows turn r h e = rw (e, h) refl

  left-both : (at : ℕ) (x y : Process) (s t : Option Process) → left ticks row (suc at) x ≡ s → left ticks row (suc at + size x) y ≡ t → entered_at row at ≡ None → left ticks row at (Par x y) ≡ beside s t
  left-both at x y s t h k e = rw (e, h, k) refl

  left-until : (at : ℕ) (x y r : Process) (entered : ℕ) → left ticks row (suc at) x ≡ Some r → entered_at row (suc at + size x) ≡ Some entered → entered_at row at ≡ None → left ticks row at (Disrupt x y) ≡ Some (Disrupt r (waited (ticks - entered) y))
  left-until at x y r entered h k e = rw (e, h, k) refl

-- the row agrees with another at all positions of the term
abbrev Agrees : List Branch → List Branch → ℕ → ℕ → Type 0
Agrees full row low high = (i : ℕ) → low ≤ i → i < high → entered_at full i ≡ entered_at row i

pub left-reads : (ticks : ℕ) {at : ℕ} {w : Process} {row : List Branch} {t : Option Process} → Reads ticks at w row t → (full : List Branch) → Agrees full row at (at + size w) → left ticks full at w ≡ t
left-reads ticks (ended {at = at} {term = w}) full a = quiet ticks full at w a
left-reads ticks (waits {at = at} {term = w} entered h) full a =
    let k = some_size w in
    left-here ticks full at w entered (a at (omega arith) (omega arith) ∙ entered-only at entered)
left-reads ticks (passes {at = at} {term = w} at-x x {row = row} {r = r} p k) full a =
    let range = passes-range p in
    let lower = range.0 in
    let upper = range.1 in
    let rows = in_range ticks k in
    left-passes ticks full p r
    (left-reads ticks k full (λ i f g. a i (omega arith) (omega arith)))
    (λ i f g. a i f (let n = some_size x in omega arith) ∙ entered-none at-x (at-x + size x) i row (inl g) rows)
left-reads ticks (follows {at = at} {term = w} x at-z z {row = row} {r = r} p k) full a =
    let upper = follows-range p in
    let rows = in_range ticks k in
    let n = some_size w in
    left-follows ticks full p r
    (left-reads ticks k full (λ i f g. a i (omega arith) (omega arith)))
    (a at (omega arith) (omega arith) ∙ entered-none (suc at) (suc at + size x) at row (inl (omega arith)) rows)
left-reads ticks (both {at = at} {x = x} {y = y} {one = one-row} {other = other-row} {s = s} {t = t} k l) full a =
    let rows = in_range ticks k in
    let others = in_range ticks l in
    let all = range-append (suc at) (suc at + size x + size y) one-row other-row
    (wider (suc at) (suc at + size x) (suc at) (suc at + size x + size y) one-row (omega arith) (omega arith) rows)
    (wider (suc at + size x) (suc at + size x + size y) (suc at) (suc at + size x + size y) other-row (omega arith) (omega arith) others) in
    left-both ticks full at x y s t
    (left-reads ticks k full (λ i f g. a i (omega arith) (omega arith) ∙ entered-left one-row other-row i (entered-none (suc at + size x) (suc at + size x + size y) i other-row (inl g) others)))
    (left-reads ticks l full (λ i f g. a i (omega arith) (omega arith) ∙ entered-right one-row other-row i (entered-none (suc at) (suc at + size x) i one-row (inr f) rows)))
    (a at (omega arith) (omega arith) ∙ entered-none (suc at) (suc at + size x + size y) at (one-row ++ other-row) (inl (omega arith)) all)
left-reads ticks (until {at = at} {x = x} {y = y} {row = row} {r = r} entered h k) full a =
    let rows = in_range ticks k in
    let n = some_size y in
    let last = branch (suc at + size x) entered in
    let all = in_range ticks (until {y = y} entered h k) in
    left-until ticks full at x y r entered
    (left-reads ticks k full (λ i f g. a i (omega arith) (omega arith) ∙ entered-left row (last ∷ []) i (entered-none (suc at + size x) (suc (suc at + size x)) i (last ∷ []) (inl g) ((omega arith, omega arith), tt))))
    (a (suc at + size x) (omega arith) (omega arith) ∙ entered-right row (last ∷ []) (suc at + size x) (entered-none (suc at) (suc at + size x) (suc at + size x) row (inr (omega arith)) rows) ∙ entered-only (suc at + size x) entered)
    (a at (omega arith) (omega arith) ∙ entered-left row (last ∷ []) at (entered-none (suc at + size x) (suc (suc at + size x)) at (last ∷ []) (inl (omega arith)) ((omega arith, omega arith), tt)) ∙ entered-none (suc at) (suc at + size x) at row (inl (omega arith)) rows)

pub left-read : (ticks : ℕ) {at : ℕ} {w : Process} {row : List Branch} {t : Option Process} → Reads ticks at w row t → left ticks row at w ≡ t
left-read ticks {row = row} r = left-reads ticks r row (λ i f g. refl)
