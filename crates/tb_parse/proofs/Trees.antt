-- The built form of a process, from its parts; and the process that was found, if its built form was found.
use Rattle.std.proofs.Common.{◌≡◌, ℕ, ◌+◌, ◌<◌, ◌≤◌, Bool, ◌||◌, nat_lt, nat_le, max, List, Some, None, sym, ap, ◌∙◌, ⊎_elim, arith, if◌then◌else◌}
use Rattle.std.proofs.lemmas.Bool.{cases_lt, lt-ltb, le-ltb, le-leb, lt-leb, or_left, or_right}
use Rattle.tb_lex.specs.declared.kind.TokenKind.{TokenKind}
use Rattle.tb_syntax.specs.declared.ast.Ast.{Ast}
use Rattle.tb_syntax.specs.declared.proc.AtomDef.{AtomDef}
use Rattle.tb_syntax.specs.declared.proc.Call.{Call}
use Rattle.tb_syntax.specs.declared.proc.Var.{Var}
use Rattle.tb_syntax.specs.declared.proc.Proc.{Proc, out-Proc}
use Rattle.tb_syntax.specs.declared.proc.Proc.TheVariants as tree
use Rattle.tb_syntax.specs.declared.proc.Proc.TheVariants.{outs-Atom, outs-Call, outs-Seq, outs-Alt, outs-Star, outs-Par, outs-Disrupt, outs-If, outs-Let}
use Rattle.tb_syntax.specs.declared.proc.Proc.TheOpen.{Proc-F}
use Rattle.tb_syntax.specs.declared.proc.Proc.TheFolds.{fold_out-Proc, map-Proc}
use Rattle.tb_syntax.specs.Limits.{height, height_step}
use Rattle.tb_parse.specs.declared.built.Built.{Built}
use Rattle.tb_parse.specs.declared.built.Built.TheVariants.{Tree, TooHigh}
use Rattle.tb_parse.specs.declared.built.Chain.{Chain}
use Rattle.tb_parse.specs.declared.built.Chain.TheVariants as chain
use Rattle.tb_parse.specs.Helpers.Parsing.{Outcome, Found, Stops, Parser, after, mapped}
use Rattle.tb_parse.specs.Helpers.Heights.{built, both, both_sides, one, one_side, join_of}

abbrev heights : Proc-F Proc → ℕ
heights layer = height_step (map-Proc Proc ℕ height layer)

height_of : (p : Proc) (layer : Proc-F Proc) → out-Proc p ≡ layer → height p ≡ heights layer
height_of p layer e = fold_out-Proc ℕ height_step p ∙ ap heights e

abbrev shown : Proc → ℕ → Built
shown p h = if nat_lt 400 h then TooHigh else Tree p h

high : (p : Proc) (h : ℕ) → 400 < h → shown p h ≡ TooHigh
high p h over = ap (λ b. if b then TooHigh else Tree p h) (lt-ltb 400 h over)

low : (p : Proc) (h : ℕ) → h ≤ 400 → shown p h ≡ Tree p h
low p h within = ap (λ b. if b then TooHigh else Tree p h) (le-ltb 400 h within)

module _ (join : Proc → Proc → Proc) (x y : Proc) (h k : ℕ) where
  abbrev Same : Type 0
  Same = shown (join x y) (1 + max h k) ≡ both join (shown x h) (shown y k)

  abbrev fits : Bool → Built
  fits full = both_sides join (if full then None else Some (record { x = x; y = y; height = 1 + max h k }))

  full_left : 400 ≤ h → h ≤ 400 → k ≤ 400 → Same
  full_left most a b =
      high (join x y) (1 + max h k) (omega arith) ∙ sym (ap (λ full. fits full) (or_left (nat_le 400 h) (nat_le 400 k) (le-leb 400 h most)))
      ∙ sym (ap (λ b. both join b (shown y k)) (low x h a) ∙ ap (λ b. both join (Tree x h) b) (low y k b))

  full_right : 400 ≤ k → h ≤ 400 → k ≤ 400 → Same
  full_right most a b =
      high (join x y) (1 + max h k) (omega arith) ∙ sym (ap (λ full. fits full) (or_right (nat_le 400 h) (nat_le 400 k) (le-leb 400 k most)))
      ∙ sym (ap (λ b. both join b (shown y k)) (low x h a) ∙ ap (λ b. both join (Tree x h) b) (low y k b))

  not_full : h < 400 → k < 400 → Same
  not_full a b =
      let first : h ≤ 400 = omega arith in
      let second : k ≤ 400 = omega arith in
      low (join x y) (1 + max h k) (omega arith) ∙ sym (ap (λ left. fits (left || nat_le 400 k)) (lt-leb 400 h a) ∙ ap (λ right. fits right) (lt-leb 400 k b))
      ∙ sym (ap (λ b. both join b (shown y k)) (low x h first) ∙ ap (λ b. both join (Tree x h) b) (low y k second))

  within_both : h ≤ 400 → k ≤ 400 → Same
  within_both a b = ⊎_elim (λ first. ⊎_elim (λ second. not_full first second) (λ most. full_right most a b) (cases_lt k 400)) (λ most. full_left most a b) (cases_lt h 400)

  over_left : 400 < h → Same
  over_left over = high (join x y) (1 + max h k) (omega arith) ∙ sym (ap (λ b. both join b (shown y k)) (high x h over))

  over_right : h ≤ 400 → 400 < k → Same
  over_right within over =
      high (join x y) (1 + max h k) (omega arith) ∙ sym (ap (λ b. both join b (shown y k)) (low x h within) ∙ ap (λ b. both join (Tree x h) b) (high y k over))

  shown_both : Same
  shown_both = ⊎_elim (λ over. over_left over) (λ a. ⊎_elim (λ over. over_right a over) (λ b. within_both a b) (cases_lt 400 k)) (cases_lt 400 h)

module _ (make : Proc → Proc) (x : Proc) (h : ℕ) where
  abbrev SameOne : Type 0
  SameOne = shown (make x) (1 + h) ≡ one make (shown x h)

  abbrev fits_one : Bool → Built
  fits_one below = one_side make (if below then Some (x, 1 + h) else None)

  one_over : 400 < h → SameOne
  one_over over = high (make x) (1 + h) (omega arith) ∙ sym (ap (λ b. one make b) (high x h over))

  one_full : 400 ≤ h → h ≤ 400 → SameOne
  one_full most within = high (make x) (1 + h) (omega arith) ∙ sym (ap (λ b. one make b) (low x h within) ∙ ap fits_one (le-ltb h 400 most))

  one_below : h < 400 → SameOne
  one_below below =
      let within : h ≤ 400 = omega arith in
      low (make x) (1 + h) (omega arith) ∙ sym (ap (λ b. one make b) (low x h within) ∙ ap fits_one (lt-ltb h 400 below))

  shown_one : SameOne
  shown_one = ⊎_elim (λ over. one_over over) (λ within. ⊎_elim (λ below. one_below below) (λ most. one_full most within) (cases_lt h 400)) (cases_lt 400 h)

built_both : (join : Proc → Proc → Proc) (x y : Proc) → height (join x y) ≡ 1 + max (height x) (height y) → built (join x y) ≡ both join (built x) (built y)
unfolding built
built_both join x y e = ap (shown (join x y)) e ∙ shown_both join x y (height x) (height y)

built_one : (make : Proc → Proc) (x : Proc) → height (make x) ≡ 1 + height x → built (make x) ≡ one make (built x)
unfolding built
built_one make x e = ap (shown (make x)) e ∙ shown_one make x (height x)

pub built_link : (link : Chain) (x y : Proc) → built (join_of link x y) ≡ both (join_of link) (built x) (built y)
built_link chain.Disrupt x y = built_both tree.Disrupt x y (height_of _ _ (outs-Disrupt x y))
built_link chain.Par x y = built_both tree.Par x y (height_of _ _ (outs-Par x y))
built_link chain.Alt x y = built_both tree.Alt x y (height_of _ _ (outs-Alt x y))
built_link chain.Seq x y = built_both tree.Seq x y (height_of _ _ (outs-Seq x y))

pub built_turn : (x y : Proc) → built (tree.Star x y) ≡ both tree.Star (built x) (built y)
built_turn x y = built_both tree.Star x y (height_of _ _ (outs-Star x y))

pub built_either : (test : Ast) (x y : Proc) → built (tree.If test x (Some y)) ≡ both (λ x y. tree.If test x (Some y)) (built x) (built y)
built_either test x y = built_both (λ x y. tree.If test x (Some y)) x y (height_of _ _ (outs-If test x (Some y)))

pub built_only : (test : Ast) (x : Proc) → built (tree.If test x None) ≡ one (λ x. tree.If test x None) (built x)
built_only test x =
    let e : height (tree.If test x None) ≡ 1 + max (height x) 0 = height_of _ _ (outs-If test x None) in
    built_one (λ x. tree.If test x None) x (omega (arith, e))

pub built_within : (vars : List Var) (x : Proc) → built (tree.Let vars x) ≡ one (tree.Let vars) (built x)
built_within vars x = built_one (tree.Let vars) x (height_of _ _ (outs-Let vars x))

pub built_atom : (atom : AtomDef) → built (tree.Atom atom) ≡ Tree (tree.Atom atom) 1
unfolding built
built_atom atom = ap (shown (tree.Atom atom)) (height_of _ _ (outs-Atom atom))

pub built_call : (call : Call) → built (tree.Call call) ≡ Tree (tree.Call call) 1
unfolding built
built_call call = ap (shown (tree.Call call)) (height_of _ _ (outs-Call call))

-- what was found, and how it is seen
pub seen : {A B : Type 0} (f : A → B) (o : Outcome A) {b : B} {at : ℕ} {ks : List TokenKind} → mapped f o ≡ Found b at ks → (x : A) × (b ≡ f x) × (o ≡ Found x at ks)
seen f (Found x a k) e = (x, cc, cc)
seen f (Stops position) e = absurd cc

pub unseen : {A B : Type 0} (f : A → B) (o : Outcome A) {position : ℕ} → mapped f o ≡ Stops position → o ≡ Stops position
unseen f (Found x a k) e = absurd cc
unseen f (Stops p) e = cc

-- what follows a process of which only what is built is known
pub after_built : (o : Outcome Proc) (next : Proc → Parser Proc) {b : Built} {at : ℕ} {ks : List TokenKind} {all : Outcome Built} → mapped built o ≡ Found b at ks
    → ((p : Proc) → b ≡ built p → mapped built (next p at ks) ≡ all) → mapped built (after o next) ≡ all
after_built o next {b} {at} {ks} e rest =
    let found = seen built o e in
    ap (λ (o : Outcome Proc). mapped built (after o next)) found.2 ∙ rest found.0 found.1

pub after_stops : (o : Outcome Proc) (next : Proc → Parser Proc) {position : ℕ} → mapped built o ≡ Stops position → mapped built (after o next) ≡ Stops position
after_stops o next e = ap (λ (o : Outcome Proc). mapped built (after o next)) (unseen built o e)
