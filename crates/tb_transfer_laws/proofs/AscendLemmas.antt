-- The atoms of a body that is entered ascend by one. So two parts of the term have no atom in common.
use Rattle.std.proofs.Common.{◌≡◌, ℕ, zero, suc, ◌+◌, ◌<◌, ◌≤◌, ◌==◌, List, [], ◌∷◌, ◌++◌, length, Some, None, true, Contains, refl, ap, sym, subst, ◌∙◌, arith, append-nil}
use Rattle.std.proofs.lemmas.Bool.{and_parts, eqb-true, and_from}
use Rattle.tb_body.specs.declared.body.Body.{Body}
use Rattle.tb_body.specs.declared.tree.Tree.{Tree, Tree-F, map-Tree, fold-roll-Tree, ind-Tree, roll-Tree}
use Rattle.tb_body.specs.declared.tree.Tree.TheOpen as layer
use Rattle.tb_body.specs.Trees.{tree_atoms, atoms_step}
use Rattle.tb_body.specs.InRange.{ascends_by_one}
use Rattle.tb_process_steps.specs.Processes.{Process, fresh, fresh_step}
use Rattle.tb_process_steps.specs.Transfers.{atoms_of}
use Rattle.tb_process_steps.proofs.Ascending.{in_order}

-- the atoms of a term that is entered are those of its tree

abbrev Shown : Type 0
Shown = (t : Tree) × (atoms_of (fresh t) ≡ tree_atoms t)

abbrev LayerHas : Tree-F Tree → Type 0
LayerHas x = atoms_of (fresh_step (map-Tree Tree Process fresh x)) ≡ atoms_step (map-Tree Tree (List ℕ) tree_atoms x)

both-have : (x y : Shown) → atoms_of (fresh x.0) ++ atoms_of (fresh y.0) ≡ tree_atoms x.0 ++ tree_atoms y.0
both-have x y = ap (λ (xs : List ℕ). xs ++ atoms_of (fresh y.0)) x.1 ∙ ap (λ (ys : List ℕ). tree_atoms x.0 ++ ys) y.1

layer-has : (y : Tree-F Shown) → LayerHas (map-Tree Shown Tree (λ s. s.0) y)
layer-has (layer.At atom) = refl
layer-has (layer.Seq x y) = both-have x y
layer-has (layer.Alt x y) = both-have x y
layer-has (layer.Star x y) = both-have x y
layer-has (layer.Par x y) = both-have x y
layer-has (layer.Disrupt x y) = both-have x y
layer-has (layer.If test x None) = x.1 ∙ sym (append-nil (tree_atoms x.0))
layer-has (layer.If test x (Some y)) = both-have x y
layer-has (layer.Let settings x) = x.1

rolled : (x : Tree-F Tree) → LayerHas x → atoms_of (fresh (roll-Tree x)) ≡ tree_atoms (roll-Tree x)
rolled x h = ap atoms_of (fold-roll-Tree Process fresh_step x) ∙ h ∙ sym (fold-roll-Tree (List ℕ) atoms_step x)

fresh-atoms : (tree : Tree) → atoms_of (fresh tree) ≡ tree_atoms tree
fresh-atoms = ind-Tree (λ t. atoms_of (fresh t) ≡ tree_atoms t) step where
  step : (x : Tree-F Tree) (y : Tree-F Shown) → map-Tree Shown Tree (λ s. s.0) y ≡ x → atoms_of (fresh (roll-Tree x)) ≡ tree_atoms (roll-Tree x)
  step x y e = rolled x (subst LayerHas e (layer-has y))

pub body-ascends : (body : Body) → ascends_by_one 1 (atoms_of (fresh body.tree)) ≡ true
body-ascends body =
    let order = in_order body.tree body.atoms body.sorts body.formals body.in_range in
    subst (λ (atoms : List ℕ). ascends_by_one 1 atoms ≡ true) (sym (fresh-atoms body.tree)) order.ascend

-- lists that ascend by one

pub ascends-append : (from : ℕ) (xs ys : List ℕ) → ascends_by_one from (xs ++ ys) ≡ true → (ascends_by_one from xs ≡ true) × (ascends_by_one (from + length xs) ys ≡ true)
ascends-append from [] ys h =
    let same : from ≡ from + 0 = omega arith in
    (refl, subst (λ (n : ℕ). ascends_by_one n ys ≡ true) same h)
ascends-append from (x ∷ xs) ys h =
    let parts = and_parts (x == from) (ascends_by_one (from + 1) (xs ++ ys)) h in
    let rest = ascends-append (from + 1) xs ys parts.1 in
    let same : from + 1 + length xs ≡ from + suc (length xs) = omega arith in
    (and_from (x == from) (ascends_by_one (from + 1) xs) parts.0 rest.0, subst (λ (n : ℕ). ascends_by_one n ys ≡ true) same rest.1)

ascends-within : (from : ℕ) (xs : List ℕ) (atom : ℕ) → ascends_by_one from xs ≡ true → Contains xs atom → (from ≤ atom) × (atom < from + length xs)
ascends-within from [] atom h c = let l = c.1 in absurd (omega arith)
ascends-within from (x ∷ xs) atom h (zero, l, e) =
    let same : x ≡ from = eqb-true x from (and_parts (x == from) (ascends_by_one (from + 1) xs) h).0 in
    let is : x ≡ atom = e in
    (omega arith, omega arith)
ascends-within from (x ∷ xs) atom h (suc k, l, e) =
    let it = ascends-within (from + 1) xs atom (and_parts (x == from) (ascends_by_one (from + 1) xs) h).1 (k, omega arith, e) in
    let low = it.0 in
    let high = it.1 in
    (omega arith, omega arith)

pub ascends-apart : (from : ℕ) (xs ys : List ℕ) (atom : ℕ) → ascends_by_one from (xs ++ ys) ≡ true → Contains xs atom → Contains ys atom → ⊥
ascends-apart from xs ys atom h c d =
    let parts = ascends-append from xs ys h in
    let low = (ascends-within from xs atom parts.0 c).1 in
    let high = (ascends-within (from + length xs) ys atom parts.1 d).0 in
    omega arith
