-- The process that an entered part of a plan represents, by its own parts.
use Rattle.std.proofs.Common.{◌≡◌, ℕ, zero, suc, ◌+◌, ◌-◌, Some, None, List, ◌++◌, map, slice_get, refl, ap, sym, ◌∙◌, arith}
use Rattle.tb_terms.specs.declared.expr.Expr.{Expr}
use Rattle.tb_func.specs.declared.slot.Slot.{Slot}
use Rattle.tb_body.specs.declared.tree.Setting.{Setting}
use Rattle.tb_body.specs.declared.tree.Tree.{Tree, Tree-F, map-Tree, fold_out-Tree, out-Tree}
use Rattle.tb_body.specs.declared.tree.Tree.TheOpen as layer
use Rattle.tb_body.specs.declared.tree.Tree.TheVariants as tree
use Rattle.tb_body.specs.declared.tree.Tree.TheVariants.{outs-At, outs-Seq, outs-Alt, outs-Star, outs-Par, outs-Disrupt, outs-If, outs-Let}
use Rattle.tb_process_steps.specs.Processes as process
use Rattle.tb_process_steps.specs.Processes.{Process, fresh, fresh_step, aged}
use Rattle.tb_process_steps.specs.Offers.{offers, before}
use Rattle.tb_process_steps.specs.Helpers.Plans.{built, trees, tree_at, process_at, AreBehind}
use Rattle.tb_process_steps.specs.Helpers.Runnings.{waited, entered_term}
use Rattle.tb_process_steps.specs.declared.node.Node.{Node}
use Rattle.tb_process_steps.specs.declared.node.Node.TheVariants.{At, Seq, Alt, Star, Par, Disrupt, If, Let}
use Rattle.tb_process_steps.specs.declared.running.Entry.{Entry}
use Rattle.tb_process_steps.proofs.PlanLemmas.{tree_at-node}

-- a tree that was just entered

opened : (t : Tree) (w : Tree-F Tree) → out-Tree t ≡ w → fresh t ≡ fresh_step (map-Tree Tree Process fresh w)
opened t w e = fold_out-Tree Process fresh_step t ∙ ap (λ (v : Tree-F Tree). fresh_step (map-Tree Tree Process fresh v)) e

pub fresh-At : (atom : ℕ) → fresh (tree.At atom) ≡ process.At atom 0
fresh-At atom = opened (tree.At atom) (layer.At atom) (outs-At atom)

pub fresh-Seq : (x y : Tree) → fresh (tree.Seq x y) ≡ process.Seq (fresh x) (fresh y)
fresh-Seq x y = opened (tree.Seq x y) (layer.Seq x y) (outs-Seq x y)

pub fresh-Alt : (x y : Tree) → fresh (tree.Alt x y) ≡ process.Alt (fresh x) (fresh y)
fresh-Alt x y = opened (tree.Alt x y) (layer.Alt x y) (outs-Alt x y)

pub fresh-Star : (x y : Tree) → fresh (tree.Star x y) ≡ process.Star (fresh x) (fresh y)
fresh-Star x y = opened (tree.Star x y) (layer.Star x y) (outs-Star x y)

pub fresh-Par : (x y : Tree) → fresh (tree.Par x y) ≡ process.Par (fresh x) (fresh y)
fresh-Par x y = opened (tree.Par x y) (layer.Par x y) (outs-Par x y)

pub fresh-Disrupt : (x y : Tree) → fresh (tree.Disrupt x y) ≡ process.Disrupt (fresh x) (fresh y)
fresh-Disrupt x y = opened (tree.Disrupt x y) (layer.Disrupt x y) (outs-Disrupt x y)

pub fresh-When : (test : Expr) (x : Tree) → fresh (tree.If test x None) ≡ process.When test (fresh x)
fresh-When test x = opened (tree.If test x None) (layer.If test x None) (outs-If test x None)

pub fresh-If : (test : Expr) (x y : Tree) → fresh (tree.If test x (Some y)) ≡ process.If test (fresh x) (fresh y)
fresh-If test x y = opened (tree.If test x (Some y)) (layer.If test x (Some y)) (outs-If test x (Some y))

pub fresh-Let : (settings : List Setting) (x : Tree) → fresh (tree.Let settings x) ≡ process.Let settings (fresh x)
fresh-Let settings x = opened (tree.Let settings x) (layer.Let settings x) (outs-Let settings x)

-- a term after some ticks

pub waited-At : (n : ℕ) (atom : ℕ) → waited n (process.At atom 0) ≡ process.At atom n
waited-At zero atom = refl
waited-At (suc n) atom =
    let e : n + 1 ≡ suc n = omega arith in
    ap aged (waited-At n atom) ∙ ap (process.At atom) e

pub waited-Seq : (n : ℕ) (x y : Process) → waited n (process.Seq x y) ≡ process.Seq (waited n x) y
waited-Seq zero x y = refl
waited-Seq (suc n) x y = ap aged (waited-Seq n x y)

pub waited-Alt : (n : ℕ) (x y : Process) → waited n (process.Alt x y) ≡ process.Alt (waited n x) (waited n y)
waited-Alt zero x y = refl
waited-Alt (suc n) x y = ap aged (waited-Alt n x y)

pub waited-Par : (n : ℕ) (x y : Process) → waited n (process.Par x y) ≡ process.Par (waited n x) (waited n y)
waited-Par zero x y = refl
waited-Par (suc n) x y = ap aged (waited-Par n x y)

pub waited-Disrupt : (n : ℕ) (x y : Process) → waited n (process.Disrupt x y) ≡ process.Disrupt (waited n x) (waited n y)
waited-Disrupt zero x y = refl
waited-Disrupt (suc n) x y = ap aged (waited-Disrupt n x y)

pub waited-When : (n : ℕ) (test : Expr) (x : Process) → waited n (process.When test x) ≡ process.When test (waited n x)
waited-When zero test x = refl
waited-When (suc n) test x = ap aged (waited-When n test x)

pub waited-If : (n : ℕ) (test : Expr) (x y : Process) → waited n (process.If test x y) ≡ process.If test (waited n x) (waited n y)
waited-If zero test x y = refl
waited-If (suc n) test x y = ap aged (waited-If n test x y)

pub waited-Let : (n : ℕ) (settings : List Setting) (x : Process) → waited n (process.Let settings x) ≡ process.Let settings (waited n x)
waited-Let zero settings x = refl
waited-Let (suc n) settings x = ap aged (waited-Let n settings x)

-- a star that has waited represents a choice between its two sides
waited-Star : (n : ℕ) (x y : Process) → waited (suc n) (process.Star x y) ≡ process.Alt (process.Seq (waited (suc n) x) (process.Star x y)) (waited (suc n) y)
waited-Star zero x y = refl
waited-Star (suc n) x y = ap aged (waited-Star n x y)

pub star-offers : (n : ℕ) (x y : Process) (store : List Slot) → offers (waited n (process.Star x y)) store ≡ map (before (process.Star x y)) (offers (waited n x) store) ++ offers (waited n y) store
star-offers zero x y store = refl
star-offers (suc n) x y store = ap (λ (p : Process). offers p store) (waited-Star n x y)

-- the term of an entered node (the offers of a star), by the terms of its parts

abbrev pub part : Entry → ℕ → Entry
part entry node = record { node = node; entered = entry.entered }

node-built : (nodes : List Node) (at : ℕ) (node : Node) → AreBehind nodes → slice_get nodes at ≡ Some node → process_at nodes at ≡ fresh (built (trees nodes) node)
unfolding process_at
node-built nodes at node all e = ap fresh (tree_at-node nodes at node all e)

module _ (nodes : List Node) (ticks : ℕ) (entry : Entry) (all : AreBehind nodes) where
  abbrev age : ℕ
  age = ticks - entry.entered

  abbrev here : Node → Type 0
  here node = slice_get nodes entry.node ≡ Some node

  pub entered-At : (atom : ℕ) → here (At atom) → entered_term nodes ticks entry ≡ process.At atom (ticks - entry.entered)
  unfolding entered_term
  entered-At atom e = ap (waited age) (node-built nodes entry.node (At atom) all e ∙ fresh-At atom) ∙ waited-At age atom

  pub entered-Seq : (x y : ℕ) → here (Seq x y) → entered_term nodes ticks entry ≡ process.Seq (entered_term nodes ticks (part entry x)) (process_at nodes y)
  unfolding entered_term process_at
  entered-Seq x y e =
      ap (waited age) (node-built nodes entry.node (Seq x y) all e ∙ fresh-Seq (tree_at nodes x) (tree_at nodes y))
      ∙ waited-Seq age (fresh (tree_at nodes x)) (fresh (tree_at nodes y))

  pub entered-Alt : (x y : ℕ) → here (Alt x y) → entered_term nodes ticks entry ≡ process.Alt (entered_term nodes ticks (part entry x)) (entered_term nodes ticks (part entry y))
  unfolding entered_term process_at
  entered-Alt x y e =
      ap (waited age) (node-built nodes entry.node (Alt x y) all e ∙ fresh-Alt (tree_at nodes x) (tree_at nodes y))
      ∙ waited-Alt age (fresh (tree_at nodes x)) (fresh (tree_at nodes y))

  pub entered-Par : (x y : ℕ) → here (Par x y) → entered_term nodes ticks entry ≡ process.Par (entered_term nodes ticks (part entry x)) (entered_term nodes ticks (part entry y))
  unfolding entered_term process_at
  entered-Par x y e =
      ap (waited age) (node-built nodes entry.node (Par x y) all e ∙ fresh-Par (tree_at nodes x) (tree_at nodes y))
      ∙ waited-Par age (fresh (tree_at nodes x)) (fresh (tree_at nodes y))

  pub entered-Disrupt : (x y : ℕ) → here (Disrupt x y) → entered_term nodes ticks entry ≡ process.Disrupt (entered_term nodes ticks (part entry x)) (entered_term nodes ticks (part entry y))
  unfolding entered_term process_at
  entered-Disrupt x y e =
      ap (waited age) (node-built nodes entry.node (Disrupt x y) all e ∙ fresh-Disrupt (tree_at nodes x) (tree_at nodes y))
      ∙ waited-Disrupt age (fresh (tree_at nodes x)) (fresh (tree_at nodes y))

  pub entered-When : (test : Expr) (x : ℕ) → here (If test x None) → entered_term nodes ticks entry ≡ process.When test (entered_term nodes ticks (part entry x))
  unfolding entered_term process_at
  entered-When test x e =
      ap (waited age) (node-built nodes entry.node (If test x None) all e ∙ fresh-When test (tree_at nodes x))
      ∙ waited-When age test (fresh (tree_at nodes x))

  pub entered-If : (test : Expr) (x y : ℕ) → here (If test x (Some y)) → entered_term nodes ticks entry ≡ process.If test (entered_term nodes ticks (part entry x)) (entered_term nodes ticks (part entry y))
  unfolding entered_term process_at
  entered-If test x y e =
      ap (waited age) (node-built nodes entry.node (If test x (Some y)) all e ∙ fresh-If test (tree_at nodes x) (tree_at nodes y))
      ∙ waited-If age test (fresh (tree_at nodes x)) (fresh (tree_at nodes y))

  pub entered-Let : (settings : List Setting) (x : ℕ) → here (Let settings x) → entered_term nodes ticks entry ≡ process.Let settings (entered_term nodes ticks (part entry x))
  unfolding entered_term process_at
  entered-Let settings x e =
      ap (waited age) (node-built nodes entry.node (Let settings x) all e ∙ fresh-Let settings (tree_at nodes x))
      ∙ waited-Let age settings (fresh (tree_at nodes x))

  -- the next turn of a star is entered again
  pub entered-Star : (x y : ℕ) (store : List Slot) → here (Star x y) → offers (entered_term nodes ticks entry) store ≡ map (before (process_at nodes entry.node)) (offers (entered_term nodes ticks (part entry x)) store) ++ offers (entered_term nodes ticks (part entry y)) store
  unfolding entered_term process_at
  entered-Star x y store e =
      let first = fresh (tree_at nodes x) in
      let second = fresh (tree_at nodes y) in
      let star : process_at nodes entry.node ≡ process.Star first second = node-built nodes entry.node (Star x y) all e ∙ fresh-Star (tree_at nodes x) (tree_at nodes y) in
      ap (λ (p : Process). offers (waited age p) store) star
      ∙ star-offers age first second store
      ∙ ap (λ (p : Process). map (before p) (offers (waited age first) store) ++ offers (waited age second) store) (sym star)

-- a part that is entered now has the term of its tree
pub entered_now : (nodes : List Node) (ticks node : ℕ) → entered_term nodes ticks (record { node = node; entered = ticks }) ≡ process_at nodes node
unfolding entered_term
entered_now nodes ticks node =
    let z : ticks - ticks ≡ 0 = omega arith in
    ap (λ (n : ℕ). waited n (process_at nodes node)) z

-- a starting process represents its body
pub entered_root : (nodes : List Node) (root : ℕ) (whole : Tree) → tree_at nodes root ≡ whole → entered_term nodes 0 (record { node = root; entered = 0 }) ≡ fresh whole
unfolding entered_term process_at
entered_root nodes root whole e = ap fresh e
