-- The result of a fold over trees for each kind of tree.
use Rattle.std.proofs.Common.{◌≡◌, ℕ, List, Some, None, ap, ◌∙◌}
use Rattle.tb_terms.specs.declared.expr.Expr.{Expr}
use Rattle.tb_body.specs.declared.tree.Setting.{Setting}
use Rattle.tb_body.specs.declared.tree.Tree.{Tree, Tree-F, map-Tree, fold-Tree, fold_out-Tree, out-Tree}
use Rattle.tb_body.specs.declared.tree.Tree.TheVariants as tree
use Rattle.tb_body.specs.declared.tree.Tree.TheVariants.{outs-At, outs-Seq, outs-Alt, outs-Star, outs-Par, outs-Disrupt, outs-If, outs-Let}
use Rattle.tb_body.specs.declared.tree.Tree.TheOpen as layer

module _ (A : Type 0) (step : Tree-F A → A) where
  abbrev of_layer : Tree-F Tree → A
  of_layer x = step (map-Tree Tree A (fold-Tree A step) x)

  opened : (t : Tree) (x : Tree-F Tree) → out-Tree t ≡ x → fold-Tree A step t ≡ of_layer x
  opened t x e = fold_out-Tree A step t ∙ ap of_layer e

  pub fold-At : (atom : ℕ) → fold-Tree A step (tree.At atom) ≡ step (layer.At atom)
  fold-At atom = opened _ _ (outs-At atom)

  pub fold-Seq : (x y : Tree) → fold-Tree A step (tree.Seq x y) ≡ step (layer.Seq (fold-Tree A step x) (fold-Tree A step y))
  fold-Seq x y = opened _ _ (outs-Seq x y)

  pub fold-Alt : (x y : Tree) → fold-Tree A step (tree.Alt x y) ≡ step (layer.Alt (fold-Tree A step x) (fold-Tree A step y))
  fold-Alt x y = opened _ _ (outs-Alt x y)

  pub fold-Star : (x y : Tree) → fold-Tree A step (tree.Star x y) ≡ step (layer.Star (fold-Tree A step x) (fold-Tree A step y))
  fold-Star x y = opened _ _ (outs-Star x y)

  pub fold-Par : (x y : Tree) → fold-Tree A step (tree.Par x y) ≡ step (layer.Par (fold-Tree A step x) (fold-Tree A step y))
  fold-Par x y = opened _ _ (outs-Par x y)

  pub fold-Disrupt : (x y : Tree) → fold-Tree A step (tree.Disrupt x y) ≡ step (layer.Disrupt (fold-Tree A step x) (fold-Tree A step y))
  fold-Disrupt x y = opened _ _ (outs-Disrupt x y)

  pub fold-If : (test : Expr) (x : Tree) → fold-Tree A step (tree.If test x None) ≡ step (layer.If test (fold-Tree A step x) None)
  fold-If test x = opened _ _ (outs-If test x None)

  pub fold-IfElse : (test : Expr) (x y : Tree) → fold-Tree A step (tree.If test x (Some y)) ≡ step (layer.If test (fold-Tree A step x) (Some (fold-Tree A step y)))
  fold-IfElse test x y = opened _ _ (outs-If test x (Some y))

  pub fold-Let : (settings : List Setting) (x : Tree) → fold-Tree A step (tree.Let settings x) ≡ step (layer.Let settings (fold-Tree A step x))
  fold-Let settings x = opened _ _ (outs-Let settings x)
