-- What a fold over processes gives at each kind of process that the ring has.
use Rattle.std.proofs.Common.{◌≡◌, List, Some, ap, ◌∙◌}
use Rattle.tb_syntax.specs.declared.ast.Ast.{Ast}
use Rattle.tb_syntax.specs.declared.proc.AtomDef.{AtomDef}
use Rattle.tb_syntax.specs.declared.proc.Var.{Var}
use Rattle.tb_syntax.specs.declared.proc.Proc.{Proc, out-Proc}
use Rattle.tb_syntax.specs.declared.proc.Proc.TheVariants as tree
use Rattle.tb_syntax.specs.declared.proc.Proc.TheVariants.{outs-Atom, outs-Seq, outs-Star, outs-If, outs-Let}
use Rattle.tb_syntax.specs.declared.proc.Proc.TheOpen as layer
use Rattle.tb_syntax.specs.declared.proc.Proc.TheOpen.{Proc-F}
use Rattle.tb_syntax.specs.declared.proc.Proc.TheFolds.{fold-Proc, fold_out-Proc, map-Proc}

module _ (A : Type 0) (step : Proc-F A → A) where
  abbrev of_layer : Proc-F Proc → A
  of_layer x = step (map-Proc Proc A (fold-Proc A step) x)

  opened : (p : Proc) (x : Proc-F Proc) → out-Proc p ≡ x → fold-Proc A step p ≡ of_layer x
  opened p x e = fold_out-Proc A step p ∙ ap of_layer e

  pub fold-Atom : (atom : AtomDef) → fold-Proc A step (tree.Atom atom) ≡ step (layer.Atom atom)
  fold-Atom atom = opened _ _ (outs-Atom atom)

  pub fold-Seq : (x y : Proc) → fold-Proc A step (tree.Seq x y) ≡ step (layer.Seq (fold-Proc A step x) (fold-Proc A step y))
  fold-Seq x y = opened _ _ (outs-Seq x y)

  pub fold-Star : (x y : Proc) → fold-Proc A step (tree.Star x y) ≡ step (layer.Star (fold-Proc A step x) (fold-Proc A step y))
  fold-Star x y = opened _ _ (outs-Star x y)

  pub fold-If : (test : Ast) (x y : Proc) → fold-Proc A step (tree.If test x (Some y)) ≡ step (layer.If test (fold-Proc A step x) (Some (fold-Proc A step y)))
  fold-If test x y = opened _ _ (outs-If test x (Some y))

  pub fold-Let : (vars : List Var) (x : Proc) → fold-Proc A step (tree.Let vars x) ≡ step (layer.Let vars (fold-Proc A step x))
  fold-Let vars x = opened _ _ (outs-Let vars x)

  -- a fold of the whole body of Node, and of First
  pub fold-node : (vars : List Var) (x y z : AtomDef) → fold-Proc A step (tree.Let vars (tree.Star (tree.Seq (tree.Atom x) (tree.Atom y)) (tree.Atom z)))
      ≡ step (layer.Let vars (step (layer.Star (step (layer.Seq (step (layer.Atom x)) (step (layer.Atom y)))) (step (layer.Atom z)))))
  fold-node vars x y z =
      let turn = tree.Seq (tree.Atom x) (tree.Atom y) in
      let loop = tree.Star turn (tree.Atom z) in
      let turned : fold-Proc A step turn ≡ step (layer.Seq (step (layer.Atom x)) (step (layer.Atom y))) = fold-Seq (tree.Atom x) (tree.Atom y) ∙ (λ i. step (layer.Seq (fold-Atom x i) (fold-Atom y i))) in
      let looped : fold-Proc A step loop ≡ step (layer.Star (step (layer.Seq (step (layer.Atom x)) (step (layer.Atom y)))) (step (layer.Atom z))) = fold-Star turn (tree.Atom z) ∙ (λ i. step (layer.Star (turned i) (fold-Atom z i))) in
      fold-Let vars loop ∙ ap (λ (a : A). step (layer.Let vars a)) looped

  pub fold-first : (vars : List Var) (v x : AtomDef) (test : Ast) (y z w : AtomDef)
      → fold-Proc A step (tree.Let vars (tree.Seq (tree.Atom v) (tree.Star (tree.Seq (tree.Atom x) (tree.If test (tree.Atom y) (Some (tree.Atom z)))) (tree.Atom w))))
      ≡ step (layer.Let vars (step (layer.Seq (step (layer.Atom v)) (step (layer.Star (step (layer.Seq (step (layer.Atom x)) (step (layer.If test (step (layer.Atom y)) (Some (step (layer.Atom z))))))) (step (layer.Atom w)))))))
  fold-first vars v x test y z w =
      let tests = tree.If test (tree.Atom y) (Some (tree.Atom z)) in
      let turn = tree.Seq (tree.Atom x) tests in
      let loop = tree.Star turn (tree.Atom w) in
      let tested : fold-Proc A step tests ≡ step (layer.If test (step (layer.Atom y)) (Some (step (layer.Atom z)))) = fold-If test (tree.Atom y) (tree.Atom z) ∙ (λ i. step (layer.If test (fold-Atom y i) (Some (fold-Atom z i)))) in
      let turned : fold-Proc A step turn ≡ step (layer.Seq (step (layer.Atom x)) (step (layer.If test (step (layer.Atom y)) (Some (step (layer.Atom z)))))) = fold-Seq (tree.Atom x) tests ∙ (λ i. step (layer.Seq (fold-Atom x i) (tested i))) in
      let looped : fold-Proc A step loop ≡ step (layer.Star (step (layer.Seq (step (layer.Atom x)) (step (layer.If test (step (layer.Atom y)) (Some (step (layer.Atom z))))))) (step (layer.Atom w))) = fold-Star turn (tree.Atom w) ∙ (λ i. step (layer.Star (turned i) (fold-Atom w i))) in
      let all : fold-Proc A step (tree.Seq (tree.Atom v) loop)
      ≡ step (layer.Seq (step (layer.Atom v)) (step (layer.Star (step (layer.Seq (step (layer.Atom x)) (step (layer.If test (step (layer.Atom y)) (Some (step (layer.Atom z))))))) (step (layer.Atom w))))) =
      fold-Seq (tree.Atom v) loop ∙ (λ i. step (layer.Seq (fold-Atom v i) (looped i))) in
      fold-Let vars (tree.Seq (tree.Atom v) loop) ∙ ap (λ (a : A). step (layer.Let vars a)) all
