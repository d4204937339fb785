-- Induction over processes, and over the results of two folds of one process.
use Rattle.std.proofs.Common.{◌≡◌, List, Option, Some, None, sym, subst}
use Rattle.tb_syntax.specs.declared.ast.Ast.{Ast}
use Rattle.tb_syntax.specs.declared.proc.AtomDef.{AtomDef}
use Rattle.tb_syntax.specs.declared.proc.Call.{Call}
use Rattle.tb_syntax.specs.declared.proc.Var.{Var}
use Rattle.tb_syntax.specs.declared.proc.Proc.{Proc, Proc-F, map-Proc, fold-Proc, fold-roll-Proc, ind-Proc, roll-Proc}
use Rattle.tb_syntax.specs.declared.proc.Proc.TheVariants as proc
use Rattle.tb_syntax.specs.declared.proc.Proc.TheVariants.{rolls-Atom, rolls-Call, rolls-Seq, rolls-Alt, rolls-Star, rolls-Par, rolls-Disrupt, rolls-If, rolls-Let}
use Rattle.tb_syntax.specs.declared.proc.Proc.TheOpen as layer

abbrev Shown : (Proc → Type 0) → Type 0
Shown P = (p : Proc) × P p

-- an `else` side, which can be missing
abbrev pub OnSide : (Proc → Type 0) → Option Proc → Type 0
OnSide P None = Unit {0}
OnSide P (Some y) = P y

-- each construct has the property if its parts have it
pub record Inductive (P : Proc → Type 0) : Type 0 where
  pub atom : (def : AtomDef) → P (proc.Atom def)
  pub call : (call : Call) → P (proc.Call call)
  pub seq : (x y : Proc) → P x → P y → P (proc.Seq x y)
  pub alt : (x y : Proc) → P x → P y → P (proc.Alt x y)
  pub star : (x y : Proc) → P x → P y → P (proc.Star x y)
  pub par : (x y : Proc) → P x → P y → P (proc.Par x y)
  pub disrupt : (x y : Proc) → P x → P y → P (proc.Disrupt x y)
  pub test : (test : Ast) (x : Proc) (y : Option Proc) → P x → OnSide P y → P (proc.If test x y)
  pub block : (vars : List Var) (x : Proc) → P x → P (proc.Let vars x)

pub proc_induction : (P : Proc → Type 0) → Inductive P → (p : Proc) → P p
proc_induction P each = ind-Proc P step where
  rolled : (x y : Proc-F Proc) (p : Proc) → p ≡ roll-Proc y → y ≡ x → P p → P (roll-Proc x)
  rolled x y p rolls e h = subst (λ (w : Proc-F Proc). P (roll-Proc w)) e (subst P rolls h)

  step : (x : Proc-F Proc) (y : Proc-F (Shown P)) → map-Proc (Shown P) Proc (λ s. s.0) y ≡ x → P (roll-Proc x)
  step x (layer.Atom def) e = rolled x _ _ (sym (rolls-Atom def)) e (each.atom def)
  step x (layer.Call call) e = rolled x _ _ (sym (rolls-Call call)) e (each.call call)
  step x (layer.Seq p q) e = rolled x _ _ (sym (rolls-Seq p.0 q.0)) e (each.seq p.0 q.0 p.1 q.1)
  step x (layer.Alt p q) e = rolled x _ _ (sym (rolls-Alt p.0 q.0)) e (each.alt p.0 q.0 p.1 q.1)
  step x (layer.Star p q) e = rolled x _ _ (sym (rolls-Star p.0 q.0)) e (each.star p.0 q.0 p.1 q.1)
  step x (layer.Par p q) e = rolled x _ _ (sym (rolls-Par p.0 q.0)) e (each.par p.0 q.0 p.1 q.1)
  step x (layer.Disrupt p q) e = rolled x _ _ (sym (rolls-Disrupt p.0 q.0)) e (each.disrupt p.0 q.0 p.1 q.1)
  step x (layer.If test p None) e = rolled x _ _ (sym (rolls-If test p.0 None)) e (each.test test p.0 None p.1 tt)
  step x (layer.If test p (Some q)) e = rolled x _ _ (sym (rolls-If test p.0 (Some q.0))) e (each.test test p.0 (Some q.0) p.1 q.1)
  step x (layer.Let vars p) e = rolled x _ _ (sym (rolls-Let vars p.0)) e (each.block vars p.0 p.1)

-- the steps of two folds keep a relation
pub record Related (A B : Type 0) (one : Proc-F A → A) (other : Proc-F B → B) (R : A → B → Type 0) : Type 0 where
  pub atom : (def : AtomDef) → R (one (layer.Atom def)) (other (layer.Atom def))
  pub call : (call : Call) → R (one (layer.Call call)) (other (layer.Call call))
  pub seq : (x y : A) (v w : B) → R x v → R y w → R (one (layer.Seq x y)) (other (layer.Seq v w))
  pub alt : (x y : A) (v w : B) → R x v → R y w → R (one (layer.Alt x y)) (other (layer.Alt v w))
  pub star : (x y : A) (v w : B) → R x v → R y w → R (one (layer.Star x y)) (other (layer.Star v w))
  pub par : (x y : A) (v w : B) → R x v → R y w → R (one (layer.Par x y)) (other (layer.Par v w))
  pub disrupt : (x y : A) (v w : B) → R x v → R y w → R (one (layer.Disrupt x y)) (other (layer.Disrupt v w))
  pub test : (test : Ast) (x : A) (v : B) → R x v → R (one (layer.If test x None)) (other (layer.If test v None))
  pub test_else : (test : Ast) (x y : A) (v w : B) → R x v → R y w → R (one (layer.If test x (Some y))) (other (layer.If test v (Some w)))
  pub block : (vars : List Var) (x : A) (v : B) → R x v → R (one (layer.Let vars x)) (other (layer.Let vars v))

pub folds_related : (A B : Type 0) (one : Proc-F A → A) (other : Proc-F B → B) (R : A → B → Type 0)
    → Related A B one other R → (p : Proc) → R (fold-Proc A one p) (fold-Proc B other p)
folds_related A B one other R each = ind-Proc P step where
  P : Proc → Type 0
  P p = R (fold-Proc A one p) (fold-Proc B other p)

  L : Proc-F Proc → Type 0
  L x = R (one (map-Proc Proc A (fold-Proc A one) x)) (other (map-Proc Proc B (fold-Proc B other) x))

  layers : (y : Proc-F (Shown P)) → L (map-Proc (Shown P) Proc (λ s. s.0) y)
  layers (layer.Atom def) = each.atom def
  layers (layer.Call call) = each.call call
  layers (layer.Seq p q) = each.seq _ _ _ _ p.1 q.1
  layers (layer.Alt p q) = each.alt _ _ _ _ p.1 q.1
  layers (layer.Star p q) = each.star _ _ _ _ p.1 q.1
  layers (layer.Par p q) = each.par _ _ _ _ p.1 q.1
  layers (layer.Disrupt p q) = each.disrupt _ _ _ _ p.1 q.1
  layers (layer.If test p None) = each.test test _ _ p.1
  layers (layer.If test p (Some q)) = each.test_else test _ _ _ _ p.1 q.1
  layers (layer.Let vars p) = each.block vars _ _ p.1

  step : (x : Proc-F Proc) (y : Proc-F (Shown P)) → map-Proc (Shown P) Proc (λ s. s.0) y ≡ x → P (roll-Proc x)
  step x y e =
      subst (λ (a : A). R a (fold-Proc B other (roll-Proc x))) (sym (fold-roll-Proc A one x))
      (subst (λ (b : B). R (one (map-Proc Proc A (fold-Proc A one) x)) b) (sym (fold-roll-Proc B other x)) (subst L e (layers y)))
