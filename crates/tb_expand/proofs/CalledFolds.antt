-- Two folds over a process give related results if their steps keep the relation for each kind of process and for each call.
use Rattle.std.proofs.Common.{◌≡◌, ℕ, List, [], ◌∷◌, ◌++◌, Some, None, refl, sym, subst, arith}
use Rattle.std.specs.List.{Contains}
use Rattle.std.proofs.lemmas.List.Elements.{Contains-append_left, Contains-append_right}
use Rattle.tb_syntax.specs.declared.proc.Proc.{Proc, Proc-F, map-Proc, fold-Proc, fold-roll-Proc, ind-Proc, roll-Proc}
use Rattle.tb_syntax.specs.declared.proc.Proc.TheOpen as layer
use Rattle.tb_expand.specs.Cycles.{called, called_step}

module _ (A B : Type 0) (f : Proc-F A → A) (g : Proc-F B → B) (R : A → B → Type 0) (K : List ℕ → Type 0) where
  abbrev pub Related : Type 0
  Related = (a : A) × (b : B) × R a b

  -- of a call, that it is one of these
  abbrev pub IsCall : Proc-F Related → Type 0
  IsCall (layer.Atom def) = Unit {0}
  IsCall (layer.Call call) = K call.name
  IsCall (layer.Seq x y) = Unit {0}
  IsCall (layer.Alt x y) = Unit {0}
  IsCall (layer.Star x y) = Unit {0}
  IsCall (layer.Par x y) = Unit {0}
  IsCall (layer.Disrupt x y) = Unit {0}
  IsCall (layer.If test x y) = Unit {0}
  IsCall (layer.Let vars x) = Unit {0}

  abbrev pub IsKept : Type 0
  IsKept = (y : Proc-F Related) → IsCall y → R (f (map-Proc Related A (λ r. r.0) y)) (g (map-Proc Related B (λ r. r.1) y))

  abbrev AreAll : List (List ℕ) → Type 0
  AreAll names = (name : List ℕ) → Contains names name → K name

  abbrev IsRelated : Proc → Type 0
  IsRelated p = AreAll (called p) → R (fold-Proc A f p) (fold-Proc B g p)

  abbrev Shown : Type 0
  Shown = (p : Proc) × IsRelated p

  abbrev LayerIsRelated : Proc-F Proc → Type 0
  LayerIsRelated w = AreAll (called_step (map-Proc Proc (List (List ℕ)) called w)) → R (f (map-Proc Proc A (fold-Proc A f) w)) (g (map-Proc Proc B (fold-Proc B g) w))

  prefix : (xs ys : List (List ℕ)) → AreAll (xs ++ ys) → AreAll xs
  prefix xs ys all name is = all name (Contains-append_left xs ys name is)

  back : (xs ys : List (List ℕ)) → AreAll (xs ++ ys) → AreAll ys
  back xs ys all name is = all name (Contains-append_right xs ys name is)

  alone : (name : List ℕ) → AreAll (name ∷ []) → K name
  alone name all = all name (0, omega arith, refl)

  abbrev left : (x y : Shown) → AreAll (called x.0 ++ called y.0) → Related
  left x y all = (fold-Proc A f x.0, fold-Proc B g x.0, x.1 (prefix (called x.0) (called y.0) all))

  abbrev right : (x y : Shown) → AreAll (called x.0 ++ called y.0) → Related
  right x y all = (fold-Proc A f y.0, fold-Proc B g y.0, y.1 (back (called x.0) (called y.0) all))

  abbrev only : (x : Shown) → AreAll (called x.0) → Related
  only x all = (fold-Proc A f x.0, fold-Proc B g x.0, x.1 all)

  layer_related : IsKept → (y : Proc-F Shown) → LayerIsRelated (map-Proc Shown Proc (λ s. s.0) y)
  layer_related kept (layer.Atom def) all = kept (layer.Atom def) (tt {0})
  layer_related kept (layer.Call call) all = kept (layer.Call call) (alone call.name all)
  layer_related kept (layer.Seq x y) all = kept (layer.Seq (left x y all) (right x y all)) (tt {0})
  layer_related kept (layer.Alt x y) all = kept (layer.Alt (left x y all) (right x y all)) (tt {0})
  layer_related kept (layer.Star x y) all = kept (layer.Star (left x y all) (right x y all)) (tt {0})
  layer_related kept (layer.Par x y) all = kept (layer.Par (left x y all) (right x y all)) (tt {0})
  layer_related kept (layer.Disrupt x y) all = kept (layer.Disrupt (left x y all) (right x y all)) (tt {0})
  layer_related kept (layer.If test x None) all = kept (layer.If test (only x (prefix (called x.0) [] all)) None) (tt {0})
  layer_related kept (layer.If test x (Some y)) all = kept (layer.If test (left x y all) (Some (right x y all))) (tt {0})
  layer_related kept (layer.Let vars x) all = kept (layer.Let vars (only x all)) (tt {0})

  pub related : IsKept → (p : Proc) → IsRelated p
  related kept = ind-Proc IsRelated step where
    step : (x : Proc-F Proc) (y : Proc-F Shown) → map-Proc Shown Proc (λ s. s.0) y ≡ x → IsRelated (roll-Proc x)
    step x y e all =
        let here : LayerIsRelated x = subst LayerIsRelated e (layer_related kept y) in
        subst (λ (a : A). R a (fold-Proc B g (roll-Proc x))) (sym (fold-roll-Proc A f x))
        (subst (λ (b : B). R (f (map-Proc Proc A (fold-Proc A f) x)) b) (sym (fold-roll-Proc B g x))
        (here (subst AreAll (fold-roll-Proc (List (List ℕ)) called_step x) all)))
