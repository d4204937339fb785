-- The measured size is the capped size.
use Rattle.std.proofs.Common.{◌≡◌, ℕ, ◌+◌, List, min, max, Option, Some, None, option_map, refl, ap, ◌∙◌, arith}
use Rattle.std.specs.List.{Contains}
use Rattle.tb_syntax.specs.declared.proc.Proc.{Proc}
use Rattle.tb_syntax.specs.declared.proc.Proc.TheOpen as layer
use Rattle.tb_syntax.specs.declared.script.ProcDef.{ProcDef}
use Rattle.tb_syntax.specs.declared.script.Script.{Script}
use Rattle.tb_types.specs.Names.{process_named}
use Rattle.tb_expand.specs.declared.size.Size.{Size}
use Rattle.tb_expand.specs.Cycles.{called}
use Rattle.tb_expand.specs.Helpers.Sizes.{beside, above, called_size, size_step, size_with}
use Rattle.tb_expand.specs.Helpers.Measuring.{capped, called_measure, known_size, measure_step, measure}
use Rattle.tb_expand.proofs.CalledFolds.{IsKept, related}

-- Caps.

pub cap_sum : (x y cap : ℕ) → min (min x cap + min y cap) cap ≡ min (x + y) cap
cap_sum x y cap = omega arith

pub cap_greater : (x y cap : ℕ) → min (1 + max (min x cap) (min y cap)) cap ≡ min (1 + max x y) cap
cap_greater x y cap = omega arith

pub cap_more : (x cap : ℕ) → min (1 + min x cap) cap ≡ min (1 + x) cap
cap_more x cap = omega arith

pub cap_beside : (x y : Size) → capped (beside (capped x) (capped y)) ≡ capped (beside x y)
cap_beside x y = λ i. record { atoms = cap_sum x.atoms y.atoms 20001 i; levels = cap_greater x.levels y.levels 1001 i }

cap_atoms : (x cap : ℕ) → min (min x cap) cap ≡ min x cap
cap_atoms x cap = omega arith

pub cap_above : (x : Size) → capped (above (capped x)) ≡ capped (above x)
cap_above x = λ i. record { atoms = cap_atoms x.atoms 20001 i; levels = cap_more x.levels 1001 i }

-- Bodies.

module _ (script : Script) (sizes : List Size) (size : Proc → Size) where
  -- what is known of a name is the size of its process
  abbrev pub IsKnown : List ℕ → Type 0
  IsKnown name = known_size script sizes name ≡ option_map (λ (d : ProcDef). capped (size d.body)) (process_named script.procs name)

  abbrev IsCapped : Size → Size → Type 0
  IsCapped x y = x ≡ capped y

  called_kept : (o : Option ProcDef) → called_measure (option_map (λ (d : ProcDef). capped (size d.body)) o) ≡ capped (called_size size o)
  called_kept None = refl
  called_kept (Some d) = cap_above (size d.body)

  beside_kept : (x y m n : Size) → x ≡ capped m → y ≡ capped n → capped (beside x y) ≡ capped (beside m n)
  beside_kept x y m n p q = (λ i. capped (beside (p i) (q i))) ∙ cap_beside m n

  above_kept : (x m : Size) → x ≡ capped m → capped (above x) ≡ capped (above m)
  above_kept x m p = ap (λ (s : Size). capped (above s)) p ∙ cap_above m

  kept : IsKept Size Size (measure_step script sizes) (size_step script size) IsCapped IsKnown
  kept (layer.Atom def) is = refl
  kept (layer.Call call) is = ap called_measure is ∙ called_kept (process_named script.procs call.name)
  kept (layer.Seq x y) is = beside_kept x.0 y.0 x.1 y.1 x.2 y.2
  kept (layer.Alt x y) is = beside_kept x.0 y.0 x.1 y.1 x.2 y.2
  kept (layer.Star x y) is = beside_kept x.0 y.0 x.1 y.1 x.2 y.2
  kept (layer.Par x y) is = beside_kept x.0 y.0 x.1 y.1 x.2 y.2
  kept (layer.Disrupt x y) is = beside_kept x.0 y.0 x.1 y.1 x.2 y.2
  kept (layer.If test x None) is = above_kept x.0 x.1 x.2
  kept (layer.If test x (Some y)) is = beside_kept x.0 y.0 x.1 y.1 x.2 y.2
  kept (layer.Let vars x) is = above_kept x.0 x.1 x.2

  pub measured : (p : Proc) → ((name : List ℕ) → Contains (called p) name → IsKnown name) → measure script sizes p ≡ capped (size_with script size p)
  measured = related Size Size (measure_step script sizes) (size_step script size) IsCapped IsKnown kept
