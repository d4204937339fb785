-- Expansions that are too large by their sizes, and expansions that are in range of a body.
use Rattle.std.proofs.Common.{◌≡◌, ℕ, ◌<◌, ◌≤◌, ◌⊎◌, inl, inr, true, false, ◌||◌, nat_lt, List, length, min, slice_get, Contains, Option, Some, None, ap, sym, ◌∙◌, arith}
use Rattle.std.proofs.lemmas.Bool.{lt-ltb, le-ltb, cases_lt}
use Rattle.tb_terms.specs.declared.sort.Sort.{Sort}
use Rattle.tb_body.specs.declared.atom.Atom.{Atom}
use Rattle.tb_body.specs.declared.tree.Tree.{Tree}
use Rattle.tb_body.specs.InRange.{is_body_in_range}
use Rattle.tb_syntax.specs.declared.script.ProcDef.{ProcDef}
use Rattle.tb_syntax.specs.declared.script.Script.{Script}
use Rattle.tb_types.specs.Conditions.{Proper}
use Rattle.tb_expand.specs.declared.size.Size.{Size}
use Rattle.tb_expand.specs.Scopes.{formals_seen}
use Rattle.tb_expand.specs.Expansion.{expansion_of, is_too_large}
use Rattle.tb_expand.specs.Helpers.Measuring.{capped, is_over, AreSizes}
use Rattle.tb_expand.specs.Helpers.Sizes.{size_of}
use Rattle.tb_expand.specs.Helpers.Wholes.{is_whole}
use Rattle.tb_expand.proofs.Ranges.{expansions_in_range}
use Rattle.tb_expand.proofs.Sized.{sizes_are}

capped_over : (limit n cap : ℕ) → limit < cap → nat_lt limit (min n cap) ≡ nat_lt limit n
capped_over limit n cap below = step (cases_lt limit n) where
  step : (limit < n) ⊎ (n ≤ limit) → nat_lt limit (min n cap) ≡ nat_lt limit n
  step (inl over) =
      let capped_is : limit < min n cap = omega arith in
      lt-ltb limit (min n cap) capped_is ∙ sym (lt-ltb limit n over)
  step (inr under) =
      let low : min n cap ≤ limit = omega arith in
      le-ltb limit (min n cap) low ∙ sym (le-ltb limit n under)

over_capped : (x : Size) → is_over (capped x) ≡ is_over x
over_capped x =
    let first : 20000 < 20001 = omega arith in
    let second : 1000 < 1001 = omega arith in
    λ i. capped_over 20000 x.atoms 20001 first i || capped_over 1000 x.levels 1001 second i

over_size : (script : Script) (d : ProcDef) → is_over (size_of script (length script.procs) d.body) ≡ is_too_large (expansion_of script d)
over_size script d =
    let are = sizes_are script (length script.procs) d.body (formals_seen 0 d.formals) 1 (length d.formals) in
    λ i. nat_lt 20000 (sym are.0 i) || nat_lt 1000 (sym are.1 i)

some_same : {X : Type 0} (x y : X) → ◌≡◌ {A = Option X} (Some x) (Some y) → x ≡ y
some_same x y e = cc

pub large_by_size : (script : Script) (sizes : List Size) (position : ℕ) (d : ProcDef) (size : Size) → AreSizes script sizes → slice_get script.procs position ≡ Some d → Some size ≡ slice_get sizes position
    → is_over size ≡ is_too_large (expansion_of script d)
large_by_size script sizes position d size are there found =
    ap is_over (some_same size _ (found ∙ are position d there)) ∙ over_capped (size_of script (length script.procs) d.body) ∙ over_size script d

pub size_is_there : (script : Script) (sizes : List Size) (position : ℕ) (d : ProcDef) → AreSizes script sizes → slice_get script.procs position ≡ Some d → None ≡ slice_get sizes position → ⊥
size_is_there script sizes position d are there none =
    let both : ◌≡◌ {A = Option Size} None (Some (capped (size_of script (length script.procs) d.body))) = none ∙ are position d there in
    cc

-- the parts of an expansion within the limits are in range of a body
pub parts_in_range : (script : Script) (d : ProcDef) (tree : Tree) (atoms : List Atom) (sorts : List Sort) (formals : ℕ)
    → Proper script → Contains script.procs d → is_whole script (length script.procs) d.body ≡ true → is_too_large (expansion_of script d) ≡ false
    → tree ≡ (expansion_of script d).tree → atoms ≡ (expansion_of script d).atoms → sorts ≡ (expansion_of script d).sorts → formals ≡ length d.formals
    → is_body_in_range tree atoms sorts formals ≡ true
parts_in_range script d tree atoms sorts formals proper there whole small is_tree is_atoms is_sorts is_formals =
    (λ i. is_body_in_range (is_tree i) (is_atoms i) (is_sorts i) (is_formals i)) ∙ expansions_in_range script d proper there whole small
