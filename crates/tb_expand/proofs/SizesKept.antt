-- The stored sizes of the processes, after each position of an order.
use Rattle.std.proofs.Common.{◌≡◌, ℕ, suc, ◌+◌, ◌<◌, ◌≤◌, ◌≢◌, ◌⊎◌, inl, inr, List, [], ◌∷◌, ◌++◌, length, take, get_or, slice_get, set, Option, Some, None, option_map, ap, sym, subst, ◌∙◌, arith, add-one}
use Rattle.std.specs.List.{Contains}
use Rattle.std.specs.Option.{option_and_then}
use Rattle.std.proofs.Math.Seq.{take-suc}
use Rattle.std.proofs.lemmas.Bool.{cases_eq}
use Rattle.std.proofs.lemmas.List.{length-set, take_all, get_or-set_same, get_or-set_other}
use Rattle.std.proofs.lemmas.List.Elements.{Contains-push_cases}
use Rattle.std.proofs.lemmas.Option.{slice_get_within, slice_get_cases, slice_get-get_or, get_or_from_slice_get}
use Rattle.tb_syntax.specs.declared.script.ProcDef.{ProcDef}
use Rattle.tb_syntax.specs.declared.script.Script.{Script}
use Rattle.tb_expand.specs.declared.size.Size.{Size}
use Rattle.tb_expand.specs.Cycles.{called}
use Rattle.tb_expand.specs.Helpers.Descents.{StandsAmong, Descends}
use Rattle.tb_expand.specs.Helpers.Sizes.{size_of}
use Rattle.tb_expand.specs.Helpers.Measuring.{capped, measure, with_size_of, with_measure, AreSizes}
use Rattle.tb_expand.proofs.Depths.{OneOrNone, IsDefined, defined, depth_is_enough}
use Rattle.tb_expand.proofs.Measured.{IsKnown, measured}

abbrev pub full_size : Script → ProcDef → Size
full_size script d = size_of script (length script.procs) d.body

-- each of these positions has its size
pub record AreKept (script : Script) (positions : List ℕ) (sizes : List Size) : Type 0 where
  pub long : length sizes ≡ length script.procs
  pub kept : (position : ℕ) (d : ProcDef) → Contains positions position → slice_get script.procs position ≡ Some d → slice_get sizes position ≡ Some (capped (full_size script d))

pub none_kept : (script : Script) (sizes : List Size) → length sizes ≡ length script.procs → AreKept script [] sizes
none_kept script sizes long = record { long = long; kept = λ position d there at. absurd (omega (arith, there.1)) }

option_same : {X : Type 0} (x y : X) → ◌≡◌ {A = Option X} (Some x) (Some y) → x ≡ y
option_same x y e = cc

some_not_none : {X : Type 0} (x : X) → ◌≡◌ {A = Option X} (Some x) None → ⊥
some_not_none x e = cc

got_set : {X : Type 0} (xs : List X) (i : ℕ) (x : X) → i < length xs → slice_get (set xs i x) i ≡ Some x
got_set xs i x within =
    let long : i < length (set xs i x) = subst (λ (n : ℕ). i < n) (sym (length-set xs i x)) within in
    slice_get-get_or (set xs i x) i x long ∙ ap (λ (y : _). Some y) (get_or-set_same xs i x x within)

got_other : {X : Type 0} (xs : List X) (i j : ℕ) (x y : X) → j ≢ i → slice_get xs j ≡ Some y → slice_get (set xs i x) j ≡ Some y
got_other xs i j x y other got =
    let long : j < length (set xs i x) = subst (λ (n : ℕ). j < n) (sym (length-set xs i x)) (slice_get_within xs j y got) in
    slice_get-get_or (set xs i x) j y long ∙ ap (λ (z : _). Some z) (get_or-set_other xs i j x y other ∙ get_or_from_slice_get xs j y y got)

module _ (script : Script) (order : List ℕ) (descends : Descends script order) where
  abbrev Calls : List ℕ → ProcDef → Type 0
  Calls positions d = (name : List ℕ) → Contains (called d.body) name → StandsAmong script positions name

  module _ (positions : List ℕ) (sizes : List Size) (kept : AreKept script positions sizes) where
    -- the sizes of the processes that a body calls are known
    known : (name : List ℕ) → StandsAmong script positions name → IsKnown script sizes (size_of script (length script.procs)) name
    known name stands =
        let is : IsDefined script name stands.position = defined script name stands.position stands.named in
        ap (option_and_then (slice_get sizes)) stands.named ∙ kept.kept stands.position is.d stands.there is.at
        ∙ sym (ap (option_map (λ (d : ProcDef). capped (full_size script d))) is.found)

    measured_there : (position : ℕ) (d : ProcDef) → slice_get script.procs position ≡ Some d → Calls positions d → measure script sizes d.body ≡ capped (full_size script d)
    measured_there position d at calls =
        measured script sizes (size_of script (length script.procs)) d.body (λ name is. known name (calls name is))
        ∙ ap capped (depth_is_enough script order descends position d at (suc (length script.procs)) (omega arith))

    kept_at : (last : ℕ) (d : ProcDef) → slice_get script.procs last ≡ Some d → Calls positions d → AreKept script (positions ++ last ∷ []) (set sizes last (measure script sizes d.body))
    kept_at last d at calls = record { long = length-set sizes last (measure script sizes d.body) ∙ kept.long; kept = each } where
      here : slice_get (set sizes last (measure script sizes d.body)) last ≡ Some (capped (full_size script d))
      here =
          let within : last < length sizes = subst (λ (n : ℕ). last < n) (sym kept.long) (slice_get_within script.procs last d at) in
          got_set sizes last (measure script sizes d.body) within ∙ ap (λ (s : Size). Some s) (measured_there last d at calls)

      there : (position : ℕ) (e : ProcDef) → slice_get script.procs position ≡ Some e → (position ≡ last) ⊎ (position ≢ last) → Contains positions position ⊎ (last ≡ position) → slice_get (set sizes last (measure script sizes d.body)) position ≡ Some (capped (full_size script e))
      there position e is (inl same) old =
          let alike : d ≡ e = option_same d e (sym at ∙ ap (slice_get script.procs) (sym same) ∙ is) in
          ap (slice_get (set sizes last (measure script sizes d.body))) same ∙ here ∙ ap (λ (f : ProcDef). Some (capped (full_size script f))) alike
      there position e is (inr other) (inl old) = got_other sizes last position (measure script sizes d.body) (capped (full_size script e)) other (kept.kept position e old is)
      there position e is (inr other) (inr same) = absurd (other (sym same))

      each : (position : ℕ) (e : ProcDef) → Contains (positions ++ last ∷ []) position → slice_get script.procs position ≡ Some e → slice_get (set sizes last (measure script sizes d.body)) position ≡ Some (capped (full_size script e))
      each position e is at_position = there position e at_position (cases_eq position last) (Contains-push_cases positions last position is)

    kept_nowhere : (last : ℕ) → slice_get script.procs last ≡ None → AreKept script (positions ++ last ∷ []) sizes
    kept_nowhere last none = record { long = kept.long; kept = each } where
      there : (position : ℕ) (e : ProcDef) → slice_get script.procs position ≡ Some e → Contains positions position ⊎ (last ≡ position) → slice_get sizes position ≡ Some (capped (full_size script e))
      there position e is (inl old) = kept.kept position e old is
      there position e is (inr same) = absurd (some_not_none e (sym is ∙ ap (slice_get script.procs) (sym same) ∙ none))

      each : (position : ℕ) (e : ProcDef) → Contains (positions ++ last ∷ []) position → slice_get script.procs position ≡ Some e → slice_get sizes position ≡ Some (capped (full_size script e))
      each position e is at_position = there position e at_position (Contains-push_cases positions last position is)

    kept_more : (last : ℕ) → ((d : ProcDef) → slice_get script.procs last ≡ Some d → Calls positions d) → AreKept script (positions ++ last ∷ []) (with_measure script sizes last)
    kept_more last calls = step (slice_get_cases script.procs last).1 where
      step : OneOrNone script.procs last → AreKept script (positions ++ last ∷ []) (with_measure script sizes last)
      step (inl h) =
          subst (λ (o : Option ProcDef). AreKept script (positions ++ last ∷ []) (with_size_of script sizes last o)) (sym h.2) (kept_at last h.0 h.2 (calls h.0 h.2))
      step (inr h) =
          subst (λ (o : Option ProcDef). AreKept script (positions ++ last ∷ []) (with_size_of script sizes last o)) (sym h.1) (kept_nowhere last h.1)

-- one position further
pub kept_next : (script : Script) (order : List ℕ) (sizes new : List Size) (at position : ℕ) → Descends script order → at < length order → position ≡ get_or order at 0
    → AreKept script (take at order) sizes → new ≡ with_measure script sizes position → AreKept script (take (at + 1) order) new
kept_next script order sizes new at position descends within here kept is =
    let got : slice_get order at ≡ Some position = slice_get-get_or order at 0 within ∙ ap (λ (n : ℕ). Some n) (sym here) in
    let more : take (at + 1) order ≡ take at order ++ position ∷ []
    = ap (λ (n : ℕ). take n order) (add-one at) ∙ take-suc order at 0 within ∙ ap (λ (p : ℕ). take at order ++ p ∷ []) (sym here) in
    subst (λ (xs : List ℕ). AreKept script xs new) (sym more)
    (subst (AreKept script (take at order ++ position ∷ [])) (sym is)
    (kept_more script order descends (take at order) sizes kept position (λ d at_position name calls. descends.behind at position d name got at_position calls)))

pub all_kept : (script : Script) (order : List ℕ) (sizes : List Size) (at : ℕ) → Descends script order → length order ≤ at → AreKept script (take at order) sizes → AreSizes script sizes
all_kept script order sizes at descends end kept position d is =
    let all : AreKept script order sizes = subst (λ (xs : List ℕ). AreKept script xs sizes) (take_all at order end) kept in
    all.kept position d (descends.complete position (slice_get_within script.procs position d is)) is

pub kept_size : (script : Script) (sizes new : List Size) (position : ℕ) (d : ProcDef) (size : Size) → Some d ≡ slice_get script.procs position → size ≡ measure script sizes d.body
    → new ≡ set sizes position size → new ≡ with_measure script sizes position
kept_size script sizes new position d size found is e =
    e ∙ ap (set sizes position) is ∙ ap (with_size_of script sizes position) found
