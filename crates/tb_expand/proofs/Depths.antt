-- If each process comes after the processes that it calls, calls end, and no depth beyond the number of processes changes a size.
use Rattle.std.proofs.Common.{◌≡◌, ℕ, zero, suc, ◌+◌, ◌<◌, ◌≤◌, ◌⊎◌, inl, inr, Bool, true, false, List, [], ◌∷◌, ◌++◌, map, cond, bytes_eq, option_map, length, take, get_or, slice_get, Option, Some, None, refl, ap, sym, subst, ◌∙◌, arith}
use Rattle.std.specs.List.{Contains}
use Rattle.std.proofs.Math.Seq.{take-suc, take-length}
use Rattle.std.proofs.lemmas.Bool.{and_from}
use Rattle.std.proofs.lemmas.List.{take_all, length-map}
use Rattle.std.proofs.lemmas.List.Elements.{Contains-push_cases}
use Rattle.std.proofs.lemmas.Option.{slice_get_within, slice_get_cases}
use Rattle.tb_syntax.specs.declared.proc.Proc.{Proc}
use Rattle.tb_syntax.specs.declared.proc.Proc.TheOpen as layer
use Rattle.tb_syntax.specs.declared.script.ProcDef.{ProcDef}
use Rattle.tb_syntax.specs.declared.script.Script.{Script}
use Rattle.tb_types.specs.NamePositions.{position_of, process_name}
use Rattle.tb_types.proofs.Naming.{found_by}
use Rattle.tb_types.specs.Names.{process_named}
use Rattle.tb_expand.specs.declared.size.Size.{Size}
use Rattle.tb_expand.specs.Cycles.{called}
use Rattle.tb_expand.specs.Helpers.Descents.{StandsAmong, Descends}
use Rattle.tb_expand.specs.Helpers.Sizes.{beside, above, called_size, size_step, size_with, size_of}
use Rattle.tb_expand.specs.Helpers.Wholes.{is_called_whole, whole_step, is_whole_with, is_whole}
use Rattle.tb_expand.proofs.CalledFolds.{IsKept, related}
use Rattle.tb_expand.proofs.SeenPositions.{is_in, seen_below, contained, seen_at_most, seen_more, seen_new}

-- Bodies, by what they call.

module _ (script : Script) (body other : Proc → Size) where
  abbrev pub IsSame : List ℕ → Type 0
  IsSame name = called_size body (process_named script.procs name) ≡ called_size other (process_named script.procs name)

  abbrev AreSame : Size → Size → Type 0
  AreSame x y = x ≡ y

  same_kept : IsKept Size Size (size_step script body) (size_step script other) AreSame IsSame
  same_kept (layer.Atom def) is = refl
  same_kept (layer.Call call) is = is
  same_kept (layer.Seq x y) is = λ i. beside (x.2 i) (y.2 i)
  same_kept (layer.Alt x y) is = λ i. beside (x.2 i) (y.2 i)
  same_kept (layer.Star x y) is = λ i. beside (x.2 i) (y.2 i)
  same_kept (layer.Par x y) is = λ i. beside (x.2 i) (y.2 i)
  same_kept (layer.Disrupt x y) is = λ i. beside (x.2 i) (y.2 i)
  same_kept (layer.If test x None) is = λ i. above (x.2 i)
  same_kept (layer.If test x (Some y)) is = λ i. beside (x.2 i) (y.2 i)
  same_kept (layer.Let vars x) is = λ i. above (x.2 i)

  -- a size goes by those of the called processes
  pub same_size : (p : Proc) → ((name : List ℕ) → Contains (called p) name → IsSame name) → size_with script body p ≡ size_with script other p
  same_size = related Size Size (size_step script body) (size_step script other) AreSame IsSame same_kept

module _ (script : Script) (body : Proc → Bool) where
  abbrev pub IsWhole : List ℕ → Type 0
  IsWhole name = is_called_whole body (process_named script.procs name) ≡ true

  abbrev AreWhole : Bool → Bool → Type 0
  AreWhole x y = x ≡ true

  whole_kept : IsKept Bool Bool (whole_step script body) (whole_step script body) AreWhole IsWhole
  whole_kept (layer.Atom def) is = refl
  whole_kept (layer.Call call) is = is
  whole_kept (layer.Seq x y) is = and_from x.0 y.0 x.2 y.2
  whole_kept (layer.Alt x y) is = and_from x.0 y.0 x.2 y.2
  whole_kept (layer.Star x y) is = and_from x.0 y.0 x.2 y.2
  whole_kept (layer.Par x y) is = and_from x.0 y.0 x.2 y.2
  whole_kept (layer.Disrupt x y) is = and_from x.0 y.0 x.2 y.2
  whole_kept (layer.If test x None) is = and_from x.0 true x.2 refl
  whole_kept (layer.If test x (Some y)) is = and_from x.0 y.0 x.2 y.2
  whole_kept (layer.Let vars x) is = x.2

  -- calls end where they do in the bodies of the called processes
  pub whole_by_calls : (p : Proc) → ((name : List ℕ) → Contains (called p) name → IsWhole name) → is_whole_with script body p ≡ true
  whole_by_calls = related Bool Bool (whole_step script body) (whole_step script body) AreWhole IsWhole whole_kept

-- Positions.

-- from this depth on the calls of a body end, and its size stays the same
pub record IsSettled (script : Script) (depth : ℕ) (p : Proc) : Type 0 where
  pub whole : (more : ℕ) → depth ≤ more → is_whole script more p ≡ true
  pub same : (more : ℕ) → depth ≤ more → size_of script more p ≡ size_of script depth p

abbrev pub IsSettledAt : Script → ℕ → ℕ → Type 0
IsSettledAt script depth position = (d : ProcDef) → slice_get script.procs position ≡ Some d → IsSettled script depth d.body

later : (script : Script) (depth more : ℕ) (p : Proc) → depth ≤ more → IsSettled script depth p → IsSettled script more p
later script depth more p below is = record {
  whole = λ most high. is.whole most (omega arith);
  same = λ most high. is.same most (omega arith) ∙ sym (is.same more below);
}

-- Names.

position_within : (names : List (List ℕ)) (name : List ℕ) (position : ℕ) → position_of names name ≡ Some position → position < length names
position_within [] name position is = absurd cc
position_within (first ∷ others) name position is = step (bytes_eq first name) (position_of others name) (position_within others name) is where
  step : (b : Bool) (o : Option ℕ) → ((other : ℕ) → o ≡ Some other → other < length others) → cond b (Some 0) (option_map (λ (n : ℕ). n + 1) o) ≡ Some position → position < suc (length others)
  step true o ih e =
      let first_position : 0 ≡ position = cc in
      omega arith
  step false None ih e = absurd cc
  step false (Some other) ih e =
      let next_position : other + 1 ≡ position = cc in
      omega (arith, ih other refl)

-- the process that stands at a name's position
pub definition_at : (script : Script) (name : List ℕ) (position : ℕ) → position_of (map process_name script.procs) name ≡ Some position → slice_get script.procs position ≡ process_named script.procs name
definition_at script name position named = found_by process_name script.procs name (Some position) (sym named)

-- within a list, or behind it
abbrev pub OneOrNone : {X : Type 0} → List X → ℕ → Type 0
OneOrNone {X} xs i = ((x : X) × (i < length xs) × (slice_get xs i ≡ Some x) × (get_or xs i x ≡ x)) ⊎ ((length xs ≤ i) × (slice_get xs i ≡ None))

pub record IsDefined (script : Script) (name : List ℕ) (position : ℕ) : Type 0 where
  pub d : ProcDef
  pub at : slice_get script.procs position ≡ Some d
  pub found : process_named script.procs name ≡ Some d

pub defined : (script : Script) (name : List ℕ) (position : ℕ) → position_of (map process_name script.procs) name ≡ Some position → IsDefined script name position
defined script name position named =
    let within : position < length script.procs = subst (λ (n : ℕ). position < n) (length-map script.procs process_name) (position_within (map process_name script.procs) name position named) in
    there (slice_get_cases script.procs position).1 within where
      there : OneOrNone script.procs position → position < length script.procs → IsDefined script name position
      there (inl h) within = record { d = h.0; at = h.2; found = sym (definition_at script name position named) ∙ h.2 }
      there (inr h) within = absurd (omega arith)

-- Processes that have settled.

module _ (script : Script) where
  abbrev depth_of : List ℕ → ℕ
  depth_of positions = seen_below (length script.procs) positions

  abbrev pub AreSettled : List ℕ → Type 0
  AreSettled positions = (position : ℕ) → Contains positions position → IsSettledAt script (depth_of positions) position

  abbrev Calls : List ℕ → ProcDef → Type 0
  Calls positions d = (name : List ℕ) → Contains (called d.body) name → StandsAmong script positions name

  module _ (positions : List ℕ) (settled : AreSettled positions) where
    called_settled : (name : List ℕ) → StandsAmong script positions name → (d : ProcDef) × (process_named script.procs name ≡ Some d) × IsSettled script (depth_of positions) d.body
    called_settled name stands =
        let is : IsDefined script name stands.position = defined script name stands.position stands.named in
        (is.d, is.found, settled stands.position stands.there is.d is.at)

    called_whole : (more : ℕ) → depth_of positions ≤ more → (name : List ℕ) → StandsAmong script positions name → IsWhole script (is_whole script more) name
    called_whole more high name stands =
        let is = called_settled name stands in
        ap (is_called_whole (is_whole script more)) is.1 ∙ is.2.whole more high

    called_same : (more other : ℕ) → depth_of positions ≤ more → depth_of positions ≤ other → (name : List ℕ) → StandsAmong script positions name → IsSame script (size_of script more) (size_of script other) name
    called_same more other high low name stands =
        let is = called_settled name stands in
        ap (called_size (size_of script more)) is.1 ∙ ap above (is.2.same more high ∙ sym (is.2.same other low)) ∙ sym (ap (called_size (size_of script other)) is.1)

    new_settled : (depth : ℕ) (d : ProcDef) → depth_of positions ≤ depth → Calls positions d → IsSettled script (suc depth) d.body
    new_settled depth d high calls = record { whole = whole; same = same } where
      whole : (more : ℕ) → suc depth ≤ more → is_whole script more d.body ≡ true
      whole zero h = absurd (omega arith)
      whole (suc more) h = whole_by_calls script (is_whole script more) d.body (λ name is. called_whole more (omega arith) name (calls name is))

      same : (more : ℕ) → suc depth ≤ more → size_of script more d.body ≡ size_of script (suc depth) d.body
      same zero h = absurd (omega arith)
      same (suc more) h = same_size script (size_of script more) (size_of script depth) d.body (λ name is. called_same more depth (omega arith) high name (calls name is))

    settled_there : (last position : ℕ) → Contains positions position → IsSettledAt script (depth_of (positions ++ last ∷ [])) position
    settled_there last position is d at = later script (depth_of positions) (depth_of (positions ++ last ∷ [])) d.body (seen_more (length script.procs) positions last) (settled position is d at)

    settled_new : (last : ℕ) (d : ProcDef) → slice_get script.procs last ≡ Some d → Calls positions d → is_in positions last ≡ false → IsSettled script (depth_of (positions ++ last ∷ [])) d.body
    settled_new last d at calls new =
        let below : last < length script.procs = slice_get_within script.procs last d at in
        later script (suc (depth_of positions)) (depth_of (positions ++ last ∷ [])) d.body (seen_new (length script.procs) positions last below new)
        (new_settled (depth_of positions) d (omega arith) calls)

    settled_last : (last : ℕ) → ((d : ProcDef) → slice_get script.procs last ≡ Some d → Calls positions d) → IsSettledAt script (depth_of (positions ++ last ∷ [])) last
    settled_last last calls d at = step (is_in positions last) refl where
      step : (b : Bool) → is_in positions last ≡ b → IsSettled script (depth_of (positions ++ last ∷ [])) d.body
      step true e = settled_there last last (contained positions last e) d at
      step false e = settled_new last d at (calls d at) e

    more_settled : (last : ℕ) → ((d : ProcDef) → slice_get script.procs last ≡ Some d → Calls positions d) → AreSettled (positions ++ last ∷ [])
    more_settled last calls position is = step (Contains-push_cases positions last position is) where
      step : Contains positions position ⊎ (last ≡ position) → IsSettledAt script (depth_of (positions ++ last ∷ [])) position
      step (inl old) = settled_there last position old
      step (inr e) = subst (IsSettledAt script (depth_of (positions ++ last ∷ []))) e (settled_last last calls)

  module _ (order : List ℕ) (descends : Descends script order) where
    prefix_settled : (at : ℕ) → AreSettled (take at order)
    prefix_settled zero position is = absurd (omega (arith, is.1))
    prefix_settled (suc at) position is = step (slice_get_cases order at).1 (prefix_settled at) position is where
      step : OneOrNone order at → AreSettled (take at order) → AreSettled (take (suc at) order)
      step (inl h) ih =
          let more : take (suc at) order ≡ take at order ++ h.0 ∷ [] = take-suc order at h.0 h.1 ∙ ap (λ (p : ℕ). take at order ++ p ∷ []) h.3 in
          subst AreSettled (sym more) (more_settled (take at order) ih h.0 (λ d at_position name is. descends.behind at h.0 d name h.2 at_position is))
      step (inr h) ih =
          let long : length order ≤ suc at = omega arith in
          subst AreSettled (take_all at order h.0 ∙ sym (take_all (suc at) order long)) ih

    -- no depth beyond the number of processes matters
    settled_all : (position : ℕ) (d : ProcDef) → slice_get script.procs position ≡ Some d → IsSettled script (length script.procs) d.body
    settled_all position d at =
        let there : Contains order position = descends.complete position (slice_get_within script.procs position d at) in
        let all : AreSettled order = subst AreSettled (take-length order) (prefix_settled (length order)) in
        later script (depth_of order) (length script.procs) d.body (seen_at_most (length script.procs) order) (all position there d at)

    pub depth_is_enough : (position : ℕ) (d : ProcDef) → slice_get script.procs position ≡ Some d → (depth : ℕ) → length script.procs ≤ depth → size_of script depth d.body ≡ size_of script (length script.procs) d.body
    depth_is_enough position d at = (settled_all position d at).same

    pub all_whole : (position : ℕ) (d : ProcDef) → slice_get script.procs position ≡ Some d → is_whole script (length script.procs) d.body ≡ true
    all_whole position d at = (settled_all position d at).whole (length script.procs) (omega arith)
