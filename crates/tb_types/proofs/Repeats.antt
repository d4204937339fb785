-- The processes that are defined twice, found with the positions of their names.
use Rattle.std.proofs.Common.{◌≡◌, ℕ, ◌+◌, ◌<◌, Bool, true, false, cond, List, ◌∷◌, ◌++◌, length, drop, get_or, Option, Some, None, refl, ap, sym, ◌∙◌, append_assoc}
use Rattle.std.specs.Prelude.{is_some}
use Rattle.std.specs.Str.{bytes_eq}
use Rattle.std.proofs.lemmas.List.{drop_more}
use Rattle.tb_syntax.specs.declared.script.ProcDef.{ProcDef}
use Rattle.tb_types.specs.declared.violation.Violation.{Violation}
use Rattle.tb_types.specs.declared.violation.Rule.TheVariants.{Twice}
use Rattle.tb_types.specs.Definitions.{or_seen, process_repeats}
use Rattle.tb_types.specs.NamePositions.{kept}
use Rattle.tb_types.specs.Violation.{noted_if}

some_kept : (o : Option ℕ) (b : Bool) (position : ℕ) → is_some (kept o b position) ≡ cond b true (is_some o)
some_kept (Some old) true position = refl
some_kept (Some old) false position = refl
some_kept None true position = refl
some_kept None false position = refl

-- the names that have positions, after one more name is kept
pub seen_kept : (old new : List ℕ → Option ℕ) (name : List ℕ) (position : ℕ) → ((other : List ℕ) → new other ≡ kept (old other) (bytes_eq name other) position)
    → ◌≡◌ {A = List ℕ → Bool} (λ other. is_some (new other)) (or_seen name (λ other. is_some (old other)))
seen_kept old new name position h = λ i other. (ap is_some (h other) ∙ some_kept (old other) (bytes_eq name other) position) i

-- the step of the loop: one more definition
pub repeats_more : (ds : List ProcDef) (at : ℕ) (d : ProcDef) (old new : List ℕ → Bool) (into more whole : List Violation) → at < length ds → d ≡ get_or ds at d
    → ◌≡◌ {A = List ℕ → Bool} new (or_seen d.name old) → more ≡ into ++ noted_if (old d.name) Twice d.token
    → into ++ process_repeats old (drop at ds) ≡ whole → more ++ process_repeats new (drop (at + 1) ds) ≡ whole
repeats_more ds at d old new into more whole within here seen noted e =
    let left : drop at ds ≡ d ∷ drop (at + 1) ds = drop_more ds at d within ∙ ap (λ (x : ProcDef). x ∷ drop (at + 1) ds) (sym here) in
    ap (λ (xs : List Violation). xs ++ process_repeats new (drop (at + 1) ds)) noted
    ∙ ap (λ (was : List ℕ → Bool). (into ++ noted_if (old d.name) Twice d.token) ++ process_repeats was (drop (at + 1) ds)) seen
    ∙ append_assoc into (noted_if (old d.name) Twice d.token) (process_repeats (or_seen d.name old) (drop (at + 1) ds))
    ∙ ap (λ (xs : List ProcDef). into ++ process_repeats old xs) (sym left)
    ∙ e
