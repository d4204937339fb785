-- Lemmas: types and terms from a position on.
use Rattle.std.proofs.Common.{◌≡◌, ℕ, ◌<◌, ◌≤◌, suc, false, ◌&&◌, List, [], ◌∷◌, Option, Some, None, length, drop, get_or, slice_get, refl, ap, sym, ◌∙◌, ◌⊎◌, inl, inr}
use Rattle.std.proofs.Math.Seq.{drop-cons}
use Rattle.std.proofs.lemmas.List.{drop_all}
use Rattle.std.proofs.lemmas.Option.{slice_get_cases, slice_get_within, get_or_from_slice_get}
use Rattle.tb_terms.specs.declared.term.Term.{Term}
use Rattle.tb_terms.specs.declared.sort.Sort.{Sort}
use Rattle.tb_terms.specs.Sorts.{has_sort}
use Rattle.tb_body.specs.Programs.{have_sorts}

module _ (sorts : List Sort) (terms : List Term) (k : ℕ) (term : Term) (within : k < length terms) (is : term ≡ get_or terms k term) where
  here : drop k terms ≡ term ∷ drop (suc k) terms
  here = drop-cons terms k term within ∙ ap (λ (t : Term). t ∷ drop (suc k) terms) (sym is)

  pub have_sorts_from : (sort : Sort) → slice_get sorts k ≡ Some sort →
      have_sorts (drop k sorts) (drop k terms) ≡ (has_sort term sort && have_sorts (drop (suc k) sorts) (drop (suc k) terms))
  have_sorts_from sort found =
      let first : drop k sorts ≡ sort ∷ drop (suc k) sorts = drop-cons sorts k sort (slice_get_within sorts k sort found) ∙ ap (λ (s : Sort). s ∷ drop (suc k) sorts) (get_or_from_slice_get sorts k sort sort found) in
      ap (λ (xs : List Sort). have_sorts xs (drop k terms)) first
      ∙ ap (λ (ys : List Term). have_sorts (sort ∷ drop (suc k) sorts) ys) here

  past : (((x : Sort) × (k < length sorts) × (slice_get sorts k ≡ Some x) × (get_or sorts k x ≡ x)) ⊎ ((length sorts ≤ k) × (slice_get sorts k ≡ None))) → slice_get sorts k ≡ None → length sorts ≤ k
  past (inl (x, within, found, is)) e = absurd (let t : ◌≡◌ {A = Option Sort} (Some x) None = sym found ∙ e in cc)
  past (inr (over, missing)) e = over

  pub have_no_sort : slice_get sorts k ≡ None → have_sorts (drop k sorts) (drop k terms) ≡ false
  have_no_sort missing =
      ap (λ (xs : List Sort). have_sorts xs (drop k terms)) (drop_all k sorts (past (slice_get_cases sorts k).1 missing))
      ∙ ap (λ (ys : List Term). have_sorts [] ys) here
