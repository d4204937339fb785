-- Each call leaves an inbox in order.
use Rattle.std.proofs.Common.{◌≡◌, Bool, true, false, ◌&&◌, if◌then◌else◌, List, [], ◌∷◌, ◌++◌, IsTrue, refl, ap, sym, ◌∙◌, arith}
use Rattle.std.specs.List.{list_all, IsDistinct, AllByRecursion}
use Rattle.std.specs.Cmp.{IsEquivalence}
use Rattle.std.proofs.lemmas.List.Folds.{list_all-append}
use Rattle.std.proofs.lemmas.Map.Keys.{IsDistinct-head, IsDistinct-tail, IsDistinct-cons, IsDistinct-push, IsDistinct-from_apart}
use Rattle.tb_terms.specs.declared.term.Term.{Term}
use Rattle.tb_terms.specs.declared.pattern.Pattern.{Pattern}
use Rattle.tb_terms.proofs.SameLemmas.{both-true, is_same-refl, is_same-sound}
use Rattle.tb_match.specs.Matches.{are_plain}
use Rattle.tb_notes.specs.Inboxes.{is_same_patterns, is_among, without, IsInOrder}
use Rattle.tb_notes.proofs.Walking.{patterns_code}

abbrev Subscriptions : Type 0
Subscriptions = List (List Pattern)

abbrev Notes : Type 0
Notes = List (List Term)

true-both : (a b : Bool) → a ≡ true → b ≡ true → (a && b) ≡ true
true-both a b e f = rw (e, f) refl

both-ways : (a b : Bool) → (a ≡ true → b ≡ true) → (b ≡ true → a ≡ true) → a ≡ b
both-ways true true h k = refl
both-ways true false h k = sym (h refl)
both-ways false true h k = k refl
both-ways false false h k = refl

flipped : (x y : List Pattern) → is_same_patterns x y ≡ true → is_same_patterns y x ≡ true
flipped x y h = ap (λ (z : List Pattern). is_same_patterns z x) (sym (is_same-sound patterns_code x y h)) ∙ is_same-refl patterns_code x

-- equality of patterns is an equivalence
pub same_patterns-equiv : IsEquivalence is_same_patterns
same_patterns-equiv = record {
  refl = λ x. is_same-refl patterns_code x;
  symm = λ x y. both-ways (is_same_patterns x y) (is_same_patterns y x) (flipped x y) (flipped y x);
  congr = λ x y z h. ap (λ (w : List Pattern). is_same_patterns w z) (is_same-sound patterns_code x y h);
}

pub nothing-in_order : (xs : Subscriptions) (notes : Notes) → xs ≡ [] → notes ≡ [] → IsInOrder (record { subscriptions = xs; notes = notes })
nothing-in_order xs notes e f = rw (e, f) (record {
  plain = refl;
  distinct = IsDistinct-from_apart is_same_patterns [] (λ i j d h l. absurd (omega arith));
  within = omega arith;
})

pub added-in_order : (ps : List Pattern) (xs ys : Subscriptions) (notes : Notes) → IsInOrder (record { subscriptions = xs; notes = notes })
    → IsTrue (are_plain ps) → is_among ps xs ≡ false → ys ≡ xs ++ ps ∷ [] → IsInOrder (record { subscriptions = ys; notes = notes })
added-in_order ps xs ys notes order plain absent e = rw e (record {
  plain = list_all-append are_plain xs (ps ∷ []) ∙ true-both (list_all are_plain xs) (are_plain ps && true) order.plain (true-both (are_plain ps) true plain refl);
  distinct = IsDistinct-push same_patterns-equiv xs ps order.distinct absent;
  within = order.within;
})

without-plain : (ps : List Pattern) (xs : Subscriptions) → IsTrue (list_all are_plain xs) → IsTrue (list_all are_plain (without ps xs))
without-plain ps [] h = h
without-plain ps (x ∷ xs) h =
    let t = both-true (are_plain x) (list_all are_plain xs) h in
    elim (is_same_patterns ps x) as (λ b. IsTrue (list_all are_plain (if b then xs else x ∷ without ps xs)))
    [ true ↦ t.1 | false ↦ true-both (are_plain x) (list_all are_plain (without ps xs)) t.0 (without-plain ps xs t.1) ]

without-all : (P : List Pattern → Type 0) (ps : List Pattern) (xs : Subscriptions) → AllByRecursion P xs → AllByRecursion P (without ps xs)
without-all P ps [] h = h
without-all P ps (x ∷ xs) h =
    elim (is_same_patterns ps x) as (λ b. AllByRecursion P (if b then xs else x ∷ without ps xs))
    [ true ↦ h.1 | false ↦ (h.0, without-all P ps xs h.1) ]

without-distinct : (ps : List Pattern) (xs : Subscriptions) → IsDistinct is_same_patterns xs → IsDistinct is_same_patterns (without ps xs)
without-distinct ps [] h = h
without-distinct ps (x ∷ xs) h =
    elim (is_same_patterns ps x) as (λ b. IsDistinct is_same_patterns (if b then xs else x ∷ without ps xs)) [
      | true ↦ IsDistinct-tail is_same_patterns x xs h
      | false ↦ IsDistinct-cons is_same_patterns x (without ps xs)
          (without-all (λ y. is_same_patterns x y ≡ false) ps xs (IsDistinct-head is_same_patterns x xs h))
          (without-distinct ps xs (IsDistinct-tail is_same_patterns x xs h))
    ]

pub removed-in_order : (ps : List Pattern) (xs ys : Subscriptions) (notes : Notes) → IsInOrder (record { subscriptions = xs; notes = notes })
    → ys ≡ without ps xs → IsInOrder (record { subscriptions = ys; notes = notes })
removed-in_order ps xs ys notes order e = rw e (record {
  plain = without-plain ps xs order.plain;
  distinct = without-distinct ps xs order.distinct;
  within = order.within;
})
