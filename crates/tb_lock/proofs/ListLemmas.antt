-- Lists that are read by index, of which one element changes, or to which one is appended.
use Rattle.std.proofs.Common.{◌≡◌, ◌≢◌, ◌⊎◌, ◌≤◌, ◌<◌, ◌+◌, ℕ, zero, suc, List, [], ◌∷◌, ◌++◌, length, get_or, set, sum_by, refl, sym, ap, ◌∙◌, subst, inl, inr, ⊎_elim, arith}
use Rattle.std.proofs.lemmas.List.Sums.{sum_by-set, sum_by-cons, get_or-le-sum_by}
use mathlib.Core.Logic.{dite}
use mathlib.Core.Option.{some, some-injective, some-ne-none}
use native.Mathlib.Decide.{ℕ_discrete}
use lib.ListN.{get_elem?}
use Rattle.atomic_table.proofs.Lists.{at_set, set_here, set_else, at_longer}

module _ {A : Type 0} where
  pub was_there : (xs : List A) (i : ℕ) (a : A) → get_elem? xs i ≡ some a → i < length xs
  was_there [] i a e = absurd (some-ne-none a (sym e))
  was_there (x ∷ xs) zero a e = omega arith
  was_there (x ∷ xs) (suc i) a e = let h = was_there xs i a e in omega arith

  pub was_read : (xs : List A) (i : ℕ) (a d : A) → get_elem? xs i ≡ some a → get_or xs i d ≡ a
  was_read [] i a d e = absurd (some-ne-none a (sym e))
  was_read (x ∷ xs) zero a d e = some-injective x a e
  was_read (x ∷ xs) (suc i) a d e = was_read xs i a d e

  -- a list has one element at an index
  pub same_there : (xs : List A) (i j : ℕ) (a b : A) → i ≡ j → get_elem? xs i ≡ some a → get_elem? xs j ≡ some b → a ≡ b
  same_there xs i j a b is one other = some-injective a b (sym one ∙ ap (get_elem? xs) is ∙ other)

  pub set_there : (xs : List A) (i : ℕ) (a b : A) → get_elem? xs i ≡ some a → get_elem? (set xs i b) i ≡ some b
  set_there xs i a b e = set_here xs i b (was_there xs i a e)

  pub sum_set : (f : A → ℕ) (xs : List A) (i : ℕ) (a b : A) → get_elem? xs i ≡ some a → sum_by f (set xs i b) + f a ≡ sum_by f xs + f b
  sum_set f xs i a b e = subst (λ (x : A). sum_by f (set xs i b) + f x ≡ sum_by f xs + f b) (was_read xs i a a e) (sum_by-set f xs i b a (was_there xs i a e))

  pub sum_at : (f : A → ℕ) (xs : List A) (i : ℕ) (a : A) → get_elem? xs i ≡ some a → f a ≤ sum_by f xs
  sum_at f xs i a e = subst (λ (x : A). f x ≤ sum_by f xs) (was_read xs i a a e) (get_or-le-sum_by f xs i a (was_there xs i a e))

  -- the values of two elements are together at most the sum of all
  pub sum_two : (f : A → ℕ) (xs : List A) (i j : ℕ) (a b : A) → i ≢ j → get_elem? xs i ≡ some a → get_elem? xs j ≡ some b → f a + f b ≤ sum_by f xs
  sum_two f [] i j a b apart one other = absurd (some-ne-none a (sym one))
  sum_two f (x ∷ xs) zero zero a b apart one other = absurd (apart refl)
  sum_two f (x ∷ xs) zero (suc j) a b apart one other =
      let is : x ≡ a = some-injective x a one in
      let more = sum_at f xs j b other in
      omega (arith, sum_by-cons f x xs, ap f is)
  sum_two f (x ∷ xs) (suc i) zero a b apart one other =
      let is : x ≡ b = some-injective x b other in
      let more = sum_at f xs i a one in
      omega (arith, sum_by-cons f x xs, ap f is)
  sum_two f (x ∷ xs) (suc i) (suc j) a b apart one other =
      let more = sum_two f xs i j a b (λ e. apart (ap suc e)) one other in
      omega (arith, sum_by-cons f x xs)

  pub sum_le_sum : (f g : A → ℕ) (xs : List A) → ((i : ℕ) (a : A) → get_elem? xs i ≡ some a → f a ≤ g a) → sum_by f xs ≤ sum_by g xs
  sum_le_sum f g [] each = omega arith
  sum_le_sum f g (x ∷ xs) each =
      let here = each 0 x refl in
      let more = sum_le_sum f g xs (λ i a e. each (suc i) a e) in
      omega (arith, sum_by-cons f x xs, sum_by-cons g x xs)

  -- a predicate of each element
  pub each_set : (Q : A → Type 0) (xs : List A) (i : ℕ) (b : A) → ((j : ℕ) (u : A) → j ≢ i → get_elem? xs j ≡ some u → Q u) → Q b →
      (j : ℕ) (u : A) → get_elem? (set xs i b) j ≡ some u → Q u
  each_set Q xs i b others here j u e =
      ⊎_elim (λ (t : (j ≡ i) × (b ≡ u)). subst Q t.1 here) (λ (t : (j ≢ i) × (get_elem? xs j ≡ some u)). others j u t.0 t.1) (at_set xs i j b u e)

  pub at_end : (xs : List A) (b u : A) (j : ℕ) → get_elem? (xs ++ b ∷ []) j ≡ some u → (get_elem? xs j ≡ some u) ⊎ ((j ≡ length xs) × (b ≡ u))
  at_end [] b u zero e = inr (refl, some-injective b u e)
  at_end [] b u (suc j) e = absurd (some-ne-none u (sym e))
  at_end (x ∷ xs) b u zero e = inl e
  at_end (x ∷ xs) b u (suc j) e = ⊎_elim inl (λ (t : (j ≡ length xs) × (b ≡ u)). inr (ap suc t.0, t.1)) (at_end xs b u j e)

  pub each_end : (Q : A → Type 0) (xs : List A) (b : A) → ((j : ℕ) (u : A) → get_elem? xs j ≡ some u → Q u) → Q b →
      (j : ℕ) (u : A) → get_elem? (xs ++ b ∷ []) j ≡ some u → Q u
  each_end Q xs b all here j u e =
      ⊎_elim (λ (t : get_elem? xs j ≡ some u). all j u t) (λ (t : (j ≡ length xs) × (b ≡ u)). subst Q t.1 here) (at_end xs b u j e)

  -- a relation between each two elements
  abbrev pub EachTwo : (A → A → Type 0) → List A → Type 0
  EachTwo R xs = (i j : ℕ) (u v : A) → i ≢ j → get_elem? xs i ≡ some u → get_elem? xs j ≡ some v → R u v

  module _ (R : A → A → Type 0) (swaps : (u v : A) → R u v → R v u) where
    pub pairs_set : (xs : List A) (i : ℕ) (b : A) → EachTwo R xs → ((j : ℕ) (u : A) → j ≢ i → get_elem? xs j ≡ some u → R b u) → EachTwo R (set xs i b)
    pairs_set xs i b all others j k u v apart one other =
        ⊎_elim
        (λ (s : (j ≡ i) × (b ≡ u)). ⊎_elim
        (λ (t : (k ≡ i) × (b ≡ v)). absurd (apart (s.0 ∙ sym t.0)))
        (λ (t : (k ≢ i) × (get_elem? xs k ≡ some v)). subst (λ (x : A). R x v) s.1 (others k v t.0 t.1))
        (at_set xs i k b v other))
        (λ (s : (j ≢ i) × (get_elem? xs j ≡ some u)). ⊎_elim
        (λ (t : (k ≡ i) × (b ≡ v)). subst (λ (x : A). R u x) t.1 (swaps b u (others j u s.0 s.1)))
        (λ (t : (k ≢ i) × (get_elem? xs k ≡ some v)). all j k u v apart s.1 t.1)
        (at_set xs i k b v other))
        (at_set xs i j b u one)

    pub pairs_end : (xs : List A) (b : A) → EachTwo R xs → ((j : ℕ) (u : A) → get_elem? xs j ≡ some u → R b u) → EachTwo R (xs ++ b ∷ [])
    pairs_end xs b all others j k u v apart one other =
        ⊎_elim
        (λ (s : get_elem? xs j ≡ some u). ⊎_elim
        (λ (t : get_elem? xs k ≡ some v). all j k u v apart s t)
        (λ (t : (k ≡ length xs) × (b ≡ v)). subst (λ (x : A). R u x) t.1 (swaps b u (others j u s)))
        (at_end xs b v k other))
        (λ (s : (j ≡ length xs) × (b ≡ u)). ⊎_elim
        (λ (t : get_elem? xs k ≡ some v). subst (λ (x : A). R x v) s.1 (others k v t))
        (λ (t : (k ≡ length xs) × (b ≡ v)). absurd (apart (s.0 ∙ sym t.0)))
        (at_end xs b v k other))
        (at_end xs b u j one)

  -- a predicate of some element
  abbrev pub SomeOf : (A → Type 0) → List A → Type 0
  SomeOf P xs = (i : ℕ) × (a : A) × (get_elem? xs i ≡ some a) × P a

  pub any_set : (P : A → Type 0) (xs : List A) (i : ℕ) (a b : A) → get_elem? xs i ≡ some a → (P a → P b) → SomeOf P xs → SomeOf P (set xs i b)
  any_set P xs i a b e goes it =
      dite (ℕ_discrete it.0 i)
      (λ same. (i, b, set_there xs i a b e, goes (subst P (same_there xs it.0 i it.1 a same it.2 e) it.3)))
      (λ other. (it.0, it.1, set_else xs i it.0 b other ∙ it.2, it.3))

  pub any_here : (P : A → Type 0) (xs : List A) (i : ℕ) (a b : A) → get_elem? xs i ≡ some a → P b → SomeOf P (set xs i b)
  any_here P xs i a b e holds = (i, b, set_there xs i a b e, holds)

  pub any_end : (P : A → Type 0) (xs : List A) (b : A) → SomeOf P xs → SomeOf P (xs ++ b ∷ [])
  any_end P xs b it = (it.0, it.1, at_longer xs (b ∷ []) it.0 it.1 it.2, it.3)

  -- two elements of the list change: a predicate of some element remains if it carries over from each old element to the new one
  pub any_two : (P : A → Type 0) (xs : List A) (i j : ℕ) (a b c d : A) → j ≢ i → get_elem? xs i ≡ some a → get_elem? xs j ≡ some b → (P a → P c) → (P b → P c) → SomeOf P xs → SomeOf P (set (set xs i c) j d)
  any_two P xs i j a b c d apart one other goes comes it =
      let here : get_elem? (set (set xs i c) j d) i ≡ some c = set_else (set xs i c) j i d (λ e. apart (sym e)) ∙ set_there xs i a c one in
      dite (ℕ_discrete it.0 i)
      (λ same. (i, c, here, goes (subst P (same_there xs it.0 i it.1 a same it.2 one) it.3)))
      (λ not_i. dite (ℕ_discrete it.0 j)
      (λ same. (i, c, here, comes (subst P (same_there xs it.0 j it.1 b same it.2 other) it.3)))
      (λ not_j. (it.0, it.1, set_else (set xs i c) j it.0 d not_j ∙ set_else xs i it.0 c not_i ∙ it.2, it.3)))
