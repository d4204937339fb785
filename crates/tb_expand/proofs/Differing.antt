-- Positions that differ, and paths.
use Rattle.std.proofs.Common.{◌≡◌, ℕ, ◌⊎◌, inl, inr, List, [], ◌∷◌, ◌++◌, Contains, sym, subst}
use Rattle.std.proofs.lemmas.List.Elements.{Contains-push, Contains-push_cases, Contains-append_left, Contains-append_right, Contains-append_cases}
use Rattle.tb_expand.specs.Helpers.Graphs.{Graph, next_positions, AllDiffer, IsGraphPath}
use Rattle.tb_expand.specs.Helpers.Walks.{LeadsOn, IsWay}
use Rattle.tb_expand.proofs.Readings.{none_in, contains_here, contains_there, contains_cases}

pub differ_prefix : (positions : List ℕ) (position : ℕ) → AllDiffer (positions ++ position ∷ []) → AllDiffer positions × (Contains positions position → ⊥)
differ_prefix [] position d = (tt, none_in position)
differ_prefix (first ∷ positions) position d = step (differ_prefix positions position d.1) where
  step : AllDiffer positions × (Contains positions position → ⊥) → AllDiffer (first ∷ positions) × (Contains (first ∷ positions) position → ⊥)
  step r = ((λ c. d.0 (Contains-append_left positions (position ∷ []) first c), r.0), λ c. split (contains_cases first positions position c)) where
    split : (first ≡ position) ⊎ Contains positions position → ⊥
    split (inl e) = d.0 (subst (λ (p : ℕ). Contains (positions ++ position ∷ []) p) (sym e) (Contains-push positions position))
    split (inr c) = r.1 c

pub differ_push : (positions : List ℕ) (position : ℕ) → AllDiffer positions → (Contains positions position → ⊥) → AllDiffer (positions ++ position ∷ [])
differ_push [] position d n = (none_in position, tt)
differ_push (first ∷ positions) position d n = (λ c. split (Contains-push_cases positions position first c), differ_push positions position d.1 (λ c. n (contains_there first positions position c))) where
  split : Contains positions first ⊎ (position ≡ first) → ⊥
  split (inl c) = d.0 c
  split (inr e) = n (subst (λ (p : ℕ). Contains (first ∷ positions) p) (sym e) (contains_here first positions))

-- what stands behind others
pub differ_behind : (prefix back : List ℕ) → AllDiffer (prefix ++ back) → AllDiffer back
differ_behind [] back d = d
differ_behind (position ∷ prefix) back d = differ_behind prefix back d.1

pub differ_before : (prefix back : List ℕ) → AllDiffer (prefix ++ back) → AllDiffer prefix
differ_before [] back d = tt
differ_before (position ∷ prefix) back d = (λ c. d.0 (Contains-append_left prefix back position c), differ_before prefix back d.1)

pub differ_apart : (prefix back : List ℕ) → AllDiffer (prefix ++ back) → (position : ℕ) → Contains prefix position → Contains back position → ⊥
differ_apart [] back d position c b = none_in position c
differ_apart (first ∷ prefix) back d position c b = split (contains_cases first prefix position c) (λ i. differ_apart prefix back d.1 position i b) where
  split : (first ≡ position) ⊎ Contains prefix position → (Contains prefix position → ⊥) → ⊥
  split (inl e) apart = d.0 (subst (λ (p : ℕ). Contains (prefix ++ back) p) (sym e) (Contains-append_right prefix back position b))
  split (inr i) apart = apart i

pub differ_joined : (prefix back : List ℕ) → AllDiffer prefix → AllDiffer back → ((position : ℕ) → Contains prefix position → Contains back position → ⊥) → AllDiffer (prefix ++ back)
differ_joined [] back f b n = b
differ_joined (first ∷ prefix) back f b n =
    (λ c. split (Contains-append_cases prefix back first c), differ_joined prefix back f.1 b (λ p c d. n p (contains_there first prefix p c) d)) where
      split : Contains prefix first ⊎ Contains back first → ⊥
      split (inl c) = f.0 c
      split (inr c) = n first (contains_here first prefix) c

pub differ_turned : (prefix back : List ℕ) → AllDiffer (prefix ++ back) → AllDiffer (back ++ prefix)
differ_turned prefix back d = differ_joined back prefix (differ_behind prefix back d) (differ_before prefix back d) (λ p b f. differ_apart prefix back d p f b)

leads_after_prefix : (graph : Graph) (from : ℕ) (positions : List ℕ) (position : ℕ) → LeadsOn graph from (positions ++ position ∷ []) → LeadsOn graph from positions
leads_after_prefix graph from [] position l = tt
leads_after_prefix graph from (next ∷ positions) position l = (l.0, leads_after_prefix graph next positions position l.1)

pub way_prefix : (graph : Graph) (positions : List ℕ) (position : ℕ) → IsWay graph (positions ++ position ∷ []) → IsWay graph positions
way_prefix graph [] position l = tt
way_prefix graph (first ∷ positions) position l = leads_after_prefix graph first positions position l

leads_push : (graph : Graph) (from : ℕ) (positions : List ℕ) (position next : ℕ) → LeadsOn graph from (positions ++ position ∷ []) → Contains (next_positions graph position) next
    → LeadsOn graph from ((positions ++ position ∷ []) ++ next ∷ [])
leads_push graph from [] position next l c = (l.0, (c, tt))
leads_push graph from (first ∷ positions) position next l c = (l.0, leads_push graph first positions position next l.1 c)

pub way_push : (graph : Graph) (positions : List ℕ) (position next : ℕ) → IsWay graph (positions ++ position ∷ []) → Contains (next_positions graph position) next
    → IsWay graph ((positions ++ position ∷ []) ++ next ∷ [])
way_push graph [] position next l c = (c, tt)
way_push graph (first ∷ positions) position next l c = leads_push graph first positions position next l c

way_one : (graph : Graph) (from : ℕ) (positions : List ℕ) → LeadsOn graph from positions → IsWay graph positions
way_one graph from [] l = tt
way_one graph from (next ∷ positions) l = l.1

pub way_behind : (graph : Graph) (prefix back : List ℕ) → IsWay graph (prefix ++ back) → IsWay graph back
way_behind graph [] back l = l
way_behind graph (first ∷ prefix) back l = way_behind graph prefix back (way_one graph first (prefix ++ back) l)

-- a way that ends where it comes back to
pub leads_back : (graph : Graph) (back from : ℕ) (positions : List ℕ) → LeadsOn graph from (positions ++ back ∷ []) → IsGraphPath graph back from positions
leads_back graph back from [] l = l.0
leads_back graph back from (next ∷ positions) l = (l.0, leads_back graph back next positions l.1)

path_before : (graph : Graph) (back from : ℕ) (prefix : List ℕ) (position : ℕ) (others : List ℕ) → IsGraphPath graph back from (prefix ++ position ∷ others) → IsGraphPath graph position from prefix
path_before graph back from [] position others l = l.0
path_before graph back from (next ∷ prefix) position others l = (l.0, path_before graph back next prefix position others l.1)

path_behind : (graph : Graph) (back from : ℕ) (prefix : List ℕ) (position : ℕ) (others : List ℕ) → IsGraphPath graph back from (prefix ++ position ∷ others) → IsGraphPath graph back position others
path_behind graph back from [] position others l = l.1
path_behind graph back from (next ∷ prefix) position others l = path_behind graph back next prefix position others l.1

path_joined : (graph : Graph) (back from : ℕ) (prefix : List ℕ) (position : ℕ) (others : List ℕ) → IsGraphPath graph position from prefix → IsGraphPath graph back position others
    → IsGraphPath graph back from (prefix ++ position ∷ others)
path_joined graph back from [] position others l m = (l, m)
path_joined graph back from (next ∷ prefix) position others l m = (l.0, path_joined graph back next prefix position others l.1 m)

-- a path from another of its positions on
pub path_turned : (graph : Graph) (first : ℕ) (prefix : List ℕ) (position : ℕ) (others : List ℕ) → IsGraphPath graph first first (prefix ++ position ∷ others)
    → IsGraphPath graph position position (others ++ first ∷ prefix)
path_turned graph first prefix position others l =
    path_joined graph position position others first prefix (path_behind graph first first prefix position others l) (path_before graph first first prefix position others l)
