-- A tick for the running processes, one after another.
use Rattle.std.proofs.Common.{◌≡◌, ◌<◌, ◌+◌, ℕ, zero, suc, List, [], ◌∷◌, ◌++◌, append-nil, length, drop, take, get_or, refl, ap, sym, subst, ◌∙◌, arith, Some, slice_get, slice_set}
use Rattle.std.specs.Bool.{⊤}
use Rattle.std.specs.List.{All}
use Rattle.std.proofs.lemmas.Option.{slice_get-get_or}
use Rattle.std.proofs.lemmas.List.{drop_all, take_all}
use Rattle.tb_process_steps.specs.WalkerViews.{View}
use Rattle.tb_search.specs.declared.living.Living.{Living}
use Rattle.tb_living.specs.Ticking.{AreTicked, CanTick, IsTicked}
use Rattle.tb_living.proofs.ReadLemmas.{all-there}

-- those in front of an index are a tick older, and the others are as they were
abbrev pub AreTickedBelow : {W P T : Type 0} → View P W T → List P → ℕ → List (Living W) → List (Living W) → Type 0
AreTickedBelow view plans zero olds news = news ≡ olds
AreTickedBelow view plans (suc at) [] [] = ⊤
AreTickedBelow view plans (suc at) [] (new ∷ news) = ⊥
AreTickedBelow view plans (suc at) (old ∷ olds) [] = ⊥
AreTickedBelow view plans (suc at) (old ∷ olds) (new ∷ news) = IsTicked view plans old new × AreTickedBelow view plans at olds news

-- the one at the index is as it was
pub still-there : {W P T : Type 0} (view : View P W T) (plans : List P) (at : ℕ) (olds news : List (Living W)) → AreTickedBelow view plans at olds news → slice_get news at ≡ slice_get olds at
still-there view plans zero olds news h = ap (λ all. slice_get all zero) h
still-there view plans (suc at) [] [] h = refl
still-there view plans (suc at) [] (new ∷ news) h = absurd h
still-there view plans (suc at) (old ∷ olds) [] h = absurd h
still-there view plans (suc at) (old ∷ olds) (new ∷ news) h = still-there view plans at olds news h.1

pub next-there : {W P T : Type 0} (view : View P W T) (plans : List P) (at : ℕ) (olds news : List (Living W)) (d : Living W) → AreTickedBelow view plans at olds news → at < length news → slice_get olds at ≡ Some (get_or news at d)
next-there view plans at olds news d h within = sym (still-there view plans at olds news h) ∙ slice_get-get_or news at d within

pub can-next : {W P T : Type 0} (view : View P W T) (plans : List P) (at : ℕ) (olds news : List (Living W)) (d : Living W) → All (CanTick view plans) olds → AreTickedBelow view plans at olds news → at < length news → CanTick view plans (get_or news at d)
can-next view plans at olds news d can h within = all-there (CanTick view plans) olds at (get_or news at d) can (next-there view plans at olds news d h within)

first-ticked : {W P T : Type 0} (view : View P W T) (plans : List P) (olds : List (Living W)) (old new : Living W) → slice_get olds zero ≡ Some old → IsTicked view plans old new → AreTickedBelow view plans 1 olds (slice_set olds zero new)
first-ticked view plans [] old new here t = cc
first-ticked view plans (first ∷ olds) old new here t =
    let same : first ≡ old = cc in
    (subst (λ (l : Living _). IsTicked view plans l new) (sym same) t, refl)

-- and may be the next
pub ticked-more : {W P T : Type 0} (view : View P W T) (plans : List P) (at : ℕ) (olds news : List (Living W)) (old new : Living W) → AreTickedBelow view plans at olds news → slice_get olds at ≡ Some old → IsTicked view plans old new →
    AreTickedBelow view plans (suc at) olds (slice_set news at new)
ticked-more view plans zero olds news old new h here t =
    subst (λ all. AreTickedBelow view plans 1 olds (slice_set all zero new)) (sym h) (first-ticked view plans olds old new here t)
ticked-more view plans (suc at) [] news old new h here t = cc
ticked-more view plans (suc at) (first ∷ olds) [] old new h here t = absurd h
ticked-more view plans (suc at) (first ∷ olds) (its ∷ news) old new h here t = (h.0, ticked-more view plans at olds news old new h.1 here t)

-- what was written is what stands there
pub written : {A : Type 0} (xs ys : List A) (n : ℕ) → length ys ≡ length xs → n ≡ length xs → take n (ys ++ drop (length ys) xs) ≡ ys
written xs ys n e f =
    ap (λ zs. take n (ys ++ zs)) (drop_all (length ys) xs (omega arith)) ∙ ap (take n) (append-nil ys) ∙ take_all n ys (omega arith)

none-left : {W P T : Type 0} (view : View P W T) (plans : List P) (news : List (Living W)) → news ≡ [] → AreTicked view plans [] news
none-left view plans news e = subst (AreTicked view plans []) (sym e) tt

pub all-ticked : {W P T : Type 0} (view : View P W T) (plans : List P) (olds news : List (Living W)) → AreTickedBelow view plans (length olds) olds news → AreTicked view plans olds news
all-ticked view plans [] news h = none-left view plans news h
all-ticked view plans (old ∷ olds) [] h = absurd h
all-ticked view plans (old ∷ olds) (new ∷ news) h = (h.0, all-ticked view plans olds news h.1)
