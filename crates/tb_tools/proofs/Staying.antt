-- A change of one lane leaves the others, and what it keeps of its own tool.
use Rattle.std.proofs.Common.{◌≡◌, ◌≢◌, ◌⊎◌, inl, inr, ℕ, zero, suc, ◌-◌, ◌<◌, List, [], ◌∷◌, length, get_or, set, refl, ap, arith}
use Rattle.std.proofs.lemmas.List.{get_or-set_other, get_or-set_same}
use Rattle.tb_log.specs.Shapes.{IsLane}
use Rattle.tb_tools.specs.Lanes.{Lane, BenchState, unused, lane_at, with_lane, on_lane}
use Rattle.tb_tools.specs.Numbers.{OthersStay}

pub with_lane-other : (lane other : ℕ) (new : Lane) (bench : BenchState) → IsLane lane → IsLane other → other ≢ lane → lane_at other (with_lane lane new bench) ≡ lane_at other bench
with_lane-other lane other new bench l o apart =
    let places : other - 1 ≢ lane - 1 = λ e. apart (omega (arith, l.0, o.0)) in
    get_or-set_other bench.lanes (lane - 1) (other - 1) new unused places

pub on_lane-others : (change : Lane → Lane) → OthersStay (on_lane change)
on_lane-others change lane other bench l o apart = with_lane-other lane other (change (lane_at lane bench)) bench l o apart

-- the element at one position after a write to another or the same
set-or : {A : Type 0} (xs : List A) (i k : ℕ) (new d : A) → (get_or (set xs i new) k d ≡ get_or xs k d) ⊎ ((get_or (set xs i new) k d ≡ new) × (k ≡ i))
set-or [] i k new d = inl refl
set-or (x ∷ xs) zero zero new d = inr (refl, refl)
set-or (x ∷ xs) zero (suc k) new d = inl refl
set-or (x ∷ xs) (suc i) zero new d = inl refl
set-or (x ∷ xs) (suc i) (suc k) new d = by (set-or xs i k new d)
  where
    by : (get_or (set xs i new) k d ≡ get_or xs k d) ⊎ ((get_or (set xs i new) k d ≡ new) × (k ≡ i)) → (get_or (set xs i new) k d ≡ get_or xs k d) ⊎ ((get_or (set xs i new) k d ≡ new) × (suc k ≡ suc i))
    by (inl e) = inl e
    by (inr h) = inr (h.0, ap suc h.1)

-- a lane after a change of one: it is as before, or it is that one
pub with_lane-or : (lane other : ℕ) (new : Lane) (bench : BenchState) → (lane_at other (with_lane lane new bench) ≡ lane_at other bench) ⊎ ((lane_at other (with_lane lane new bench) ≡ new) × (other - 1 ≡ lane - 1))
with_lane-or lane other new bench = set-or bench.lanes (lane - 1) (other - 1) new unused

-- the lane that is changed, where it is there
pub on_lane-same : (change : Lane → Lane) (lane : ℕ) (bench : BenchState) → lane - 1 < length bench.lanes → lane_at lane (on_lane change lane bench) ≡ change (lane_at lane bench)
on_lane-same change lane bench l = get_or-set_same bench.lanes (lane - 1) (change (lane_at lane bench)) unused l
