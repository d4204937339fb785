use Rattle.std.proofs.Common.{◌≡◌, ℕ, true, ◌⊎◌}
use Rattle.std.specs.BTreeSet.{contains}
use Rattle.std.specs.Ordering.{nat_cmp}
use Rattle.tb_index.specs.declared.mark.Mark.{Mark}
use Rattle.tb_index.specs.Helpers.Pairs.{in_many, is_among, is_wanted}
use Rattle.tb_index.proofs.gather.gather_many.Given as goal

-- each process with a wanted mark is added, or its pair is still to come; each pair to come is in the set
abbrev pub invariant-loop-pair : goal.invariant-loop-pair
invariant-loop-pair l =
    ((proc : ℕ) → contains nat_cmp l.initial.found proc ≡ true → contains nat_cmp l.found proc ≡ true)
    × ((mark : Mark) (proc : ℕ) → in_many l.many mark proc ≡ true → is_wanted l.sent mark ≡ true →
    (is_among mark proc l.pair-iterator ≡ true) ⊎ (contains nat_cmp l.found proc ≡ true))
    × ((proc : ℕ) → contains nat_cmp l.found proc ≡ true → (contains nat_cmp l.initial.found proc ≡ true) ⊎ ((mark : Mark) × (in_many l.many mark proc ≡ true) × (is_wanted l.sent mark ≡ true)))
    × ((mark : Mark) (proc : ℕ) → is_among mark proc l.pair-iterator ≡ true → in_many l.many mark proc ≡ true)
