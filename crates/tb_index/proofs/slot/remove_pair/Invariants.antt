use Rattle.std.proofs.Common.{◌≡◌, ◌||◌, ℕ, vec_len}
use Rattle.tb_index.specs.declared.mark.Mark.{Mark}
use Rattle.tb_index.specs.Helpers.Pairs.{is_in, is_pair}
use Rattle.tb_index.proofs.slot.remove_pair.Given as goal

abbrev pub invariant-loop-place : goal.invariant-loop-place
invariant-loop-place l = (other : Mark) (its : ℕ) →
    (is_in l.pairs.items other its || is_pair l.mark l.proc other its) ≡ (is_in l.initial.pairs.items other its || is_pair l.mark l.proc other its)

abbrev pub decreases-loop-place : goal.decreases-loop-place
decreases-loop-place l = vec_len l.pairs
