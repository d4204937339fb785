use Rattle.std.proofs.Common.{◌≡◌, ℕ, ◌+◌, length}
use Rattle.tb_index.specs.declared.mark.Mark.{Mark}
use Rattle.tb_index.specs.Helpers.Pairs.{in_few}
use Rattle.tb_index.proofs.few.fill.Given as goal

abbrev pub invariant-loop : goal.invariant-loop
invariant-loop l =
    ((mark : Mark) (proc : ℕ) → in_few l.few.items mark proc ≡ in_few l.initial.few.items mark proc)
    × (length l.few.items ≡ length l.initial.few.items + l.counter)
