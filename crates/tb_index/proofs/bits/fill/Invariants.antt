use Rattle.std.proofs.Common.{◌≡◌, ℕ, ◌+◌, length, slice_index}
use Rattle.tb_index.proofs.bits.fill.Given as goal

abbrev pub invariant-loop : goal.invariant-loop
invariant-loop l =
    ((word : ℕ) → slice_index l.words.items word ≡ slice_index l.initial.words.items word)
    × (length l.words.items ≡ length l.initial.words.items + l.counter)
