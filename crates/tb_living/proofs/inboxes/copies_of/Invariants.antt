use Rattle.std.proofs.Common.{◌≡◌, length}
use Rattle.std.specs.List.{All}
use Rattle.tb_living.proofs.inboxes.copies_of.Given as goal

abbrev pub invariant-loop-made : goal.invariant-loop-made
invariant-loop-made l = (length l.copies.items ≡ l._made) × All (λ copy. copy ≡ l.note) l.copies.items
