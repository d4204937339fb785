-- The memory that a lane keeps.
use Rattle.std.specs.Prelude.{◌≡◌, ◌≤◌, ◌+◌, Bool, false}
use Rattle.std.specs.declared.collections.VecDeque.{VecDeque}
use Rattle.std.specs.VecDeque.{deque_len, deque_capacity}

-- A lane always has capacity for its end. If it hasn't ended, it has capacity for a last line and its end in addition to the queued
-- items.
pub record KeepsRoom {A Z : Type 0} (ended : Bool) (outs : VecDeque A Z) : Type 0 where
  pub last : 1 ≤ deque_capacity outs
  pub more : ended ≡ false → deque_len outs + 2 ≤ deque_capacity outs
