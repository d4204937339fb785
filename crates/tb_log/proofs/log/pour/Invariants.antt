use Rattle.std.proofs.Common.{◌≡◌, ◌≤◌, ◌+◌, ◌++◌, length, reverse, vec_len, vec_capacity}
use Rattle.tb_log.proofs.log.pour.Given as goal

-- the remaining terms are still to be added, the last one first
abbrev pub invariant-loop-term : goal.invariant-loop-term
invariant-loop-term l = record {
  poured : l.into.items ++ reverse l.terms ≡ l.initial.into.items ++ reverse l.initial.terms;
  room : vec_len l.into + length l.terms ≤ vec_capacity l.into;
}

abbrev pub decreases-loop-term : goal.decreases-loop-term
decreases-loop-term l = length l.terms
