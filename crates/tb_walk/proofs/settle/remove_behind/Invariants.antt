use Rattle.std.proofs.Common.{◌≡◌, ◌+◌, ◌++◌, take, drop}
use Rattle.tb_walk.proofs.settle.remove_behind.Given as goal

-- so many have gone behind the branch
abbrev pub invariant-loop-turn : goal.invariant-loop-turn
invariant-loop-turn l = l.row ≡ take (l.fn.at + 1) l.fn.row ++ drop (l.fn.at + 1 + l._turn) l.fn.row
