use Rattle.std.proofs.Common.{◌≡◌, ◌++◌, drop}
use Rattle.tb_search.specs.Candidates.{all_take, wanting, rows_of}
use Rattle.tb_search.proofs.wanting.wanting.Given as goal

-- the remaining processes decide whether there is capacity; the wanting processes are those so far, then those of the remaining ones
abbrev pub invariant-loop-index : goal.invariant-loop-index
invariant-loop-index g l =
    (all_take l.terms (rows_of (drop l.index l.all)) ≡ all_take l.terms (rows_of l.all))
    × (l.indices ++ wanting l.terms l.index (rows_of (drop l.index l.all)) ≡ wanting l.terms 0 (rows_of l.all))
