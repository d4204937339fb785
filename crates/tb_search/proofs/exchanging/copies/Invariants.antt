use Rattle.std.proofs.Common.{◌≡◌, take}
use Rattle.tb_search.proofs.exchanging.copies.Given as goal

-- the copies so far
abbrev pub invariant-loop-term : goal.invariant-loop-term
invariant-loop-term l = l.copies ≡ take l.term-index l.terms
