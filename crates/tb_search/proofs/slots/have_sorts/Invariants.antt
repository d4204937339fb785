use Rattle.std.proofs.Common.{◌≡◌, drop}
use Rattle.tb_body.specs.Programs.{have_sorts}
use Rattle.tb_search.proofs.slots.have_sorts.Given as goal

-- the remaining terms determine the result
abbrev pub invariant-loop-place : goal.invariant-loop-place
invariant-loop-place l = have_sorts (drop l.place l.sorts) (drop l.place l.terms) ≡ have_sorts l.sorts l.terms
