use Rattle.std.proofs.Common.{◌≡◌, drop}
use Rattle.tb_index.specs.Helpers.Pairs.{is_in}
use Rattle.tb_index.proofs.slot.place_of.Given as goal

abbrev pub invariant-loop-place : goal.invariant-loop-place
invariant-loop-place l = is_in (drop l.place l.pairs) l.mark l.proc ≡ is_in l.pairs l.mark l.proc
