use Rattle.std.proofs.Common.{◌≡◌, drop}
use Rattle.tb_index.specs.Helpers.Pairs.{is_in}
use Rattle.tb_index.proofs.slot.has_pair.Given as goal

abbrev pub invariant-loop-pair : goal.invariant-loop-pair
invariant-loop-pair l = is_in (drop l.pair-index l.pairs) l.mark l.proc ≡ is_in l.pairs l.mark l.proc
