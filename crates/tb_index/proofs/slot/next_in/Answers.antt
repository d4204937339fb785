use Rattle.std.proofs.Common.{◌+◌, take, sym, subst}
use Rattle.tb_index.specs.declared.slot.Pair.{Pair}
use Rattle.tb_index.specs.Helpers.Pairs.{is_in, is_of, IsFirst}
use Rattle.tb_index.proofs.PairLemmas as pairs
use Rattle.tb_index.proofs.slot.next_in.Goals as goal

pub loop-pair-preserved : goal.loop-pair-preserved
loop-pair-preserved c = subst (λ found. IsFirst (is_in (take (c.loop-pair.pair-index + 1) c.args.pairs.now) c.args.mark) c.args.from found) (sym c.earlier-found.ensures)
    (pairs.first-more (λ (pair : Pair) proc. is_of c.args.mark proc pair) c.args.pairs.now c.loop-pair.pair-index (record { mark = record { count = 0; head = 0 }; proc = 0 }) c.args.from c.loop-pair.found c.proc_of.result c.loop-pair-test.true c.loop-pair.invariant c.proc_of.ensures)
