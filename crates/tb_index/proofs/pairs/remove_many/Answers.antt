use Rattle.tb_index.proofs.PairLemmas as pairs
use Rattle.tb_index.proofs.pairs.remove_many.Goals as goal

pub returns : goal.returns
returns c = λ other its. pairs.removed-by _ _ _ _ (c.remove.ensures.updates.0 (other.count, other.head, its)) (pairs.same-triple c.args.mark.count c.args.mark.head c.args.proc other.count other.head its)
