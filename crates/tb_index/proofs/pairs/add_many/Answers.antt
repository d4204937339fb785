use Rattle.tb_index.proofs.PairLemmas as pairs
use Rattle.tb_index.proofs.pairs.add_many.Goals as goal

pub returns-clause-added : goal.returns-clause-added
returns-clause-added c = λ other its. pairs.added-by _ _ _ _ (c.in_ok-insert.ensures.updates.0 (other.count, other.head, its)) (pairs.same-triple c.args.mark.count c.args.mark.head c.args.proc other.count other.head its)
