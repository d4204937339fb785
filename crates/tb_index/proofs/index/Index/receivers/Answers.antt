use Rattle.std.proofs.Common.{subst}
use Rattle.tb_index.specs.Indexes.{IsReceiver, AreThose}
use Rattle.tb_index.proofs.GatherLemmas.{all-receivers}
use Rattle.tb_index.proofs.index.Index.receivers.Goals as goal

pub returns : goal.returns
returns c = subst (λ index. AreThose (IsReceiver index c.args.mark) c.gather.new.found) c.self.view_is
    (all-receivers c.self.inside.sending c.self.inside.receiving c.self.inside.counts.opened c.self.inside.counts.pairs c.self.inside.awake c.self.inside.active.items
    c.new-found.result c.gather.new.found c.new-found.ensures.empty c.args.mark c.in_ok-gather.ensures)
