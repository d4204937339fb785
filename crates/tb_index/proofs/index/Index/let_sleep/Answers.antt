use Rattle.std.proofs.Common.{false, ap, subst, ◌==◌}
use Rattle.tb_index.specs.Indexes.{IsTurned}
use Rattle.tb_index.proofs.IndexLemmas as indexes
use Rattle.tb_index.proofs.index.Index.let_sleep.Goals as goal

pub returns : goal.returns
returns c = subst (λ old. IsTurned old (indexes.state c.self.inside.sending c.self.inside.receiving c.self.inside.counts.opened c.self.inside.counts.pairs c.remove.new.self c.self.inside.active.items) c.args.proc false) c.self.view_is
    (indexes.turned c.self.inside.sending c.self.inside.receiving c.self.inside.counts.opened c.self.inside.counts.pairs c.self.inside.awake c.self.inside.active.items c.remove.new.self c.args.proc false
    (ap (λ n. n == 1) c.remove.ensures.here) c.remove.ensures.others c.remove.ensures.long)
