use Rattle.std.proofs.Common.{true, ap, sym, subst, ◌==◌}
use Rattle.tb_index.specs.Indexes.{HasRoom, IsTurned}
use Rattle.tb_index.proofs.IndexLemmas as indexes
use Rattle.tb_index.proofs.index.Index.wake.Goals as goal

pub insert-requires : goal.insert-requires
insert-requires c = indexes.roomy c.self.inside.sending c.self.inside.receiving c.self.inside.counts.opened c.self.inside.counts.pairs c.self.inside.awake c.self.inside.active.items c.args.proc (subst (λ index. HasRoom index c.args.proc) (sym c.self.view_is) c.requires.room)

pub returns : goal.returns
returns c = subst (λ old. IsTurned old (indexes.state c.self.inside.sending c.self.inside.receiving c.self.inside.counts.opened c.self.inside.counts.pairs c.insert.new.self c.self.inside.active.items) c.args.proc true) c.self.view_is
    (indexes.turned c.self.inside.sending c.self.inside.receiving c.self.inside.counts.opened c.self.inside.counts.pairs c.self.inside.awake c.self.inside.active.items c.insert.new.self c.args.proc true
    (ap (λ n. n == 1) c.insert.ensures.here) c.insert.ensures.others c.insert.ensures.long)
