use Rattle.std.proofs.Common.{sym, subst}
use Rattle.tb_index.specs.Indexes.{is_receiver, IsNext}
use Rattle.tb_index.specs.Helpers.Pairs.{IsFirst, has, earlier}
use Rattle.tb_index.specs.declared.mark.Mark.{Mark}
use Rattle.tb_index.proofs.IndexLemmas as indexes
use Rattle.tb_index.proofs.index.Index.next_receiver.Goals as goal

pub returns : goal.returns
returns c = subst (λ found. IsNext (is_receiver c.args.self.now c.args.mark) c.args.from found) (sym c.earlier.ensures)
    (subst (λ index. IsNext (is_receiver index c.args.mark) c.args.from (earlier c.next-just.result c.next-wide.result)) c.self.view_is
    (indexes.next-receiver c.self.inside.sending c.self.inside.receiving c.self.inside.counts.opened c.self.inside.counts.pairs c.self.inside.awake c.self.inside.active.items c.args.mark c.args.from c.next-just.result c.next-wide.result c.next-just.ensures
    (subst (λ (mark : Mark). IsFirst (has c.self.inside.receiving mark) c.args.from c.next-wide.result) c.wide.ensures c.next-wide.ensures)))

pub returns-then-not-self : goal.returns-then-not-self
returns-then-not-self c = subst (λ index. IsNext (is_receiver index c.args.mark) c.args.from c.next-just.result) c.self.view_is
    (indexes.next-closed c.self.inside.sending c.self.inside.receiving c.self.inside.counts.opened c.self.inside.counts.pairs c.self.inside.awake c.self.inside.active.items c.self.invariant c.if-not-self.true c.args.mark c.args.from c.next-just.result c.next-just.ensures)
