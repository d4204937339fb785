use Rattle.std.proofs.Common.{sym, subst, List}
use Rattle.std.specs.List.{list_any}
use Rattle.tb_index.specs.Indexes.{MayBegin, NobodyPassed}
use Rattle.tb_index.specs.Helpers.Pairs.{IsFirst, is_sender, earlier}
use Rattle.tb_index.specs.declared.mark.Mark.{Mark}
use Rattle.tb_index.proofs.IndexLemmas as indexes
use Rattle.tb_index.proofs.index.Index.next_starter.Goals as goal

pub returns : goal.returns
returns c = subst (λ found. NobodyPassed (MayBegin c.args.self.now) c.args.from found) (sym c.earlier.ensures)
    (subst (λ index. NobodyPassed (MayBegin index) c.args.from (earlier c.next_number-awake.result c.next_sender-sender.result)) c.self.view_is
    (indexes.next-starter c.self.inside.sending c.self.inside.receiving c.self.inside.counts.opened c.self.inside.counts.pairs c.self.inside.awake c.self.inside.active.items c.self.invariant c.args.from c.next_number-awake.result c.next_sender-sender.result c.next_number-awake.ensures
    (subst (λ (marks : List Mark). IsFirst (λ p. list_any (λ (m : Mark). is_sender c.self.inside.sending c.self.inside.counts.pairs m p) marks) c.args.from c.next_sender-sender.result) c.as_slice.ensures.value c.next_sender-sender.ensures)))
