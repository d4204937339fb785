use Rattle.std.proofs.Common.{◌+◌, List, take, sym, subst, arith}
use Rattle.std.proofs.lemmas.List.{take_all}
use Rattle.std.specs.List.{list_any}
use Rattle.tb_index.specs.declared.mark.Mark.{Mark}
use Rattle.tb_index.specs.Helpers.Pairs.{is_sender, IsFirst}
use Rattle.tb_index.proofs.PairLemmas as pairs
use Rattle.tb_index.proofs.active.next_sender.Goals as goal

pub loop-mark-preserved : goal.loop-mark-preserved
loop-mark-preserved c = subst (λ found. IsFirst (λ p. list_any (λ (k : Mark). is_sender c.args.sending.now c.args.counted.now k p) (take (c.loop-mark.mark-index + 1) c.args.marks.now)) c.args.from found) (sym c.earlier-found.ensures)
    (pairs.first-more (is_sender c.args.sending.now c.args.counted.now) c.args.marks.now c.loop-mark.mark-index (record { count = 0; head = 0 }) c.args.from c.loop-mark.found c.next_of_mark.result c.loop-mark-test.true c.loop-mark.invariant c.next_of_mark.ensures)

pub returns : goal.returns
returns c = subst (λ (marks : List Mark). IsFirst (λ proc. list_any (λ (mark : Mark). is_sender c.args.sending.now c.args.counted.now mark proc) marks) c.args.from c.loop-mark.found)
    (take_all c.loop-mark.mark-index c.args.marks.now (omega (arith, c.loop-mark-test.false))) c.loop-mark.invariant
