use Rattle.std.proofs.Common.{◌≡◌, true, List, sym, subst}
use Rattle.tb_index.specs.declared.slot.Pair.{Pair}
use Rattle.tb_index.specs.Marks.{wide}
use Rattle.tb_index.specs.Helpers.Pairs.{is_in}
use Rattle.tb_index.proofs.SlotLemmas as slots
use Rattle.tb_index.proofs.counts.count_few.Goals as goal

pub loop-slot-preserved : goal.loop-slot-preserved
loop-slot-preserved c = slots.counted-slots c.count_slot.new.counted c.args.few.now c.loop-slot.slot-index c.slot-item.result c.loop-slot-test.true c.slot-item.is
    (λ mark its e. c.count_slot.ensures.kept (wide mark) its (c.loop-slot.invariant mark its e))
    (λ mark its e. c.in_ok-count_slot.ensures.all mark its (subst (λ (pairs : List Pair). is_in pairs mark its ≡ true) (sym c.pairs.ensures) e))
