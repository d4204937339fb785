use Rattle.std.proofs.Common.{◌≡◌, ◌<◌, List, true, length, get_or, subst}
use Rattle.tb_index.specs.declared.slot.Pair.{Pair}
use Rattle.tb_index.specs.Helpers.Pairs.{is_in, is_of, is_pair}
use Rattle.tb_index.proofs.SlotLemmas as slots
use Rattle.tb_index.proofs.slot.remove_pair.Goals as goal

pub loop-place-preserved : goal.loop-place-preserved
loop-place-preserved c = λ o i. slots.removed-step (is_in c.swap_remove.new.self.items o i) (is_in c.loop-place.pairs.items o i) (is_in c.args.pairs.now.items o i) (is_pair c.args.mark c.args.proc o i)
    (slots.gone-one c.loop-place.pairs.items c.swap_remove.new.self.items c.in-Some.place c.swap_remove.result (record { mark = c.args.mark; proc = c.args.proc }) c.args.mark c.args.proc
    (subst (λ (pairs : List Pair). c.in-Some.place < length pairs) c.as_slice.ensures.value c.in-Some.ensures.within)
    c.swap_remove.ensures.value c.swap_remove.ensures.items
    (subst (λ (pairs : List Pair). is_of c.args.mark c.args.proc (get_or pairs c.in-Some.place (record { mark = c.args.mark; proc = c.args.proc })) ≡ true) c.as_slice.ensures.value c.in-Some.ensures.here) o i)
    (c.loop-place.invariant o i)
