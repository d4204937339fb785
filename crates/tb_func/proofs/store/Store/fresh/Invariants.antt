use Rattle.std.proofs.Common.{◌≡◌, IsTrue, map, take}
use Rattle.tb_func.specs.Stores.{are_well_sorted, fresh_slot}
use Rattle.tb_func.proofs.store.Store.fresh.Given as goal

abbrev pub invariant-loop-sort : goal.invariant-loop-sort
invariant-loop-sort l =
    (l.slots.items ≡ map fresh_slot (take l.sort-index l.sort-items)) × IsTrue (are_well_sorted l.slots.items)
