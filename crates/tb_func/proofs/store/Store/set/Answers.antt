use Rattle.std.proofs.Common.{◌≡◌, ◌<◌, sym, length, true}
use Rattle.tb_func.specs.Stores.{is_well_sorted}
use Rattle.tb_func.proofs.StoreLemmas.{set-with_value, sort_at-get_or, are_well_sorted-set}
use Rattle.tb_func.proofs.store.Store.set.Goals as goal

pub invariant_of-self : goal.invariant_of-self
invariant_of-self c =
    let slots = c.self.inside.slots.items in
    let slot = c.index_mut.result.now in
    let within : c.args.slot < length slots = rw c.self.view_is c.requires.in_range in
    let well_sorted : is_well_sorted (record slot { value = c.args.t }) ≡ true = c.requires.well_sorted slot.sort (rw (sym c.self.view_is) (sort_at-get_or slots c.args.slot slot within c.index_mut.ensures.value)) in
    are_well_sorted-set slots c.args.slot (record slot { value = c.args.t }) c.self.invariant well_sorted

pub returns : goal.returns
returns c =
    let slots = c.self.inside.slots.items in
    let within : c.args.slot < length slots = rw c.self.view_is c.requires.in_range in
    rw (sym c.self.view_is) (set-with_value slots c.args.slot c.args.t c.index_mut.result.now within c.index_mut.ensures.value)
