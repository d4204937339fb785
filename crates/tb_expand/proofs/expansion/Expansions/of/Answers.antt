use Rattle.std.proofs.Common.{refl, subst, sym}
use Rattle.tb_expand.specs.Helpers.Descents.{Descends}
use Rattle.tb_expand.proofs.Depths.{all_whole}
use Rattle.tb_expand.proofs.GraphCycles.{order_has_no_cycle}
use Rattle.tb_expand.proofs.ProperCalls.{names_differ, all_defined, order_descends}
use Rattle.tb_expand.proofs.expansion.Expansions.of.Goals as goal

pub order_of-requires : goal.order_of-requires
order_of-requires c = names_differ c.args.names.now.script.now c.requires

pub sizes_of-requires : goal.sizes_of-requires
sizes_of-requires c =
    let script = c.args.names.now.script.now in
    subst (Descends script) (sym c.as_slice.ensures) (order_descends script c.in_ok-order.order (all_defined script c.requires) c.in_ok-order.ensures.ok)

pub invariant_of-result : goal.invariant_of-result
invariant_of-result c =
    let script = c.args.names.now.script.now in
    let descends : Descends script c.in_ok-order.order = order_descends script c.in_ok-order.order (all_defined script c.requires) c.in_ok-order.ensures.ok in
    record {
      same = refl;
      proper = c.requires;
      no_cycle = order_has_no_cycle script (names_differ script c.requires) c.in_ok-order.order c.in_ok-order.ensures.ok;
      whole = all_whole script c.in_ok-order.order descends;
      sized = c.in_ok-sizes.ensures;
    }
