use Rattle.std.proofs.Common.{ℕ, List, subst, arith}
use Rattle.std.proofs.lemmas.Option.{MatchOption-at_some}
use Rattle.tb_expand.specs.Helpers.Walks.{ClosesCycle, HasEnded}
use Rattle.tb_expand.specs.Helpers.TurnedCycles.{onward, IsTurned}
use Rattle.tb_expand.proofs.Walking.{rest_is_order}
use Rattle.tb_expand.proofs.Turning.{turned_is_cycle}
use Rattle.tb_expand.proofs.order.topological_order.Goals as goal

pub returns-in-Some : goal.returns-in-Some
returns-in-Some c =
    let graph = c.args.graph.now in
    let walk = c.walk_from.new.walk in
    let again = c.in-Some.again in
    let closes_cycle : ClosesCycle graph walk again
    = MatchOption-at_some (HasEnded graph c.loop-root.walk walk c.loop-root.root) (ClosesCycle graph walk) again c.in-Some.is c.in_ok-again.ensures in
    turned_is_cycle graph walk again closes_cycle c.in_ok-cycle_of.field-0
    (subst (λ (way : List ℕ). IsTurned (onward again way) c.in_ok-cycle_of.field-0) c.as_slice.ensures c.in_ok-cycle_of.ensures)

pub returns : goal.returns
returns c =
    rest_is_order c.args.graph.now c.loop-root.walk c.loop-root.invariant.at_rest
    (λ position within new. c.loop-root.invariant.visited position (omega arith) new)
