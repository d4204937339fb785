use Rattle.std.proofs.Common.{◌≡◌, ℕ, ◌<◌, List, length, All, subst, sym}
use Rattle.tb_syntax.specs.declared.script.Script.{Script}
use Rattle.tb_expand.specs.declared.order.Ordered.{Ordered}
use Rattle.tb_expand.specs.declared.order.Ordered.TheVariants.{Cyclic}
use Rattle.tb_expand.specs.Cycles.{IsCycle}
use Rattle.tb_expand.specs.Helpers.Graphs.{Graph, IsClosed, IsGraphCycle}
use Rattle.tb_expand.specs.Helpers.Ordered.{IsOrdered}
use Rattle.tb_expand.specs.Helpers.CallGraphs.{graph_of, names_of}
use Rattle.tb_expand.proofs.GraphCycles.{graph_is_closed, cycle_in_script, graph_cycle_is_cycle}
use Rattle.tb_expand.proofs.call_order.order_of.Goals as goal

cycle_found : (script : Script) (graph : Graph) (found : Ordered) (positions : List ℕ) → graph ≡ graph_of script → found ≡ Cyclic positions → IsOrdered graph found
    → IsGraphCycle (graph_of script) positions
cycle_found script graph found positions is_graph is_found ordered =
    subst (λ (g : Graph). IsGraphCycle g positions) is_graph (subst (IsOrdered graph) is_found ordered)

pub topological_order-requires : goal.topological_order-requires
topological_order-requires c = subst IsClosed (sym c.in_ok-graph.ensures) (graph_is_closed c.args.names.now.script.now)

pub names_at-requires : goal.names_at-requires
names_at-requires c =
    let script = c.args.names.now.script.now in
    let call_cycle = cycle_found script c.in_ok-graph.graph c.in_ok-order.field-0 c.in-Cyclic.positions c.in_ok-graph.ensures c.in-Cyclic.is c.in_ok-order.ensures in
    subst (All (λ position. position < length script.procs)) (sym c.as_slice.ensures) (cycle_in_script script c.in-Cyclic.positions call_cycle)

pub returns-clause-err : goal.returns-clause-err
returns-clause-err c =
    let script = c.args.names.now.script.now in
    let call_cycle = cycle_found script c.in_ok-graph.graph c.in_ok-order.field-0 c.in-Cyclic.positions c.in_ok-graph.ensures c.in-Cyclic.is c.in_ok-order.ensures in
    let named : IsCycle script (names_of script c.as_slice.result.now)
    = subst (λ (positions : List ℕ). IsCycle script (names_of script positions)) (sym c.as_slice.ensures) (graph_cycle_is_cycle script c.requires c.in-Cyclic.positions call_cycle) in
    subst (IsCycle script) (sym c.in_ok-called-in-Cyclic.ensures) named
