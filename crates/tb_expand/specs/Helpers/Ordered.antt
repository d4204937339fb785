-- The result for a graph: a topological order, or a cycle.
use Rattle.tb_expand.specs.declared.order.Ordered.{Ordered}
use Rattle.tb_expand.specs.declared.order.Ordered.TheVariants.{Order, Cyclic}
use Rattle.tb_expand.specs.Helpers.Graphs.{Graph, IsOrder, IsGraphCycle}

abbrev pub IsOrdered : Graph → Ordered → Type 0
IsOrdered graph (Order positions) = IsOrder graph positions
IsOrdered graph (Cyclic positions) = IsGraphCycle graph positions
