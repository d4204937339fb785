-- An order of the processes of a script in which each process comes after the processes that it calls.
use Rattle.std.specs.Prelude.{ℕ, List}
use Rattle.tb_syntax.specs.declared.script.Script.{Script}
use Rattle.tb_expand.specs.Helpers.Graphs.{IsOrder}
use Rattle.tb_expand.specs.Helpers.CallGraphs.{graph_of}

abbrev pub IsCallOrder : Script → List ℕ → Type 0
IsCallOrder script order = IsOrder (graph_of script) order
