use Rattle.std.proofs.Common.{◌≡◌, map, take}
use Rattle.tb_syntax.specs.declared.script.ProcDef.{ProcDef}
use Rattle.tb_expand.specs.Cycles.{called}
use Rattle.tb_expand.specs.Helpers.CallGraphs.{positions_of}
use Rattle.tb_expand.proofs.graph.graph_of.Given as goal

-- the processes so far
abbrev pub invariant-loop-def : goal.invariant-loop-def
invariant-loop-def l = l.graph ≡ map (λ (d : ProcDef). positions_of l.names.script.now (called d.body)) (take l.def-index l.names.script.now.procs)
