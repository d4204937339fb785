use Rattle.std.proofs.Common.{◌≡◌, map, take}
use Rattle.tb_body.specs.declared.program.Root.{Root}
use Rattle.tb_chart_cast.proofs.roots_of.Given as goal

abbrev pub invariant-loop-root : goal.invariant-loop-root
invariant-loop-root l = l.all.items ≡ map (λ (root : Root). root.process) (take l.root-index l.roots)
