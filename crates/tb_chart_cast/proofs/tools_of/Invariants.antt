use Rattle.std.proofs.Common.{◌≡◌, map, take}
use Rattle.tb_body.specs.declared.program.Tool.{Tool}
use Rattle.tb_chart_cast.proofs.tools_of.Given as goal

abbrev pub invariant-loop-tool : goal.invariant-loop-tool
invariant-loop-tool l = l.all.items ≡ map (λ (tool : Tool). tool.name) (take l.tool-index l.tools)
