use Rattle.std.proofs.Common.{◌≡◌, map, take}
use Rattle.tb_script.specs.Programs.{declared_tool}
use Rattle.tb_script.proofs.program.tools_of.Given as goal

abbrev pub invariant-loop-def : goal.invariant-loop-def
invariant-loop-def l = l.tools ≡ map declared_tool (take l.def-index l.defs)
