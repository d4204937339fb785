use Rattle.std.proofs.Common.{◌≡◌, map, take}
use Rattle.tb_expand.specs.Scopes.{of_blocks}
use Rattle.tb_expand.specs.Acts.{time_of}
use Rattle.tb_expand.proofs.atoms.times_of.Given as goal

abbrev pub invariant-loop-def : goal.invariant-loop-def
invariant-loop-def l = l.times ≡ map (time_of (of_blocks l.blocks)) (take l.def-index l.defs)
