use Rattle.std.proofs.Common.{take}
use Rattle.tb_script.proofs.Bodies.{AreFirst}
use Rattle.tb_script.proofs.expanding.all_bodies.Given as goal

-- the bodies of the definitions so far, none of whose expansions is too large
abbrev pub invariant-loop-position : goal.invariant-loop-position
invariant-loop-position l = AreFirst l.expansions.script.now (take l.position l.expansions.script.now.procs) l.bodies
