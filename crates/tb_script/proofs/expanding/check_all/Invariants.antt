use Rattle.std.proofs.Common.{List, take}
use Rattle.tb_body.specs.declared.body.Body.{Body}
use Rattle.tb_script.proofs.Bodies.{AreFirst}
use Rattle.tb_script.proofs.expanding.check_all.Given as goal

-- the definitions so far have bodies, and none of their expansions is too large
abbrev pub invariant-loop-position : goal.invariant-loop-position
invariant-loop-position l = (bodies : List Body) × AreFirst l.expansions.script.now (take l.position l.expansions.script.now.procs) bodies
