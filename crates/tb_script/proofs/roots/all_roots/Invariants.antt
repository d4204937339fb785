use Rattle.std.proofs.Common.{take}
use Rattle.std.specs.List.{AllZip}
use Rattle.tb_script.specs.Programs.{IsRootOf}
use Rattle.tb_script.proofs.roots.all_roots.Given as goal

-- the roots of the calls so far
abbrev pub invariant-loop-call : goal.invariant-loop-call
invariant-loop-call l = AllZip (IsRootOf l.names.script.now) (take l.call-index l.calls) l.roots
