use Rattle.std.proofs.Common.{take}
use Rattle.tb_core.specs.Cores.{Logs}
use Rattle.tb_why.proofs.following.follow.Given as goal

-- the core has followed the entries so far
abbrev pub invariant-loop-entry : goal.invariant-loop-entry
invariant-loop-entry g l = Logs l.initial.core l.core (take l.entry-index l.entries)
