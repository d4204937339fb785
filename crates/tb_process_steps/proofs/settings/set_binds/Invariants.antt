use Rattle.std.proofs.Common.{◌≡◌, IsTrue, length}
use Rattle.tb_process_steps.specs.Binds.{takes_binds, with_binds}
use Rattle.tb_process_steps.proofs.settings.set_binds.Given as goal

-- the store takes the remaining binds, and setting them gives the same store as setting all binds at first
abbrev pub invariant-loop-binds : goal.invariant-loop-binds
invariant-loop-binds l = record {
  taken : IsTrue (takes_binds l.store l.binds);
  completes : with_binds l.store l.binds ≡ with_binds l.initial.store l.initial.binds;
}

abbrev pub decreases-loop-binds : goal.decreases-loop-binds
decreases-loop-binds l = length l.binds
