use Rattle.std.proofs.Common.{◌≡◌, drop}
use Rattle.tb_process_steps.specs.Atoms.{is_ready}
use Rattle.tb_process_steps.proofs.times.is_ready.Given as goal

-- the remaining times decide whether the atom is ready
abbrev pub invariant-loop-time : goal.invariant-loop-time
invariant-loop-time l = is_ready l.store l.age l.now (drop l.time-index l.times) ≡ is_ready l.store l.age l.now l.times
