use Rattle.std.proofs.Common.{◌≡◌, drop}
use Rattle.tb_types.specs.Names.{process_named}
use Rattle.tb_fault_place.proofs.calls.process_named.Given as goal

-- the result depends only on the remaining processes
abbrev pub invariant-loop-process : goal.invariant-loop-process
invariant-loop-process l = process_named (drop l.process-index l.processes) l.name ≡ process_named l.processes l.name
