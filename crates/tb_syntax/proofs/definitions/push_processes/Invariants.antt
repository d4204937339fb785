use Rattle.std.proofs.Common.{◌≡◌, ◌++◌, take}
use Rattle.std.specs.List.{flat_map}
use Rattle.tb_syntax.specs.Helpers.Canonical.{process_tokens}
use Rattle.tb_syntax.proofs.definitions.push_processes.Given as goal

abbrev pub invariant-loop-process : goal.invariant-loop-process
invariant-loop-process l = l.into ≡ l.initial.into ++ flat_map process_tokens (take l.process-index l.processes)
