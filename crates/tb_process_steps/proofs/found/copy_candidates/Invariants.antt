use Rattle.std.proofs.Common.{◌≡◌, take}
use Rattle.tb_process_steps.proofs.found.copy_candidates.Given as goal

abbrev pub invariant-loop-found : goal.invariant-loop-found
invariant-loop-found l = l.copies ≡ take l.found-index l.candidates
