use Rattle.std.proofs.Common.{◌≡◌, drop}
use Rattle.tb_why.specs.Reasons.{full_queue}
use Rattle.tb_why.specs.Helpers.Scenes.{queues_in}
use Rattle.tb_why.proofs.own.queue_reason.Given as goal

-- the processes that are left decide
abbrev pub invariant-loop-living : goal.invariant-loop-living
invariant-loop-living g l = full_queue l.note (queues_in (drop l.living-index l.all)) ≡ full_queue l.note (queues_in l.all)
