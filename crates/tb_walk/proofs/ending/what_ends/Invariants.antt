use Rattle.std.proofs.Common.{◌≡◌, ◌<◌, drop, IfSome}
use Rattle.tb_process_steps.specs.Processes.{fresh}
use Rattle.tb_code.specs.Positions.{size}
use Rattle.tb_walk.specs.Helpers.Rests.{rest_behind}
use Rattle.tb_walk.proofs.ending.what_ends.Given as goal

-- the frame above those that fell, with the branches that are left
abbrev pub invariant-loop-fallen : goal.invariant-loop-fallen
invariant-loop-fallen l =
    (rest_behind (fresh l.code.body.tree) l.ticks l.frame l.before (drop l.fallen l.after) ≡ rest_behind (fresh l.fn.code.body.tree) l.fn.ticks l.fn.frame l.fn.before l.fn.after)
    × IfSome l.frame (λ at. at < size (fresh l.code.body.tree))
