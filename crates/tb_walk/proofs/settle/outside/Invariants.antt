use Rattle.std.proofs.Common.{◌≡◌, ◌++◌, drop}
use Rattle.tb_walk.specs.Helpers.Rests.{without}
use Rattle.tb_walk.proofs.settle.outside.Given as goal

-- what is left of those to come is added behind
abbrev pub invariant-loop-branch : goal.invariant-loop-branch
invariant-loop-branch l = l.kept ++ without l.at l.bound (drop l.branch-index l.row) ≡ without l.fn.at l.fn.bound l.fn.row
