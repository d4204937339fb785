use Rattle.std.proofs.Common.{◌≡◌, drop}
use Rattle.tb_walk.specs.Helpers.Reads.{any_inside}
use Rattle.tb_walk.proofs.ending.any_inside.Given as goal

-- the branches that are left decide
abbrev pub invariant-loop-branch : goal.invariant-loop-branch
invariant-loop-branch l = any_inside l.at l.bound (drop l.branch-index l.row) ≡ any_inside l.at l.bound l.row
