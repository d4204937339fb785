use Rattle.std.proofs.Common.{◌+◌, ◌-◌, ◌*◌}
use Rattle.tb_process_steps.specs.Processes.{fresh}
use Rattle.tb_code.specs.Positions.{size}
use Rattle.tb_walk.proofs.look.+look_at.Given as goal

-- the parts of a position stand behind it, and an operator's function is called at the position itself
abbrev pub decreases-look_at : goal.decreases-look_at
decreases-look_at l = 2 * (size (fresh l.code.now.body.tree) - l.at) + 1

abbrev pub decreases-look_until : goal.decreases-look_until
decreases-look_until l = 2 * (size (fresh l.code.now.body.tree) - l.at)

abbrev pub decreases-look_side : goal.decreases-look_side
decreases-look_side l = 2 * (size (fresh l.code.now.body.tree) - l.at)

abbrev pub decreases-look_if_true : goal.decreases-look_if_true
decreases-look_if_true l = 2 * (size (fresh l.code.now.body.tree) - l.at)

abbrev pub decreases-look_with : goal.decreases-look_with
decreases-look_with l = 2 * (size (fresh l.code.now.body.tree) - l.at)
