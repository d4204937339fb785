use Rattle.std.proofs.Common.{◌+◌, ◌-◌, ◌*◌}
use Rattle.tb_process_steps.specs.Processes.{fresh}
use Rattle.tb_code.specs.Positions.{size}
use Rattle.tb_walk.proofs.take.+part_at.Given as goal

-- the parts of a position stand behind it, and an operator's functions are called at the position itself or at its first part
abbrev pub decreases-part_at : goal.decreases-part_at
decreases-part_at l = 4 * (size (fresh l.code.now.body.tree) - l.at) + 3

abbrev pub decreases-part_first : goal.decreases-part_first
decreases-part_first l = 4 * (size (fresh l.code.now.body.tree) - l.first) + 5

abbrev pub decreases-part_merge : goal.decreases-part_merge
decreases-part_merge l = 4 * (size (fresh l.code.now.body.tree) - l.at) + 2

abbrev pub decreases-part_disrupt : goal.decreases-part_disrupt
decreases-part_disrupt l = 4 * (size (fresh l.code.now.body.tree) - l.at) + 2

abbrev pub decreases-part_until : goal.decreases-part_until
decreases-part_until l = 4 * (size (fresh l.code.now.body.tree) - l.first) + 5
