use Rattle.std.proofs.Common.{◌+◌, ◌*◌, ◌-◌, max}
use Rattle.tb_types.specs.Names.{process_named}
use Rattle.tb_expand.specs.Helpers.Sizes.{called_size, size_of}
use Rattle.tb_expand.proofs.PartSteps.{levels_with, other_levels}
use Rattle.tb_expand.proofs.parts.+parts.Given as goal

-- each part has fewer levels than the whole

abbrev pub decreases-part_of : goal.decreases-part_of
decreases-part_of l = 4 * levels_with l.names.now.script.now l.depth l.p.now

abbrev pub decreases-sides : goal.decreases-sides
decreases-sides l = 4 * max (levels_with l.names.now.script.now l.depth l.x.now) (levels_with l.names.now.script.now l.depth l.y.now) + 1

abbrev pub decreases-if_part : goal.decreases-if_part
decreases-if_part l = 4 * max (levels_with l.names.now.script.now l.depth l.x.now) (other_levels l.names.now.script.now l.depth l.y.now) + 2

abbrev pub decreases-let_part : goal.decreases-let_part
decreases-let_part l = 4 * levels_with l.names.now.script.now l.depth l.x.now + 2

abbrev pub decreases-call_part : goal.decreases-call_part
decreases-call_part l = 4 * (called_size (size_of l.names.now.script.now l.depth) (process_named l.names.now.script.now.procs l.call.now.name)).levels - 1

abbrev pub decreases-body_part : goal.decreases-body_part
decreases-body_part l = 4 * (size_of l.names.now.script.now l.depth l.body.now).levels + 1
