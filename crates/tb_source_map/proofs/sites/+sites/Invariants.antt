use Rattle.std.proofs.Common.{◌+◌, ◌*◌, ◌-◌, max}
use Rattle.tb_types.specs.Names.{process_named}
use Rattle.tb_expand.specs.Helpers.Sizes.{called_size, size_of}
use Rattle.tb_expand.proofs.PartSteps.{levels_with, other_levels}
use Rattle.tb_source_map.proofs.sites.+sites.Given as goal

-- the depth of the expansion bounds the recursion: it is smaller in each part

abbrev pub decreases-push_sites : goal.decreases-push_sites
decreases-push_sites l = 4 * levels_with l.names.now.script.now l.depth l.p.now

abbrev pub decreases-push_both : goal.decreases-push_both
decreases-push_both l = 4 * max (levels_with l.names.now.script.now l.depth l.x.now) (levels_with l.names.now.script.now l.depth l.y.now) + 1

abbrev pub decreases-push_else : goal.decreases-push_else
decreases-push_else l = 4 * other_levels l.names.now.script.now l.depth l.y.now + 1

abbrev pub decreases-push_called : goal.decreases-push_called
decreases-push_called l = 4 * (called_size (size_of l.names.now.script.now l.depth) (process_named l.names.now.script.now.procs l.call.now.name)).levels - 1

abbrev pub decreases-push_body : goal.decreases-push_body
decreases-push_body l = 4 * (size_of l.names.now.script.now l.depth l.body.now).levels + 1
