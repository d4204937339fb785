use Rattle.std.proofs.Common.{◌-◌}
use Rattle.tb_chart.specs.Helpers.Additions.{SamePlaces}
use Rattle.tb_chart.proofs.lines.fill_places.Given as goal

abbrev pub invariant-loop-places : goal.invariant-loop-places
invariant-loop-places l = SamePlaces l.fn.places.items l.places.items

abbrev pub decreases-loop-places : goal.decreases-loop-places
decreases-loop-places l = l.number - l.places.len
