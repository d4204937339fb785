use Rattle.std.proofs.Common.{sym, subst}
use Rattle.tb_source_map.specs.Places.{ArePlaces}
use Rattle.tb_chart_cast.proofs.placed_cast.Goals as goal

pub returns-in_ok-cast_of-in-Ok-clause-ok : goal.returns-in_ok-cast_of-in-Ok-clause-ok
returns-in_ok-cast_of-in-Ok-clause-ok c = record {
  program = c.args.program.now;
  places = c.as_slice.result.now;
  found = c.requires;
  are = subst (ArePlaces c.args.bytes.now) (sym c.as_slice.ensures) c.in-Ok.ensures.ok;
  is = c.in_ok-cast_of-in-Ok.ensures;
}
