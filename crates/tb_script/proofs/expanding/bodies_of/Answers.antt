use Rattle.std.proofs.Common.{sym, subst}
use Rattle.tb_expand.specs.Faults.{HasNoCycle}
use Rattle.tb_script.proofs.expanding.bodies_of.Goals as goal

pub all_bodies-requires : goal.all_bodies-requires
all_bodies-requires c = subst HasNoCycle (sym c.in-Ok.ensures.script) c.in-Ok.ensures.no_cycle
