use Rattle.std.proofs.Common.{sym, subst}
use Rattle.tb_expand.specs.Faults.{HasNoCycle}
use Rattle.tb_script.proofs.expanding.check_bodies.Goals as goal

pub check_all-requires : goal.check_all-requires
check_all-requires c = subst HasNoCycle (sym c.in-Ok.ensures.script) c.in-Ok.ensures.no_cycle
