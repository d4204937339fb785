use Rattle.std.proofs.Common.{sym, subst}
use Rattle.tb_script.specs.Loading.{HasFault}
use Rattle.tb_types.specs.Conditions.{Proper}
use Rattle.tb_script.specs.Helpers.Making.{IsOnlyScript}
use Rattle.tb_script.proofs.Loaded.{checks_failed}
use Rattle.tb_script.proofs.loading.load_script.Goals as goal

pub returns-in-Err : goal.returns-in-Err
returns-in-Err c = λ text read. subst (HasFault text) (sym c.of_check.ensures) (checks_failed text c.args.script.now read c.in-Err.fault c.in-Err.ensures.fault)

pub load_proper-requires : goal.load_proper-requires
load_proper-requires c = subst Proper (sym c.in-Ok.ensures.names) c.in-Ok.ensures.proper

pub returns-in-Ok : goal.returns-in-Ok
returns-in-Ok c = λ text read. c.load_proper.ensures text (subst (IsOnlyScript text) (sym c.in-Ok.ensures.names) read)
