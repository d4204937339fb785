use Rattle.std.proofs.Common.{sym, subst}
use Rattle.tb_script.specs.Loading.{HasFault}
use Rattle.tb_script.proofs.Loaded.{bodies_failed}
use Rattle.tb_script.proofs.loading.load_proper.Goals as goal

pub returns-in-Err : goal.returns-in-Err
returns-in-Err c = λ text read. subst (HasFault text) (sym c.of_expand.ensures) (bodies_failed text c.args.names.now.script.now read c.requires c.in-Err.fault c.in-Err.ensures)
