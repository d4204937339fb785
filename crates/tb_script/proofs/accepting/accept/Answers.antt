use Rattle.tb_script.proofs.Loaded.{read_failed}
use Rattle.tb_script.proofs.accepting.accept.Goals as goal

pub returns-in-Ok : goal.returns-in-Ok
returns-in-Ok c = c.accept_script.ensures c.args.bytes.now c.in-Ok.ensures

pub returns-in-Err : goal.returns-in-Err
returns-in-Err c = read_failed c.args.bytes.now c.in-Err.fault c.in-Err.ensures
