use Rattle.tb_script.proofs.Findings.{program_found}
use Rattle.tb_script.proofs.Loaded.{joined_failed}
use Rattle.tb_script.proofs.loading.load_expanded.Goals as goal

pub returns-in-Ok : goal.returns-in-Ok
returns-in-Ok c = λ text read.
    let made = c.requires.expanded in
    let joined = c.in-Ok.ensures in
    program_found text c.args.names.now.script.now read c.requires.proper made.no_cycle made.small joined.few c.in-Ok.program joined.meaning

pub returns-in-Err : goal.returns-in-Err
returns-in-Err c = λ text read. joined_failed text c.args.names.now.script.now read c.requires.proper c.args.bodies c.in-Err.fault c.requires.expanded c.in-Err.ensures
