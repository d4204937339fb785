use Rattle.tb_edge.specs.Faults.{Rose}
use Rattle.tb_top.proofs.Parts.{asks-alone, live-behind, not-file}
use Rattle.tb_top.proofs.run.run_script.Goals as goal

pub returns-in-Ok-clause-asks : goal.returns-in-Ok-clause-asks
returns-in-Ok-clause-asks g c =
    asks-alone (g.F.Files.held c.args.files.now c.args.script.now) c.args.script.now (g.F.Files.asked c.args.files.now) (g.F.Files.asked c.load_script.new.files) c.run_program.result
    (c.in-Ok.program, c.in-Ok.ensures.ok) c.in-Ok.ensures.asks (live-behind c.run_program.result c.run_program.ensures.behind)

pub returns-in-Ok-clause-file_rose : goal.returns-in-Ok-clause-file_rose
returns-in-Ok-clause-file_rose g c = not-file (Rose (g.F.Files.faults c.args.files.now) (g.F.Files.faults c.load_script.new.files)) c.run_program.result c.run_program.ensures.behind
