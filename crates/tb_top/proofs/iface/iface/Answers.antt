use Rattle.tb_top.proofs.Parts.{asks-alone}
use Rattle.tb_top.proofs.iface.iface.Goals as goal

pub returns-in-Ok-clause-outcome : goal.returns-in-Ok-clause-outcome
returns-in-Ok-clause-outcome g c = c.iface_program.ensures.outcome (g.F.Files.held c.args.files.now c.args.script.now) c.in-Ok.ensures.ok

pub returns-in-Ok-clause-asks : goal.returns-in-Ok-clause-asks
returns-in-Ok-clause-asks g c =
    asks-alone (g.F.Files.held c.args.files.now c.args.script.now) c.args.script.now (g.F.Files.asked c.args.files.now) (g.F.Files.asked c.load_script.new.files) c.iface_program.result
    (c.in-Ok.program, c.in-Ok.ensures.ok) c.in-Ok.ensures.asks c.iface_program.ensures.behind
