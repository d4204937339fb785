use Rattle.std.proofs.Common.{option_to_list}
use Rattle.tb_top.proofs.Parts.{asks-others}
use Rattle.tb_top.proofs.sim.sim.Goals as goal

pub returns-in-Ok-clause-asks : goal.returns-in-Ok-clause-asks
returns-in-Ok-clause-asks g c =
    asks-others (g.F.Files.held c.args.files.now c.args.script.now) c.args.script.now (option_to_list c.args.feed.now) (g.F.Files.asked c.args.files.now) (g.F.Files.asked c.load_script.new.files)
    (g.F.Files.asked c.sim_program.new.files) c.sim_program.result (c.in-Ok.program, c.in-Ok.ensures.ok) c.in-Ok.ensures.asks c.sim_program.ensures.behind c.sim_program.ensures.asks
