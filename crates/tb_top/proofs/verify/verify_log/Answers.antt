use Rattle.std.proofs.Common.{[], ◌∷◌}
use Rattle.tb_top.proofs.Parts.{asks-others}
use Rattle.tb_top.proofs.verify.verify_log.Goals as goal

pub returns-in-Ok-clause-asks : goal.returns-in-Ok-clause-asks
returns-in-Ok-clause-asks g c =
    asks-others (g.F.Files.held c.args.files.now c.args.script.now) c.args.script.now (c.args.log.now ∷ []) (g.F.Files.asked c.args.files.now) (g.F.Files.asked c.load_script.new.files)
    (g.F.Files.asked c.verify_program.new.files) c.verify_program.result (c.in-Ok.program, c.in-Ok.ensures.ok) c.in-Ok.ensures.asks c.verify_program.ensures.behind c.verify_program.ensures.asks
