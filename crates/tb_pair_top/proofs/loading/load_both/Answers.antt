use Rattle.tb_pair_top.proofs.Parts.{both-asked, both-loaded, unloaded-first, unloaded-second}
use Rattle.tb_pair_top.proofs.loading.load_both.Goals as goal

pub returns-in-Ok-clause-ok : goal.returns-in-Ok-clause-ok
returns-in-Ok-clause-ok g c =
    both-loaded (g.F.Files.held c.args.files.now) (g.F.Files.held c.load_script.new.files) c.args.first.now c.args.second.now c.in-Ok.program c.load_second.result
    c.in-Ok.ensures.held_stays c.in-Ok.ensures.ok c.load_second.ensures.ok

pub returns-in-Ok-clause-asks : goal.returns-in-Ok-clause-asks
returns-in-Ok-clause-asks g c =
    both-asked c.args.first.now c.args.second.now (g.F.Files.asked c.args.files.now) (g.F.Files.asked c.load_script.new.files) (g.F.Files.asked c.load_second.new.files) c.load_second.result
    c.in-Ok.ensures.asks c.load_second.ensures.asks

pub returns-in-Ok-clause-err : goal.returns-in-Ok-clause-err
returns-in-Ok-clause-err g c =
    unloaded-second (g.F.Files.held c.args.files.now) (g.F.Files.held c.load_script.new.files) c.args.first.now c.args.second.now c.in-Ok.program (g.F.Files.asked c.args.files.now) (g.F.Files.asked c.load_script.new.files)
    (g.F.Files.asked c.load_second.new.files) c.load_second.result c.in-Ok.ensures.held_stays c.in-Ok.ensures.ok c.in-Ok.ensures.asks c.load_second.ensures.err c.load_second.ensures.asks

pub returns-in-Err-clause-err : goal.returns-in-Err-clause-err
returns-in-Err-clause-err g c =
    unloaded-first (g.F.Files.held c.args.files.now) c.args.first.now c.args.second.now (g.F.Files.asked c.args.files.now) (g.F.Files.asked c.load_script.new.files) c.in-Err.fault c.in-Err.ensures.err c.in-Err.ensures.asks
