use Rattle.tb_top.proofs.Parts.{unread}
use Rattle.tb_top.proofs.sim.sim_program.Goals as goal

pub returns-in-Err-clause-outcome : goal.returns-in-Err-clause-outcome
returns-in-Err-clause-outcome g c script has =
    unread (Unit {0}) (g.F.Files.held c.args.files.now)
    (record { script = script; feed = c.args.feed.now; connects = c.args.connects.now; steps = c.args.steps; events = c.args.events })
    c.args.program (g.O.Sink.taken c.args.out.now) c.in-Err.fault c.in-Err.ensures.err has
