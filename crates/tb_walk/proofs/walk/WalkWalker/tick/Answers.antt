use Rattle.std.proofs.Common.{◌+◌, false}
use Rattle.tb_process_steps.specs.Processes.{fresh}
use Rattle.tb_walk.proofs.WalkLemmas.{read_left, reads_later, walking-ticked}
use Rattle.tb_walk.proofs.walk.WalkWalker.tick.Goals as goal

pub returns-clause-on : goal.returns-clause-on
returns-clause-on c =
    let walk = c.args.self.now in
    record {
      reads = read_left (walk.ticks + 1) (fresh c.args._plan.now.body.tree) walk.row _ (reads_later walk.ticks c.requires.on.reads);
      found = λ fresh. cc;
    }

pub returns-clause-aged : goal.returns-clause-aged
returns-clause-aged c = walking-ticked c.args._plan.now c.args.self.now false c.requires.on
