use Rattle.std.proofs.Common.{◌+◌, arith, false}
use Rattle.tb_process_steps.proofs.TickLemmas.{left-later, walking-ticked}
use Rattle.tb_process_steps.proofs.rewriter.RewriterWalker.tick.Goals as goal

pub returns-clause-on : goal.returns-clause-on
returns-clause-on c =
    let rewriter = c.args.self.now in
    record {
      parts = left-later c.args._plan.now.nodes rewriter.ticks (rewriter.ticks + 1) (omega arith) rewriter.term c.requires.on.parts;
      found = λ fresh. cc;
    }

pub returns-clause-aged : goal.returns-clause-aged
returns-clause-aged c = walking-ticked c.args._plan.now c.args.self.now false c.requires.on.parts
