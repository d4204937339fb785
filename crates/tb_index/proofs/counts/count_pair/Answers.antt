use Rattle.tb_index.proofs.ActiveLemmas as active
use Rattle.tb_index.specs.Marks.{open_head}
use Rattle.tb_index.proofs.counts.count_pair.Goals as goal

pub returns-clause-here : goal.returns-clause-here
returns-clause-here c = active.counted-one c.args.counted.now c.add.new.self (record { count = c.args.count; head = open_head }) c.args.proc c.in_ok-add.ensures.added
