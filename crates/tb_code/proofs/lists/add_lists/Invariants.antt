use Rattle.tb_process_steps.specs.Processes.{fresh}
use Rattle.tb_code.specs.Entries.{AreLists}
use Rattle.tb_code.proofs.lists.add_lists.Given as goal

abbrev pub invariant-loop-back : goal.invariant-loop-back
invariant-loop-back l = AreLists l.body.atoms (fresh l.body.tree) l.entries l.spans
