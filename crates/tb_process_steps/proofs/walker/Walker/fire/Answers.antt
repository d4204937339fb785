use Rattle.tb_process_steps.proofs.WalkerLemmas.{is_taken}
use Rattle.tb_process_steps.proofs.walker.Walker.fire.Goals as goal

pub advance-requires-clause-taken : goal.advance-requires-clause-taken
advance-requires-clause-taken g c =
    is_taken g.Self.Walker.view c.args.plan.now c.args.self.now c.in_ok-taken.taken c.args.k c.args.binds c.requires.within c.in_ok-taken.ensures.taken c.requires.well_sorted

pub returns-clause-goes : goal.returns-clause-goes
returns-clause-goes g c offered here = c.advance.ensures.advanced offered (c.in_ok-taken.ensures.taken offered here)
