use Rattle.std.proofs.Common.{◌≡◌, drop}
use Rattle.tb_bus.specs.Exchanges.{setting_by}
use Rattle.tb_search.specs.Indexed.{all_rest}
use Rattle.tb_search.proofs.resting.all_rest.Given as goal

-- the remaining actions determine the result
abbrev pub invariant-loop-ready : goal.invariant-loop-ready
invariant-loop-ready g l =
    let setting = setting_by l.program.bodies l.program.tools l.bench l.living.body in
    all_rest setting l.living.inbox.held (drop l.ready-index l.living.ready.items) ≡ all_rest setting l.living.inbox.held l.living.ready.items
