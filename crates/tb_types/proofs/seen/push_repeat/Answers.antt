use Rattle.tb_types.proofs.SeenLemmas.{seen_after}
use Rattle.tb_types.proofs.seen.push_repeat.Goals as goal

pub returns-clause-seen : goal.returns-clause-seen
returns-clause-seen c = seen_after c.args.name.now c.args.seen.now.names c.insert.new.self tt c.in_ok-before.ensures.updates
