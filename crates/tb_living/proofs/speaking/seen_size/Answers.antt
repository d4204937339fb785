use Rattle.tb_bus.specs.declared.action.ToolAction.TheVariants as does
use Rattle.tb_living.proofs.SpokenLemmas.{spoken-lane, spoken-can}
use Rattle.tb_living.proofs.speaking.seen_size.Goals as goal

pub answer_size-requires : goal.answer_size-requires
answer_size-requires c = spoken-lane c.requires.0 c.args.bench.now c.args.does.now c.args.exchange.now c.requires.1

pub event_size-requires-clause-lane : goal.event_size-requires-clause-lane
event_size-requires-clause-lane c = spoken-lane c.requires.0 c.args.bench.now c.args.does.now c.args.exchange.now c.requires.1

pub event_size-requires-clause-can : goal.event_size-requires-clause-can
event_size-requires-clause-can c =
    spoken-can c.requires.0 c.args.bench.now c.args.does.now c.args.exchange.now c.requires.1 (does.TakeEvent c.in-TakeEvent.terms c.in-TakeEvent.field-1) c.in-TakeEvent.is
