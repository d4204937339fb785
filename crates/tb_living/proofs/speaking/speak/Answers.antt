use Rattle.tb_bus.specs.declared.action.ToolAction.TheVariants as does
use Rattle.tb_living.proofs.SpokenLemmas.{spoken-lane, spoken-can}
use Rattle.tb_living.proofs.speaking.speak.Goals as goal

pub execute-requires-clause-lane : goal.execute-requires-clause-lane
execute-requires-clause-lane c = spoken-lane c.args.kinds.now c.args.bench.now c.args.does c.args.exchange c.requires.found

pub execute-requires-clause-can : goal.execute-requires-clause-can
execute-requires-clause-can c = spoken-can c.args.kinds.now c.args.bench.now c.args.does c.args.exchange c.requires.found (does.Execute c.in-Execute.tool c.in-Execute.field-1) c.in-Execute.is

pub connect-requires-clause-lane : goal.connect-requires-clause-lane
connect-requires-clause-lane c = spoken-lane c.args.kinds.now c.args.bench.now c.args.does c.args.exchange c.requires.found

pub connect-requires-clause-can : goal.connect-requires-clause-can
connect-requires-clause-can c = spoken-can c.args.kinds.now c.args.bench.now c.args.does c.args.exchange c.requires.found (does.Connect c.in-Connect.field-0 c.in-Connect.field-1) c.in-Connect.is

pub leave-requires-clause-lane : goal.leave-requires-clause-lane
leave-requires-clause-lane c = spoken-lane c.args.kinds.now c.args.bench.now c.args.does c.args.exchange c.requires.found

pub leave-requires-clause-can : goal.leave-requires-clause-can
leave-requires-clause-can c = spoken-can c.args.kinds.now c.args.bench.now c.args.does c.args.exchange c.requires.found (does.DisconnectAny c.in-DisconnectAny.field-0 c.in-DisconnectAny.field-1) c.in-DisconnectAny.is

pub leave-requires-in-Disconnect-clause-lane : goal.leave-requires-in-Disconnect-clause-lane
leave-requires-in-Disconnect-clause-lane c = spoken-lane c.args.kinds.now c.args.bench.now c.args.does c.args.exchange c.requires.found

pub tell-requires-clause-lane : goal.tell-requires-clause-lane
tell-requires-clause-lane c = spoken-lane c.args.kinds.now c.args.bench.now c.args.does c.args.exchange c.requires.found

pub with_value-requires-clause-lane : goal.with_value-requires-clause-lane
with_value-requires-clause-lane c = spoken-lane c.args.kinds.now c.args.bench.now c.args.does c.args.exchange c.requires.found

pub tell-requires-in-Do-clause-lane : goal.tell-requires-in-Do-clause-lane
tell-requires-in-Do-clause-lane c = spoken-lane c.args.kinds.now c.args.bench.now c.args.does c.args.exchange c.requires.found

pub with_event-requires-clause-lane : goal.with_event-requires-clause-lane
with_event-requires-clause-lane c = spoken-lane c.args.kinds.now c.args.bench.now c.args.does c.args.exchange c.requires.found

pub with_event-requires-clause-can : goal.with_event-requires-clause-can
with_event-requires-clause-can c = spoken-can c.args.kinds.now c.args.bench.now c.args.does c.args.exchange c.requires.found (does.TakeEvent c.in-TakeEvent.terms c.in-TakeEvent.field-1) c.in-TakeEvent.is

pub event-requires-clause-lane : goal.event-requires-clause-lane
event-requires-clause-lane c = spoken-lane c.args.kinds.now c.args.bench.now c.args.does c.args.exchange c.requires.found

pub event-requires-clause-can : goal.event-requires-clause-can
event-requires-clause-can c = spoken-can c.args.kinds.now c.args.bench.now c.args.does c.args.exchange c.requires.found (does.TakeEvent c.in-TakeEvent.terms c.in-TakeEvent.field-1) c.in-TakeEvent.is

pub ack-requires-clause-lane : goal.ack-requires-clause-lane
ack-requires-clause-lane c = spoken-lane c.args.kinds.now c.args.bench.now c.args.does c.args.exchange c.requires.found

pub ack-requires-clause-can : goal.ack-requires-clause-can
ack-requires-clause-can c = spoken-can c.args.kinds.now c.args.bench.now c.args.does c.args.exchange c.requires.found (does.Acknowledge c.in-Acknowledge.terms) c.in-Acknowledge.is

pub tell-requires-in-Terminate-clause-lane : goal.tell-requires-in-Terminate-clause-lane
tell-requires-in-Terminate-clause-lane c = spoken-lane c.args.kinds.now c.args.bench.now c.args.does c.args.exchange c.requires.found
