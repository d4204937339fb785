use Rattle.tb_notes.proofs.Subscribing.{wants-subscribed, subscribed-twice}
use Rattle.tb_notes.proofs.laws.subscribing_adds.Goals as goal

pub returns-clause-wants : goal.returns-clause-wants
returns-clause-wants c = wants-subscribed

pub returns-clause-once : goal.returns-clause-once
returns-clause-once c = subscribed-twice
