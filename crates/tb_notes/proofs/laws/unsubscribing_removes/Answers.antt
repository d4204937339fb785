use Rattle.tb_notes.proofs.Subscribing.{unsubscribed-gone, unsubscribed-back}
use Rattle.tb_notes.proofs.laws.unsubscribing_removes.Goals as goal

pub returns-clause-gone : goal.returns-clause-gone
returns-clause-gone c = unsubscribed-gone

pub returns-clause-back : goal.returns-clause-back
returns-clause-back c = unsubscribed-back
