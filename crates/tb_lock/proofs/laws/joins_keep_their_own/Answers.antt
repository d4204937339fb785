use Rattle.tb_lock.proofs.OwnLemmas.{own-grows}
use Rattle.tb_lock.proofs.laws.joins_keep_their_own.Goals as goal

pub returns-clause-first : goal.returns-clause-first
returns-clause-first c old other new some joins among = own-grows some old.rights old.seen new.seen joins.grows among

pub returns-clause-second : goal.returns-clause-second
returns-clause-second c old other new some joins among = own-grows some other.rights other.seen new.seen joins.other_grows among
