use Rattle.std.proofs.Common.{ap, ◌∙◌}
use Rattle.tb_lock.specs.Rights.{own}
use Rattle.tb_lock.specs.Seats.{SeatView}
use Rattle.tb_lock.proofs.OwnLemmas.{own-grows}
use Rattle.tb_lock.proofs.laws.looks_add_nothing.Goals as goal

pub returns-clause-meets : goal.returns-clause-meets
returns-clause-meets c old core some meets among = own-grows some old.rights old.seen core.log meets.grows among

pub returns-clause-looks : goal.returns-clause-looks
returns-clause-looks c old new core some meets is among = ap (λ (s : SeatView). own some s.seen) is ∙ own-grows some old.rights old.seen core.log meets.grows among

pub returns-clause-stops : goal.returns-clause-stops
returns-clause-stops c old new some o among = ap (λ (s : SeatView). own some s.seen) o.seat ∙ own-grows some old.rights old.seen o.core.log o.meets.grows among
