use Rattle.std.proofs.Common.{ap, ◌∙◌, ◌++◌}
use Rattle.tb_core.specs.Cores.{would_log}
use Rattle.tb_lock.specs.Rights.{own}
use Rattle.tb_lock.proofs.OwnLemmas.{own-append, own-grows}
use Rattle.tb_lock.proofs.CallLemmas.{own_entries, one_at_most}
use Rattle.tb_lock.proofs.laws.calls_add_their_own.Goals as goal

pub returns-clause-seen : goal.returns-clause-seen
returns-clause-seen c old core entries some meets among =
    own-append some core.log entries ∙ ap (λ seen. seen ++ own some entries) (own-grows some old.rights old.seen core.log meets.grows among)

pub returns-clause-added : goal.returns-clause-added
returns-clause-added c rights core call right = own_entries rights core call right

pub returns-clause-one : goal.returns-clause-one
returns-clause-one c core call = one_at_most (would_log core call)
