use Rattle.tb_headline.proofs.Entries.{idle-at_quiet}
use Rattle.tb_headline.proofs.laws.quiet_is_logged_only_if_nothing_can_step.Goals as goal

pub returns : goal.returns
returns c = idle-at_quiet
