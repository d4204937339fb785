use Rattle.tb_heard_laws.proofs.Hearing.{heard-given}
use Rattle.tb_heard_laws.proofs.laws.heard_lines_were_given.Goals as goal

pub returns : goal.returns
returns c = heard-given
