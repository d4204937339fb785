use Rattle.tb_heard_laws.proofs.Takings.{taken-heard}
use Rattle.tb_heard_laws.proofs.laws.taken_lines_are_heard.Goals as goal

pub returns : goal.returns
returns c = taken-heard
