use Rattle.tb_tools.specs.Inputs.{closed, lost}
use Rattle.tb_tools.proofs.Numbering.{opening-numbered, put_line-numbered, while_up-numbered, lost-keeps, closed-keeps}
use Rattle.tb_tools.proofs.laws.inputs_keep_numbers.Goals as goal

pub returns-clause-opening : goal.returns-clause-opening
returns-clause-opening c = opening-numbered

pub returns-clause-line : goal.returns-clause-line
returns-clause-line c = put_line-numbered

pub returns-clause-gone : goal.returns-clause-gone
returns-clause-gone c = while_up-numbered lost lost-keeps

pub returns-clause-cut : goal.returns-clause-cut
returns-clause-cut c = while_up-numbered closed closed-keeps
