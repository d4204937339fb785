use Rattle.tb_tools.proofs.Numbering.{one-tool}
use Rattle.tb_tools.proofs.laws.a_term_names_one_tool.Goals as goal

pub returns : goal.returns
returns c = one-tool
