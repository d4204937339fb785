use Rattle.tb_tool_line.proofs.Lines.{each-line}
use Rattle.tb_tool_line.proofs.laws.each_line_is_one.Goals as goal

pub returns : goal.returns
returns c = each-line
