use Rattle.tb_tool_line.proofs.Lines.{lines-same}
use Rattle.tb_tool_line.proofs.laws.tool_lines_are_unique.Goals as goal

pub returns : goal.returns
returns c = lines-same
