use Rattle.tb_tools.proofs.Lowest.{first_at-smallest}
use Rattle.tb_tools.proofs.laws.first_tool_has_the_smallest_number.Goals as goal

pub returns : goal.returns
returns c = first_at-smallest
