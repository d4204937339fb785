use Rattle.tb_tools.proofs.Lowest.{first_lane-lowest}
use Rattle.tb_tools.proofs.laws.first_lane_is_lowest.Goals as goal

pub returns : goal.returns
returns c = first_lane-lowest
