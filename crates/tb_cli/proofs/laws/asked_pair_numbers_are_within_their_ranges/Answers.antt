use Rattle.tb_cli.proofs.Ranges.{asked_pair-within}
use Rattle.tb_cli.proofs.laws.asked_pair_numbers_are_within_their_ranges.Goals as goal

pub returns : goal.returns
returns c = asked_pair-within
