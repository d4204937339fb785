use Rattle.tb_types.proofs.FirstLaws.{one_first, none_first}
use Rattle.tb_types.proofs.laws.first_fault_is_one.Goals as goal

pub returns : goal.returns
returns c = record { one = one_first; none = none_first }
