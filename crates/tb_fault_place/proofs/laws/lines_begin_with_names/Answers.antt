use Rattle.tb_fault_place.proofs.Named.{begins_line}
use Rattle.tb_fault_place.proofs.laws.lines_begin_with_names.Goals as goal

pub returns : goal.returns
returns c = begins_line
