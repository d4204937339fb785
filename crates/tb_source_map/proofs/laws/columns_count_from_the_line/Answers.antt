use Rattle.tb_source_map.proofs.SpotLemmas.{first_line, later_line}
use Rattle.tb_source_map.proofs.laws.columns_count_from_the_line.Goals as goal

pub returns-clause-first : goal.returns-clause-first
returns-clause-first c = first_line

pub returns-clause-later : goal.returns-clause-later
returns-clause-later c = later_line
