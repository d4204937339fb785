use Rattle.tb_source_map.proofs.Owns.{sites_are_atoms}
use Rattle.tb_source_map.proofs.laws.sites_are_atoms_of_the_script.Goals as goal

pub returns : goal.returns
returns c = sites_are_atoms
