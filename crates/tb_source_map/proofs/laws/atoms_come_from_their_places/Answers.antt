use Rattle.tb_source_map.proofs.Comings.{all_come}
use Rattle.tb_source_map.proofs.laws.atoms_come_from_their_places.Goals as goal

pub returns : goal.returns
returns c = all_come
