use Rattle.tb_pair.proofs.PartLemmas.{pair_can, pair_ticks, pair_unite, pair_rooms, pair_count, pipe_in, pipe_out}
use Rattle.tb_pair.proofs.laws.a_pair_parts.Goals as goal

pub returns : goal.returns
returns c = record { can = pair_can; ticks = pair_ticks; unite = pair_unite; rooms = pair_rooms; count = pair_count; pipe = (pipe_in, pipe_out) }
