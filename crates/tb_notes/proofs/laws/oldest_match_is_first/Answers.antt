use Rattle.tb_notes.proofs.Finding.{oldest-first}
use Rattle.tb_notes.proofs.laws.oldest_match_is_first.Goals as goal

pub returns : goal.returns
returns c = oldest-first
