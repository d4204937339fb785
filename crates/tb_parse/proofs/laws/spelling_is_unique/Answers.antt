use Rattle.tb_parse.proofs.ReadScripts.{unique}
use Rattle.tb_parse.proofs.laws.spelling_is_unique.Goals as goal

pub returns : goal.returns
returns c = unique
