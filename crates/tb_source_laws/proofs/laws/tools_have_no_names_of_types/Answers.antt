use Rattle.tb_source_laws.proofs.Tools.{no-type}
use Rattle.tb_source_laws.proofs.laws.tools_have_no_names_of_types.Goals as goal

pub returns : goal.returns
returns c = no-type
