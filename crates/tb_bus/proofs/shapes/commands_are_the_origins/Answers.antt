use Rattle.tb_bus.proofs.CommandLemmas.{reached-named}
use Rattle.tb_bus.proofs.SizeLemmas.{out-named}
use Rattle.tb_bus.proofs.shapes.commands_are_the_origins.Goals as goal

pub returns : goal.returns
returns c = record { lanes = reached-named; next = out-named }
