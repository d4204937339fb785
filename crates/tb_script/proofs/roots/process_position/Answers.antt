use Rattle.std.proofs.Common.{◌∙◌, sym}
use Rattle.tb_script.proofs.Positions.{found_position, no_position}
use Rattle.tb_script.proofs.roots.process_position.Goals as goal

pub returns-in-Some : goal.returns-in-Some
returns-in-Some c = found_position c.args.names.now.script.now c.args.name.now c.in-Some.position (sym c.process_position.ensures ∙ c.in-Some.is)

pub returns-in-None : goal.returns-in-None
returns-in-None c = c.len.ensures ∙ no_position c.args.names.now.script.now c.args.name.now (sym c.process_position.ensures ∙ c.in-None.is)
