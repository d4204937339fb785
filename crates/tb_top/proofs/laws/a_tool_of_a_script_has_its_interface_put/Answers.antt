use Rattle.tb_top.proofs.Completeness.{iface-completes}
use Rattle.tb_top.proofs.laws.a_tool_of_a_script_has_its_interface_put.Goals as goal

pub returns : goal.returns
returns c = iface-completes (Unit {0})
