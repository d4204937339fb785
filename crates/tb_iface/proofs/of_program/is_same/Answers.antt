use Rattle.tb_terms.specs.contracts.pattern.Pattern as pattern
use Rattle.tb_terms.proofs.SameLemmas.{is_same-decided}
use Rattle.tb_iface.proofs.of_program.is_same.Goals as goal

pub returns : goal.returns
returns c = is_same-decided pattern.the_row.coded c.args.pattern.now c.args.other.now c.is_same.result c.is_same.ensures
