use Rattle.tb_terms.specs.contracts.sort.Sort as sorts
use Rattle.tb_terms.proofs.SameLemmas.{is_same-decided}
use Rattle.tb_types.proofs.fitting.is_same_sort.Goals as goal

pub returns : goal.returns
returns c = is_same-decided sorts.the_row.coded c.args.sort.now c.args.other.now c.is_same.result c.is_same.ensures
