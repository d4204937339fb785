use Rattle.tb_terms.specs.contracts.term.Term as term
use Rattle.tb_terms.proofs.SameLemmas.{is_same-decided}
use Rattle.tb_func.proofs.lists.is_same.Goals as goal

pub returns : goal.returns
returns c = is_same-decided term.the_row.coded c.args.a.now c.args.b.now c.same.result c.same.ensures
