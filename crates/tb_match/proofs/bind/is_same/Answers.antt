use Rattle.tb_terms.specs.contracts.term.Term as term
use Rattle.tb_terms.proofs.SameLemmas.{is_same-decided}
use Rattle.tb_match.proofs.bind.is_same.Goals as goal

pub returns : goal.returns
returns c = is_same-decided term.the_row.coded c.args.term.now c.args.other.now c.same.result c.same.ensures
