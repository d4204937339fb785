use Rattle.std.specs.Coded.{coded_list}
use Rattle.tb_terms.specs.contracts.term.Term as term
use Rattle.tb_terms.proofs.SameLemmas.{is_same-decided}
use Rattle.tb_tools.proofs.events.are_same.Goals as goal

pub returns : goal.returns
returns c = is_same-decided (coded_list term.the_row.coded) c.args.terms.now c.args.others.now c.same_terms.result c.same_terms.ensures
