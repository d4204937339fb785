use Rattle.tb_lex.proofs.Outcomes.{found_tokens, only_tokens, found_fault, exact_fault}
use Rattle.tb_lex.proofs.lexer.lex.Goals as goal

pub returns-clause-found : goal.returns-clause-found
returns-clause-found c = found_tokens c.args.bytes.now c.scan.result c.scan.ensures

pub returns-clause-only : goal.returns-clause-only
returns-clause-only c = only_tokens c.args.bytes.now c.scan.result c.scan.ensures

pub returns-clause-fault : goal.returns-clause-fault
returns-clause-fault c = found_fault c.args.bytes.now c.scan.result c.scan.ensures

pub returns-clause-exact : goal.returns-clause-exact
returns-clause-exact c = exact_fault c.args.bytes.now c.scan.result c.scan.ensures
