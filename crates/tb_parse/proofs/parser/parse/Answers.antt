use Rattle.tb_syntax.specs.Spelling.{kinds_of}
use Rattle.tb_parse.proofs.Parsed.{only_script, exact_fault}
use Rattle.tb_parse.proofs.parser.parse.Goals as goal

pub returns-clause-only : goal.returns-clause-only
returns-clause-only c =
    let found = rw c.as_slice.ensures at c.read.ensures.found in
    let fault = rw c.as_slice.ensures at c.read.ensures.fault in
    only_script (kinds_of c.args.tokens.now) c.read.result found fault

pub returns-clause-exact : goal.returns-clause-exact
returns-clause-exact c =
    let found = rw c.as_slice.ensures at c.read.ensures.found in
    let fault = rw c.as_slice.ensures at c.read.ensures.fault in
    exact_fault (kinds_of c.args.tokens.now) c.read.result found fault
