use Rattle.std.proofs.Common.{◌≤◌, length, subst, arith}
use Rattle.tb_syntax.specs.Spelling.{kinds_of}
use Rattle.tb_parse.specs.Helpers.Parsing.{script}
use Rattle.tb_parse.specs.Helpers.Defining.{Judges}
use Rattle.tb_parse.specs.Helpers.Reading.{Ahead, runs}
use Rattle.tb_parse.proofs.Opened.{same_length}
use Rattle.tb_parse.proofs.Parsed.{judged_found, judged_fault}
use Rattle.tb_parse.proofs.parser.read.Goals as goal

pub returns-clause-found : goal.returns-clause-found
returns-clause-found c =
    let tokens = c.args.tokens.now in
    let judged = subst (λ (a : Ahead). Judges (runs (script (length tokens)) a) c.script.result) c.new-reader.ensures c.script.ensures in
    judged_found (kinds_of tokens) (length tokens) c.script.result c.in_default.ensures judged

pub returns-clause-fault : goal.returns-clause-fault
returns-clause-fault c =
    let tokens = c.args.tokens.now in
    let enough : length (kinds_of tokens) ≤ length tokens = omega (arith, same_length tokens) in
    let judged = subst (λ (a : Ahead). Judges (runs (script (length tokens)) a) c.script.result) c.new-reader.ensures c.script.ensures in
    judged_fault (kinds_of tokens) (length tokens) c.script.result enough c.in_default.ensures judged
