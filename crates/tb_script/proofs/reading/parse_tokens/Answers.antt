use Rattle.tb_script.proofs.Findings.{script_found}
use Rattle.tb_script.proofs.reading.parse_tokens.Goals as goal

pub returns-in-Ok : goal.returns-in-Ok
returns-in-Ok c = script_found c.args.tokens.now c.parse.result c.parse.ensures.only c.parse.ensures.exact c.in-Ok.script c.in-Ok.is c.in-Ok.ensures.found
