use Rattle.tb_parse.proofs.Exits.{meets_err}
use Rattle.tb_parse.proofs.Formals.{formal_stops, formal_found}
use Rattle.tb_parse.proofs.definitions.formal.Goals as goal

pub returns-in_err-name : goal.returns-in_err-name
returns-in_err-name c = meets_err _ _ _ _ _ c.from_residual.ensures.1 c.in_err-name.ensures (λ position e. formal_stops c.args.room c.args.reader.now e)

pub returns : goal.returns
returns c = formal_found c.args.room c.args.reader.now c.in_ok-name.ensures c.eat_sign-result.ensures.found c.eat_sign-result.ensures.behind
