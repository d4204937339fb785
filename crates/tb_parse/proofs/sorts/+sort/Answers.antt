use Rattle.std.proofs.Common.{rules, arith}
use Rattle.std.proofs.lemmas.Grind.{common_steps}
use Rattle.tb_parse.specs.Helpers.Parsing.{sort}
use Rattle.tb_parse.proofs.Exits.{meets_err}
use Rattle.tb_parse.proofs.sorts.+sort.Goals as goal

pub returns-in_err-skip_sign : goal.returns-in_err-skip_sign
unfolding sort
returns-in_err-skip_sign t c =
    meets_err _ _ _ _ _ c.from_residual-in_err-skip_sign.ensures.1 c.in_err-skip_sign.ensures (λ position e. first_of (search rules, grind (arith, common_steps)))
