use Rattle.tb_func.proofs.PlainPatterns.{plain-fixed}
use Rattle.tb_func.proofs.laws.plain_expressions_are_fixed.Goals as goal

pub returns : goal.returns
returns c = plain-fixed
