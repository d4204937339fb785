use Rattle.tb_func.proofs.FittingLemmas.{arguments-fit, value-fits}
use Rattle.tb_func.proofs.laws.values_fit_signatures.Goals as goal

pub returns-clause-arguments : goal.returns-clause-arguments
returns-clause-arguments c = arguments-fit

pub returns-clause-value : goal.returns-clause-value
returns-clause-value c = value-fits
