use Rattle.tb_verify.proofs.VerdictLemmas.{crowded_before, one_verdict}
use Rattle.tb_verify.proofs.laws.a_log_has_one_verdict.Goals as goal

pub returns-clause-one : goal.returns-clause-one
returns-clause-one c = one_verdict

pub returns-clause-before : goal.returns-clause-before
returns-clause-before c = crowded_before
