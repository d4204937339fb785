use Rattle.tb_iface.proofs.HeardLemmas.{told-matches, heard-matches}
use Rattle.tb_iface.proofs.laws_heard.told_and_heard_terms_match_the_interface.Goals as goal

pub returns : goal.returns
returns c = record { told = told-matches; heard = heard-matches }
