use Rattle.tb_iface.proofs.HandingLemmas.{handed-put, put-told}
use Rattle.tb_iface.proofs.laws_handed.lines_handed_out_were_put.Goals as goal

pub returns : goal.returns
returns c = record { put = handed-put; told = put-told }
