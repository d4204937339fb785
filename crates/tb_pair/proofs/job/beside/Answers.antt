use denote.Exit.{no}
use denote.Param.Send.{param_send, arg_send}
use Rattle.tb_pair.proofs.SendLemmas.{job_send}
use Rattle.tb_pair.proofs.job.beside.Goals as goal

pub beside-requires-send-J : goal.beside-requires-send-J
beside-requires-send-J g c κs within = param_send _ _ (arg_send _ no _ (job_send _ _ _ _ _ c.type_bounds.send-W c.type_bounds.send-W-Plan c.type_bounds.send-W-Taken _ c.type_bounds.send-J))
