use denote.Exit.{no}
use denote.Param.Send.{param_send, arg_send}
use Rattle.tb_run.proofs.SendLemmas.{worker_send}
use Rattle.tb_pair_run.proofs.SendLemmas.{lent_send}
use Rattle.tb_pair_run.proofs.crewing.crew_all.Goals as goal

pub beside-requires-send-J : goal.beside-requires-send-J
beside-requires-send-J g c κs within = param_send _ _ (arg_send _ no _ (worker_send _ _ _ _ _ c.type_bounds.send-W c.type_bounds.send-W-Plan c.type_bounds.send-W-Taken _ _ c.type_bounds.send-I c.type_bounds.send-O))

pub beside-requires-send-L : goal.beside-requires-send-L
beside-requires-send-L g c κs within = param_send _ _ (arg_send _ no _ (lent_send _ _ _ _ _ _ c.type_bounds.send-W c.type_bounds.send-W-Plan c.type_bounds.send-W-Taken _ c.type_bounds.send-C))

pub beside-requires-clause-lent : goal.beside-requires-clause-lent
beside-requires-clause-lent g c κs within = (c.requires.ticking.one, c.requires.ticking.one_open, c.requires.ticking.other, c.requires.ticking.other_open)
