use denote.Exit.{no}
use denote.Param.Send.{param_send, arg_send}
use Rattle.tb_walk.proofs.SendLemmas.{walk_send, code_send, taken_send}
use Rattle.tb_top.proofs.Parts.{run-ended, out-rose, clock-rose, crew-rose}
use Rattle.tb_top.proofs.run.run_core.Goals as goal

pub returns-clause-outcome : goal.returns-clause-outcome
returns-clause-outcome g c = run-ended c.args.ticks c.args.core.origin _ _ c.run-why.result.1 c.run-why.result.0 c.after_run.result c.run-why.ensures.runs c.after_run.ensures.ends

pub returns-clause-out_rose : goal.returns-clause-out_rose
returns-clause-out_rose g c = out-rose c.args.ticks c.args.core.origin _ _ c.run-why.result.1 c.run-why.result.0 c.after_run.result c.run-why.ensures.runs c.after_run.ensures.ends

pub returns-clause-clock_rose : goal.returns-clause-clock_rose
returns-clause-clock_rose g c = clock-rose c.args.ticks c.args.core.origin _ _ c.run-why.result.1 c.run-why.result.0 c.after_run.result c.run-why.ensures.runs c.after_run.ensures.ends

pub returns-clause-crew_rose : goal.returns-clause-crew_rose
returns-clause-crew_rose g c = crew-rose c.args.ticks c.args.core.origin _ _ c.run-why.result.1 c.run-why.result.0 c.after_run.result c.run-why.ensures.runs c.after_run.ensures.ends

pub run-why-requires-send-W : goal.run-why-requires-send-W
run-why-requires-send-W g c κs within = param_send _ _ (arg_send _ no _ walk_send)

pub run-why-requires-send-W-Plan : goal.run-why-requires-send-W-Plan
run-why-requires-send-W-Plan g c κs within = param_send _ _ (arg_send _ no _ code_send)

pub run-why-requires-send-W-Taken : goal.run-why-requires-send-W-Taken
run-why-requires-send-W-Taken g c κs within = param_send _ _ (arg_send _ no _ taken_send)
