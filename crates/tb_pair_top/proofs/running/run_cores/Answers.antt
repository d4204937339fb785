use denote.Exit.{no}
use denote.Param.Send.{param_send, arg_send}
use Rattle.tb_walk.proofs.SendLemmas.{walk_send, code_send, taken_send}
use Rattle.tb_pair_top.specs.Outcomes.{pair_text}
use Rattle.tb_pair_top.proofs.Parts.{logs-by, pair-ended, pair-tells, run-fault}
use Rattle.tb_pair_top.proofs.running.run_cores.Goals as goal

pub returns-clause-outcome : goal.returns-clause-outcome
returns-clause-outcome g c =
    pair-ended c.args.ticks c.args.cores.first.origin c.args.cores.second.origin _ _ c.run_pair-why.result.1 c.run_pair-why.result.2 c.run_pair-why.result.0 c.put_logs.result c.run_pair-why.ensures.runs
    (logs-by c.run_pair-why.result.0 c.log.result.now.entries c.log-2.result.now.entries c.run_pair-why.result.1.log c.run_pair-why.result.2.log _ _ _ _ c.put_logs.result c.log.ensures.value c.log-2.ensures.value c.put_logs.ensures)

pub returns-clause-tells : goal.returns-clause-tells
returns-clause-tells g c =
    pair-tells c.args.ticks c.args.cores.first.origin c.args.cores.second.origin _ _ c.run_pair-why.result.1 c.run_pair-why.result.2 (pair_text c.log.result.now.entries c.log-2.result.now.entries) c.run_pair-why.result.0 c.put_logs.result c.run_pair-why.ensures.runs c.put_logs.ensures

pub returns-clause-behind : goal.returns-clause-behind
returns-clause-behind g c = run-fault c.run_pair-why.result.0 _ _ _ _ _ c.put_logs.result c.put_logs.ensures

pub run_pair-why-requires-send-W : goal.run_pair-why-requires-send-W
run_pair-why-requires-send-W g c κs within = param_send _ _ (arg_send _ no _ walk_send)

pub run_pair-why-requires-send-W-Plan : goal.run_pair-why-requires-send-W-Plan
run_pair-why-requires-send-W-Plan g c κs within = param_send _ _ (arg_send _ no _ code_send)

pub run_pair-why-requires-send-W-Taken : goal.run_pair-why-requires-send-W-Taken
run_pair-why-requires-send-W-Taken g c κs within = param_send _ _ (arg_send _ no _ taken_send)
