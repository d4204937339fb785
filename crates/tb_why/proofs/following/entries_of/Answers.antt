use Rattle.tb_why.proofs.FollowLemmas.{not-stopped}
use Rattle.tb_why.proofs.following.entries_of.Goals as goal

pub returns-in-Err-Line-clause-no_trace : goal.returns-in-Err-Line-clause-no_trace
returns-in-Err-Line-clause-no_trace c = λ e log is_log text. not-stopped c.args.log.now c.in-Err-Line.field-0 (λ none. cc) c.in-Err-Line.ensures.fault log is_log text
