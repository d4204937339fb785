use Rattle.tb_bus.proofs.TraceLemmas.{trace-prefix, trace-rest, trace-append}
use Rattle.tb_bus.proofs.laws.prefixes_are_traces.Goals as goal

pub returns : goal.returns
returns c = record { prefix = trace-prefix; rest = trace-rest; joined = trace-append }
