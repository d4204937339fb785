use Rattle.std.proofs.Common.{subst}
use Rattle.tb_log.specs.declared.entry.Input.{Input}
use Rattle.tb_pair.specs.Piping.{connect}
use Rattle.tb_pair.specs.Helpers.Settling.{Settles}
use Rattle.tb_pair.proofs.PipeLemmas.{settles_none}
use Rattle.tb_pair.proofs.settle.name_itself.Goals as goal

pub returns-in-Ok : goal.returns-in-Ok
returns-in-Ok g c = subst (λ (it : Input). Settles it c.args.seat.now c.hand_over.new.seat c.hand_over.result) c.in-Ok.ensures.value c.hand_over.ensures

pub returns-in-Err : goal.returns-in-Err
returns-in-Err g c = settles_none connect c.args.seat.now c.stop.new.seat c.stop.ensures
