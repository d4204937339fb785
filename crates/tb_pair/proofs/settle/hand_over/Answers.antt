use Rattle.std.proofs.Common.{subst, sym}
use Rattle.tb_pair.specs.Helpers.Settling.{Settles}
use Rattle.tb_pair.proofs.PipeLemmas.{settles}
use Rattle.tb_pair.proofs.settle.hand_over.Goals as goal

pub returns : goal.returns
returns g c = subst (Settles c.args.input c.args.seat.now c.hand.new.seat) (sym c.settle.ensures) (settles c.args.input c.args.seat.now c.hand.new.seat c.hand.result c.hand.ensures)
