use Rattle.std.proofs.Common.{arith}
use Rattle.tb_chart.specs.Helpers.Additions.{is_seat}
use Rattle.tb_chart.proofs.ListLemmas.{none_any}
use Rattle.tb_chart.proofs.lines.find_seat.Goals as goal

pub returns-clause-none : goal.returns-clause-none
returns-clause-none c =
    none_any (is_seat c.args.seat) c.args.lines.now (λ k d within. c.loop-index.invariant k (omega (arith, within)) d)
