use Rattle.std.proofs.Common.{arith}
use Rattle.tb_feed.proofs.LaneNumbers.{one-number, no-one}
use Rattle.tb_feed.proofs.line.below_ten.Goals as goal

pub returns-in-49-to-57 : goal.returns-in-49-to-57
returns-in-49-to-57 c = one-number c.args.digit (omega (arith, c.in-49-to-57)) (omega (arith, c.in-49-to-57))

pub returns-in_default : goal.returns-in_default
returns-in_default c = no-one c.args.digit (λ low high. omega (arith, c.in_default))

pub returns-in_default-2 : goal.returns-in_default-2
returns-in_default-2 c = no-one c.args.digit (λ low high. omega (arith, c.in_default))
