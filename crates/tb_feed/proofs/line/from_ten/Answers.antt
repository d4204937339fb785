use Rattle.std.proofs.Common.{arith}
use Rattle.tb_feed.proofs.LaneNumbers.{two-numbers, no-two}
use Rattle.tb_feed.proofs.line.from_ten.Goals as goal

pub returns-in-48-to-54 : goal.returns-in-48-to-54
returns-in-48-to-54 c = two-numbers c.args.digit (omega (arith, c.in-48-to-54)) (omega (arith, c.in-48-to-54))

pub returns-in_default : goal.returns-in_default
returns-in_default c = no-two c.args.digit (λ low high. omega (arith, c.in_default))

pub returns-in_default-2 : goal.returns-in_default-2
returns-in_default-2 c = no-two c.args.digit (λ low high. omega (arith, c.in_default))
