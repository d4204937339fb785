use Rattle.std.proofs.Common.{arith}
use Rattle.tb_feed.proofs.LaneNumbers.{no-number}
use Rattle.tb_feed.proofs.line.lane_of.Goals as goal

pub returns-in_default : goal.returns-in_default
returns-in_default c = no-number c.args.bytes.now (λ one. omega (arith, c.in-2.is)) (λ two first. c.if-bytes-eq49.false first)

pub returns-in_default-2 : goal.returns-in_default-2
returns-in_default-2 c = no-number c.args.bytes.now (λ one. omega (arith, c.in_default)) (λ two first. omega (arith, c.in_default))
