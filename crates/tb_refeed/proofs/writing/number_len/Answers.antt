use Rattle.std.proofs.Common.{length, inl, inr, sym, ap, arith}
use Rattle.tb_feed.proofs.LaneNumbers.{lane_digits}
use Rattle.tb_refeed.proofs.writing.number_len.Goals as goal

pub returns-then-lane-lt10-clause-value : goal.returns-then-lane-lt10-clause-value
returns-then-lane-lt10-clause-value c =
    let below = c.if-lane-lt10.true in
    elim (lane_digits c.args.lane c.requires) [ inl one ↦ sym (ap length one.0) | inr two ↦ absurd (omega (arith, two.1)) ]

pub returns-else-lane-lt10-clause-value : goal.returns-else-lane-lt10-clause-value
returns-else-lane-lt10-clause-value c =
    let above = c.if-lane-lt10.false in
    elim (lane_digits c.args.lane c.requires) [ inl one ↦ absurd (omega (arith, one.1)) | inr two ↦ sym (ap length two.0) ]
