use Rattle.std.proofs.Common.{◌≡◌, length}
use Rattle.std.specs.List.{All}
use Rattle.tb_feed.specs.Feeds.{MayBeFed, SayAll}
use Rattle.tb_feed.proofs.FeedLemmas.{read_lines}
use Rattle.tb_feed.proofs.reading.read.Given as goal

-- the lines so far say the inputs so far
abbrev pub invariant-loop-line : goal.invariant-loop-line
invariant-loop-line l = record {
  can : (goal.iterator-loop-line).can_next l.line-iterator;
  finite : (goal.iterator-loop-line).is_finite l.line-iterator;
  counted : l.number ≡ length l.yielded;
  said : SayAll (read_lines l.yielded) l.inputs.items;
  fed : All MayBeFed l.inputs.items;
}
