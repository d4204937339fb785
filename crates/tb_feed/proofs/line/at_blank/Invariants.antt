use Rattle.std.proofs.Common.{◌≡◌, take, true}
use Rattle.tb_feed.specs.Helpers.OneLine.{lacks_blank}
use Rattle.tb_feed.proofs.line.at_blank.Given as goal

-- no blank so far
abbrev pub invariant-loop-position : goal.invariant-loop-position
invariant-loop-position l = lacks_blank (take l.position l.bytes) ≡ true
