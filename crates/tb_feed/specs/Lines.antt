-- The text of the line of a fault of the feed, at its line, or by its number of bytes.
use Rattle.std.specs.Prelude.{ℕ, List, ◌++◌, codes}
use Rattle.std.specs.Fmt.{decimal}
use Rattle.tb_feed.specs.declared.fault.FeedFault.{FeedFault}
use Rattle.tb_feed.specs.declared.fault.FeedFault.TheVariants.{Line, TooLong, NoMemory}

abbrev pub feed_line : FeedFault → List ℕ
feed_line (Line number) = codes "feed: line " ++ decimal number
feed_line (TooLong bytes) = codes "feed: too long " ++ decimal bytes
feed_line NoMemory = codes "no memory"
