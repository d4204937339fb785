use Rattle.std.proofs.Common.{◌≡◌, true, take}
use Rattle.std.specs.List.{flat_map}
use Rattle.tb_refeed.specs.Helpers.Writing.{are_short, entry_line}
use Rattle.tb_refeed.proofs.writing.write_feed.Given as goal

-- the lines of the entries so far are written, and these are short
abbrev pub invariant-loop-index : goal.invariant-loop-index
invariant-loop-index l = record {
  text : l.feed.items ≡ flat_map entry_line (take l.index l.entries);
  short : are_short (take l.index l.entries) ≡ true;
}
