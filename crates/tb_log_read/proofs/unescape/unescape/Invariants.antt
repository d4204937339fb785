use Rattle.std.proofs.Common.{◌≡◌, ◌++◌, false, drop}
use Rattle.tb_log_read.specs.Helpers.Unescaping.{unescaped_from}
use Rattle.tb_log_read.proofs.unescape.unescape.Given as goal

-- the bytes so far and the bytes that the remaining text gives are the whole string
abbrev pub invariant-loop-byte : goal.invariant-loop-byte
invariant-loop-byte l =
    l.text.items ++ unescaped_from l.is_escaped (drop l.byte-index l.bytes) ≡ unescaped_from false l.bytes
