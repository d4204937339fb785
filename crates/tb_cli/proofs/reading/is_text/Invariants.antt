use Rattle.std.proofs.Common.{◌≡◌, drop}
use Rattle.std.specs.List.{list_all}
use Rattle.tb_terms.specs.Names.{is_text_byte}
use Rattle.tb_cli.proofs.reading.is_text.Given as goal

-- the remaining bytes decide
abbrev pub invariant-loop-byte : goal.invariant-loop-byte
invariant-loop-byte l = list_all is_text_byte (drop l.byte-index l.bytes) ≡ list_all is_text_byte l.bytes
