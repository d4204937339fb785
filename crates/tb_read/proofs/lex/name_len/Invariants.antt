use Rattle.std.proofs.Common.{◌≡◌, ◌+◌, drop}
use Rattle.std.specs.List.{prefix_len}
use Rattle.tb_terms.specs.Names.{is_name_byte}
use Rattle.tb_read.proofs.lex.name_len.Given as goal

abbrev pub invariant-loop-position : goal.invariant-loop-position
invariant-loop-position l =
    l.position + prefix_len is_name_byte (drop l.position l.bytes) ≡ prefix_len is_name_byte l.bytes
