use Rattle.std.proofs.Common.{◌≡◌, ◌+◌, ◌-◌, length, map, take, drop, [], string_bytes}
use Rattle.tb_cli.specs.Parts.{parts_of}
use Rattle.tb_cli.specs.Words.{parts_answer}
use Rattle.tb_cli.specs.Helpers.Tables.{form_of}
use Rattle.tb_cli.proofs.Scanning.{IsWhole}
use Rattle.tb_cli.proofs.reading.check_parts.Given as goal

abbrev pub decreases-loop-index : goal.decreases-loop-index
decreases-loop-index l = length l.words - l.index

-- The answer for the remaining arguments is the answer for all. The arguments before them end where a part ends.
abbrev pub invariant-loop-index : goal.invariant-loop-index
invariant-loop-index l = record {
  answer : parts_answer (form_of l.form) (parts_of (take l.index (map string_bytes l.words))) (l.index + l.first) (parts_of (drop l.index (map string_bytes l.words))) ≡ parts_answer (form_of l.form) [] l.first (parts_of (map string_bytes l.words));
  whole : IsWhole (take l.index (map string_bytes l.words));
}
