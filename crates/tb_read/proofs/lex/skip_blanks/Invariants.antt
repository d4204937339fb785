use Rattle.std.proofs.Common.{◌≡◌, drop}
use Rattle.tb_read.specs.Lexing.{skip_blanks}
use Rattle.tb_read.proofs.lex.skip_blanks.Given as goal

abbrev pub invariant-loop-position : goal.invariant-loop-position
invariant-loop-position l = skip_blanks (drop l.position l.bytes) ≡ skip_blanks l.bytes
