use Rattle.std.proofs.Common.{◌≡◌, false, drop}
use Rattle.tb_lex.specs.Helpers.Scanning.{skip_gap}
use Rattle.tb_lex.proofs.gap.skip_gap.Given as goal

abbrev pub invariant-loop-position : goal.invariant-loop-position
invariant-loop-position l = skip_gap l.in_comment (drop l.position l.bytes) ≡ skip_gap false l.bytes
