use Rattle.std.proofs.Common.{◌≡◌, drop}
use Rattle.std.specs.List.{list_any}
use Rattle.tb_iface.specs.Interfaces.{is_same_pattern}
use Rattle.tb_iface.proofs.of_program.has_pattern.Given as goal

-- the patterns that are left decide
abbrev pub invariant-loop-other : goal.invariant-loop-other
invariant-loop-other l = list_any (is_same_pattern l.pattern) (drop l.other-index l.patterns) ≡ list_any (is_same_pattern l.pattern) l.patterns
