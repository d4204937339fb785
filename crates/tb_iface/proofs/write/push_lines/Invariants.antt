use Rattle.std.proofs.Common.{◌≡◌, ◌++◌, take}
use Rattle.tb_iface.specs.PatternTexts.{pattern_lines}
use Rattle.tb_iface.proofs.write.push_lines.Given as goal

abbrev pub invariant-loop-pattern : goal.invariant-loop-pattern
invariant-loop-pattern l = l.into.items ≡ l.initial.into.items ++ pattern_lines l.word (take l.pattern-index l.patterns)
