use Rattle.std.proofs.Common.{◌≡◌, ◌++◌, map, take}
use Rattle.tb_terms.specs.Texts.{joined}
use Rattle.tb_iface.specs.PatternTexts.{pattern_text}
use Rattle.tb_iface.proofs.write.+push.Given as goal

abbrev pub invariant-push_joined-loop-position : goal.invariant-push_joined-loop-position
invariant-push_joined-loop-position l = l.into.items ≡ l.initial.into.items ++ joined (map pattern_text (take l.position l.patterns))
