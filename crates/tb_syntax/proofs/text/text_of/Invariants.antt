use Rattle.std.proofs.Common.{◌≡◌, ◌++◌, drop}
use Rattle.tb_syntax.specs.Helpers.TokenText.{text_from}
use Rattle.tb_syntax.specs.declared.gap.Before.TheVariants.{Nothing}
use Rattle.tb_syntax.proofs.text.text_of.Given as goal

abbrev pub invariant-loop-kind : goal.invariant-loop-kind
invariant-loop-kind l = l.text.items ++ text_from l.before (drop l.kind-index l.kinds) ≡ text_from Nothing l.kinds
