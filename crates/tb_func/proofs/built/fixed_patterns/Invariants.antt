use Rattle.std.proofs.Common.{◌≡◌, map}
use Rattle.tb_terms.specs.declared.pattern.Pattern.TheVariants as pattern
use Rattle.tb_func.proofs.built.fixed_patterns.Given as goal

abbrev pub invariant-loop-term : goal.invariant-loop-term
invariant-loop-term l = l.patterns ≡ map pattern.Fixed l.yielded
