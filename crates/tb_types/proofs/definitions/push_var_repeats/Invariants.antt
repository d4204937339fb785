use Rattle.std.proofs.Common.{◌≡◌, ◌++◌, drop}
use Rattle.tb_types.specs.Definitions.{none_seen, var_repeats}
use Rattle.tb_types.specs.Helpers.Seen.{was_seen}
use Rattle.tb_types.proofs.definitions.push_var_repeats.Given as goal

-- the violations of the remaining names come after the noted violations
abbrev pub invariant-loop-var : goal.invariant-loop-var
invariant-loop-var l = l.into ++ var_repeats (was_seen l.seen.names) (drop l.var-index l.vars) ≡ l.initial.into ++ var_repeats none_seen l.vars
