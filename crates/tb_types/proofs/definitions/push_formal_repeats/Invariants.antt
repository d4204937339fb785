use Rattle.std.proofs.Common.{◌≡◌, ◌++◌, drop}
use Rattle.tb_types.specs.Definitions.{none_seen, formal_repeats}
use Rattle.tb_types.specs.Helpers.Seen.{was_seen}
use Rattle.tb_types.proofs.definitions.push_formal_repeats.Given as goal

-- the violations of the remaining names come after the noted violations
abbrev pub invariant-loop-formal : goal.invariant-loop-formal
invariant-loop-formal l = l.into ++ formal_repeats (was_seen l.seen.names) (drop l.formal-index l.formals) ≡ l.initial.into ++ formal_repeats none_seen l.formals
