use Rattle.std.proofs.Common.{◌≡◌, ◌++◌, drop}
use Rattle.tb_types.specs.Definitions.{none_seen, tool_repeats}
use Rattle.tb_types.specs.Helpers.Seen.{was_seen}
use Rattle.tb_types.proofs.definitions.push_tool_repeats.Given as goal

-- the violations of the remaining names come after the noted violations
abbrev pub invariant-loop-tool : goal.invariant-loop-tool
invariant-loop-tool l = l.into ++ tool_repeats (was_seen l.seen.names) (drop l.tool-index l.tools) ≡ l.initial.into ++ tool_repeats none_seen l.tools
