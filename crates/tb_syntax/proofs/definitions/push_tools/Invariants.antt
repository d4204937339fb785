use Rattle.std.proofs.Common.{◌≡◌, ◌++◌, take}
use Rattle.std.specs.List.{flat_map}
use Rattle.tb_syntax.specs.Helpers.Canonical.{tool_tokens}
use Rattle.tb_syntax.proofs.definitions.push_tools.Given as goal

abbrev pub invariant-loop-tool : goal.invariant-loop-tool
invariant-loop-tool l = l.into ≡ l.initial.into ++ flat_map tool_tokens (take l.tool-index l.tools)
