use Rattle.std.proofs.Common.{◌≡◌, ◌++◌, take}
use Rattle.std.specs.List.{flat_map}
use Rattle.tb_types.specs.Definitions.{tool_faults}
use Rattle.tb_types.proofs.definitions.push_sort_words.Given as goal

abbrev pub invariant-loop-tool : goal.invariant-loop-tool
invariant-loop-tool l = l.into ≡ l.initial.into ++ flat_map tool_faults (take l.tool-index l.tools)
