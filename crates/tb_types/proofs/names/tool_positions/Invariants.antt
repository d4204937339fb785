use Rattle.std.proofs.Common.{◌≡◌, ℕ, List, map, take}
use Rattle.tb_types.specs.NamePositions.{position_in, position_of, tool_name}
use Rattle.tb_types.proofs.names.tool_positions.Given as goal

-- the names so far have their positions
abbrev pub invariant-loop-position : goal.invariant-loop-position
invariant-loop-position l = (name : List ℕ) → position_in l.positions name ≡ position_of (map tool_name (take l.position l.tools)) name
