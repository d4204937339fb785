use Rattle.std.proofs.Common.{◌≡◌, ◌++◌, ℕ, List, map, take, drop}
use Rattle.tb_types.specs.Definitions.{none_seen, process_repeats}
use Rattle.tb_types.specs.Helpers.Seen.{was_seen}
use Rattle.tb_types.specs.NamePositions.{position_in, position_of, process_name}
use Rattle.tb_types.proofs.names.process_positions.Given as goal

-- The names so far have their positions. The violations of the remaining names come after the noted violations.
abbrev pub invariant-loop-position : goal.invariant-loop-position
invariant-loop-position l = record {
  kept : (name : List ℕ) → position_in l.positions name ≡ position_of (map process_name (take l.position l.processes)) name;
  noted : l.into ++ process_repeats (was_seen l.positions) (drop l.position l.processes) ≡ l.initial.into ++ process_repeats none_seen l.processes;
}
