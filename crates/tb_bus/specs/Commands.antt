-- The commands of an origin, the size of the largest command, and the largest size of an entry of its traces.
use Rattle.std.specs.Prelude.{ℕ, List, ◌++◌, map, max, Contains, ⊤}
use Rattle.std.specs.List.{All, filter_map}
use Rattle.tb_terms.specs.Sizes.{greatest}
use Rattle.tb_body.specs.declared.program.Tool.{Tool}
use Rattle.tb_log.specs.Limits.{out_size}
use Rattle.tb_log.specs.declared.entry.Out.{Out}
use Rattle.tb_log.specs.declared.entry.Out.TheVariants.{Start, Line, End}
use Rattle.tb_tools.specs.Lanes.{Lane, BenchState}
use Rattle.tb_bus.specs.declared.origin.Origin.{Origin}

-- the commands that start the first lanes, and the commands of the kinds of tools that have one
abbrev pub commands_of : Origin → List (List ℕ)
commands_of origin = origin.connects ++ filter_map (λ (tool : Tool). tool.command) origin.program.tools

-- the size of a command as an output
abbrev pub command_size : List ℕ → ℕ
command_size command = out_size (Start command)

-- The size of the largest command of an origin; 0 if it has none.
abbrev pub largest_command : Origin → ℕ
largest_command origin = greatest (map command_size (commands_of origin))

-- The largest size of an entry: that of two terms of the largest size, or that of the largest command if it is larger.
abbrev pub most_entry_size : Origin → ℕ
most_entry_size origin = max 131072 (largest_command origin)

-- an output is a command of the origin, or no command
abbrev pub IsNamed : Origin → Out → Type 0
IsNamed origin (Start command) = Contains (commands_of origin) command
IsNamed origin (Line term) = ⊤
IsNamed origin End = ⊤

-- each command that is queued on a lane is a command of the origin
abbrev pub AreNamed : Origin → BenchState → Type 0
AreNamed origin bench = All (λ (lane : Lane). All (IsNamed origin) lane.outs) bench.lanes
