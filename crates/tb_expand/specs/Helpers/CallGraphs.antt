-- The graph of the calls of a script, by the positions of its processes.
use Rattle.std.specs.Prelude.{ℕ, List, [], map, slice_index_or, option_to_list, flat_map, Contains}
use Rattle.tb_syntax.specs.declared.script.ProcDef.{ProcDef}
use Rattle.tb_syntax.specs.declared.script.Script.{Script}
use Rattle.tb_types.specs.NamePositions.{position_of, process_name}
use Rattle.tb_expand.specs.Cycles.{called, Differ}
use Rattle.tb_expand.specs.Helpers.Graphs.{Graph}

-- the names of the processes, in the order of their definitions
abbrev pub names_in : Script → List (List ℕ)
names_in script = map process_name script.procs

-- the positions of the processes with these names; a name that no process has is left out
abbrev pub positions_of : Script → List (List ℕ) → List ℕ
positions_of script names = flat_map (λ name. option_to_list (position_of (names_in script) name)) names

-- the call graph: the successors of a process are the processes that its body calls, in the order of the source
abbrev pub graph_of : Script → Graph
graph_of script = map (λ (d : ProcDef). positions_of script (called d.body)) script.procs

-- the names of the processes at these positions
abbrev pub name_at : Script → ℕ → List ℕ
name_at script position = slice_index_or (names_in script) position []

abbrev pub names_of : Script → List ℕ → List (List ℕ)
names_of script positions = map (name_at script) positions

-- no two processes have the same name
abbrev pub NamesDiffer : Script → Type 0
NamesDiffer script = Differ (names_in script)

-- each process that is called is defined
abbrev pub AllDefined : Script → Type 0
AllDefined script = (d : ProcDef) (name : List ℕ) → Contains script.procs d → Contains (called d.body) name → Contains (names_in script) name
