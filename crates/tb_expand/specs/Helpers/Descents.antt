-- Orders of a script's processes in which each process comes after the processes that it calls.
use Rattle.std.specs.Prelude.{◌≡◌, ℕ, ◌<◌, List, map, length, take, slice_get, Some, Contains}
use Rattle.tb_syntax.specs.declared.script.ProcDef.{ProcDef}
use Rattle.tb_syntax.specs.declared.script.Script.{Script}
use Rattle.tb_types.specs.NamePositions.{position_of, process_name}
use Rattle.tb_expand.specs.Cycles.{called}

-- the process of this name is defined, and its position is among these positions
pub record StandsAmong (script : Script) (positions : List ℕ) (name : List ℕ) : Type 0 where
  pub position : ℕ
  pub named : position_of (map process_name script.procs) name ≡ Some position
  pub there : Contains positions position

pub record Descends (script : Script) (order : List ℕ) : Type 0 where
  pub complete : (position : ℕ) → position < length script.procs → Contains order position
  pub behind : (at position : ℕ) (d : ProcDef) (name : List ℕ) → slice_get order at ≡ Some position → slice_get script.procs position ≡ Some d → Contains (called d.body) name → StandsAmong script (take at order) name
