-- Scripts without cycles of calls; the body that is the expansion of a process; and the errors if a process has no body.
use Rattle.std.specs.Prelude.{◌≡◌, ℕ, true, false, List, length}
use Rattle.tb_body.specs.declared.body.Body.{Body}
use Rattle.tb_syntax.specs.declared.script.ProcDef.{ProcDef}
use Rattle.tb_syntax.specs.declared.script.Script.{Script}
use Rattle.tb_expand.specs.declared.fault.ExpandFault.{ExpandFault}
use Rattle.tb_expand.specs.declared.fault.ExpandFault.TheVariants as fault
use Rattle.tb_expand.specs.Cycles.{IsCycle}
use Rattle.tb_expand.specs.Expansion.{expansion_of, is_too_large}

-- no calls form a cycle
abbrev pub HasNoCycle : Script → Type 0
HasNoCycle script = (names : List (List ℕ)) → IsCycle script names → ⊥

-- the body is the expansion of the process, and its first slots are the process's parameters
pub record IsExpansion (script : Script) (d : ProcDef) (body : Body) : Type 0 where
  pub tree : body.tree ≡ (expansion_of script d).tree
  pub atoms : body.atoms ≡ (expansion_of script d).atoms
  pub sorts : body.sorts ≡ (expansion_of script d).sorts
  pub formals : body.formals ≡ length d.formals

-- the process has this body: no calls form a cycle, and the expansion is within the limits
pub record IsBodyOf (script : Script) (d : ProcDef) (body : Body) : Type 0 where
  pub no_cycle : HasNoCycle script
  pub small : is_too_large (expansion_of script d) ≡ false
  pub is : IsExpansion script d body

-- no calls form a cycle, and the expansion of the process passes a limit
pub record IsTooLarge (script : Script) (d : ProcDef) (name : List ℕ) : Type 0 where
  pub no_cycle : HasNoCycle script
  pub large : is_too_large (expansion_of script d) ≡ true
  pub named : name ≡ d.name

-- the errors for a process without a body; `NoMemory` makes no claim, and may come at any time
abbrev pub HasFault : Script → ProcDef → ExpandFault → Type 0
HasFault script d (fault.Recursion names) = IsCycle script names
HasFault script d (fault.TooLarge name) = IsTooLarge script d name
HasFault script d fault.NoMemory = Unit {0}

-- the errors for calls: calls form this cycle, or the call ran out of memory
abbrev pub IsCallFault : Script → ExpandFault → Type 0
IsCallFault script (fault.Recursion names) = IsCycle script names
IsCallFault script (fault.TooLarge name) = ⊥
IsCallFault script fault.NoMemory = Unit {0}

-- the errors for one process: its expansion is too large, or the call ran out of memory
abbrev pub IsBodyFault : Script → ProcDef → ExpandFault → Type 0
IsBodyFault script d (fault.Recursion names) = ⊥
IsBodyFault script d (fault.TooLarge name) = IsTooLarge script d name
IsBodyFault script d fault.NoMemory = Unit {0}
