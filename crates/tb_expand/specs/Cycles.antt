-- The calls between processes, and the cycles of calls.
use Rattle.std.specs.Prelude.{◌≡◌, ℕ, ◌<◌, List, [], ◌∷◌, ◌++◌, Contains, Option, Some, None}
use Rattle.tb_syntax.specs.declared.proc.Proc.{Proc}
use Rattle.tb_syntax.specs.declared.proc.Proc.TheOpen.{Proc-F, Atom, Call as CallOf, Seq, Alt, Star, Par, Disrupt, If, Let}
use Rattle.tb_syntax.specs.declared.proc.Proc.TheFolds.{fold-Proc}
use Rattle.tb_syntax.specs.declared.script.ProcDef.{ProcDef}
use Rattle.tb_syntax.specs.declared.script.Script.{Script}
use Rattle.tb_expand.specs.Acts.{process_of}

abbrev pub or_none : Option (List (List ℕ)) → List (List ℕ)
or_none None = []
or_none (Some names) = names

abbrev pub called_step : Proc-F (List (List ℕ)) → List (List ℕ)
called_step (Atom def) = []
called_step (CallOf call) = call.name ∷ []
called_step (Seq x y) = x ++ y
called_step (Alt x y) = x ++ y
called_step (Star x y) = x ++ y
called_step (Par x y) = x ++ y
called_step (Disrupt x y) = x ++ y
called_step (If test x y) = x ++ or_none y
called_step (Let vars x) = x

-- the names of the processes that a body calls, in the order of the source; a created process isn't called
abbrev pub called : Proc → List (List ℕ)
called = fold-Proc (List (List ℕ)) called_step

-- a process with the name `caller` is defined, and its body calls `name`
abbrev pub Calls : Script → List ℕ → List ℕ → Type 0
Calls script caller name = (d : ProcDef) × Contains script.procs d × (d.name ≡ caller) × Contains (called d.body) name

-- the caller calls the first of these processes, each calls the next, and the last calls `back`
abbrev pub IsCallPath : Script → List ℕ → List ℕ → List (List ℕ) → Type 0
IsCallPath script back caller [] = Calls script caller back
IsCallPath script back caller (name ∷ names) = Calls script caller name × IsCallPath script back name names

-- no name occurs twice
abbrev pub Differ : List (List ℕ) → Type 0
Differ [] = Unit {0}
Differ (name ∷ names) = (Contains names name → ⊥) × Differ names

-- a cycle of calls without repeated names; the process that is defined first comes first
pub record IsCycle (script : Script) (names : List (List ℕ)) : Type 0 where
  pub first : List ℕ
  pub others : List (List ℕ)
  pub is : names ≡ first ∷ others
  pub call_path : IsCallPath script first first others
  pub differ : Differ names
  pub is_first : (name : List ℕ) → Contains others name → process_of script first < process_of script name
