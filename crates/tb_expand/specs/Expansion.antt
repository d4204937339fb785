-- The expansion of a process: its body, in which each call is replaced by a `let` around the expansion of the called process. The
-- limits of expansions.
use Rattle.std.specs.Prelude.{ℕ, zero, suc, ◌+◌, Bool, List, [], ◌∷◌, ◌++◌, map, length, filter, nat_lt, ◌||◌, not, Option, Some, None, if◌then◌else◌}
use Rattle.tb_terms.specs.declared.expr.Expr.{Expr}
use Rattle.tb_terms.specs.declared.sort.Sort.{Sort}
use Rattle.tb_body.specs.declared.atom.Atom.{Atom}
use Rattle.tb_body.specs.declared.tree.Tree.{Tree}
use Rattle.tb_body.specs.declared.tree.Tree.TheVariants as tree
use Rattle.tb_body.specs.declared.tree.Setting.{Setting}
use Rattle.tb_body.specs.InRange.{most_body_levels}
use Rattle.tb_body.specs.Trees.{tree_levels}
use Rattle.tb_syntax.specs.declared.ast.Ast.{Ast}
use Rattle.tb_syntax.specs.declared.proc.AtomDef.{AtomDef}
use Rattle.tb_syntax.specs.declared.proc.Call.{Call}
use Rattle.tb_syntax.specs.declared.proc.Proc.{Proc}
use Rattle.tb_syntax.specs.declared.proc.Proc.TheOpen.{Proc-F, Atom as AtomOf, Call as CallOf, Seq, Alt, Star, Par, Disrupt, If, Let}
use Rattle.tb_syntax.specs.declared.proc.Proc.TheFolds.{fold-Proc}
use Rattle.tb_syntax.specs.declared.proc.Var.{Var}
use Rattle.tb_syntax.specs.declared.script.Formal.{Formal}
use Rattle.tb_syntax.specs.declared.script.ProcDef.{ProcDef}
use Rattle.tb_syntax.specs.declared.script.Script.{Script}
use Rattle.tb_types.specs.Names.{process_named}
use Rattle.tb_expand.specs.Scopes.{Scope, slot_of, declared, formals_seen}
use Rattle.tb_expand.specs.Exprs.{expr_of}
use Rattle.tb_expand.specs.Acts.{name_of, atom_of}

-- a part of an expansion: its tree, its atoms, and the types of the slots that it declares, all in the order of the source
pub record Part : Type 0 where
  pub tree : Tree
  pub atoms : List Atom
  pub sorts : List Sort

-- the part that a process expands to, for these visible variables, the number of its first atom, and its first slot
abbrev pub Expands : Type 0
Expands = Scope → ℕ → ℕ → Part

-- two sides, the second after the first in the source: the second side's atoms and slots have the next numbers
abbrev pub both : (Tree → Tree → Tree) → Expands → Expands → Expands
both join x y scope atom slot = joined (x scope atom slot) where
  joined : Part → Part
  joined prefix = behind (y scope (atom + length prefix.atoms) (slot + length prefix.sorts)) where
    behind : Part → Part
    behind back = record { tree = join prefix.tree back.tree; atoms = prefix.atoms ++ back.atoms; sorts = prefix.sorts ++ back.sorts }

-- the same atoms and slots with another tree
abbrev pub under : (Tree → Tree) → Part → Part
under wrap part = record { tree = wrap part.tree; atoms = part.atoms; sorts = part.sorts }

abbrev pub tested : Expr → Tree → Tree → Tree
tested test x y = tree.If test x (Some y)

abbrev pub test_of : Ast → Expands → Option Expands → Expands
test_of test x None scope atom slot = under (λ side. tree.If (expr_of scope test) side None) (x scope atom slot)
test_of test x (Some y) scope atom slot = both (tested (expr_of scope test)) x y scope atom slot

-- each declared variable starts with the initial value of its type
abbrev pub initial : ℕ → List Var → List Setting
initial slot [] = []
initial slot (var ∷ vars) = record { slot = slot; start = None } ∷ initial (slot + 1) vars

-- a `let` around the part; the slots of the `let` come before the slots of the part
abbrev pub declaring : List Setting → List Sort → Part → Part
declaring settings sorts part = record { tree = tree.Let settings part.tree; atoms = part.atoms; sorts = sorts ++ part.sorts }

abbrev pub sorts_of_vars : List Var → List Sort
sorts_of_vars vars = map (λ (var : Var). var.sort) vars

abbrev pub block_of : List Var → Expands → Expands
block_of vars x scope atom slot =
    declaring (initial slot vars) (sorts_of_vars vars) (x (declared slot vars ++ scope) atom (slot + length vars))

-- the settings of a call: each value parameter gets its argument, with the variables that are visible at the call
abbrev pub set_formals : Scope → ℕ → List Formal → List Ast → List Setting
set_formals scope slot [] actuals = []
set_formals scope slot (formal ∷ formals) [] = []
set_formals scope slot (formal ∷ formals) (actual ∷ actuals) =
    if formal.result then set_formals scope slot formals actuals
    else record { slot = slot; start = Some (expr_of scope actual) } ∷ set_formals scope (slot + 1) formals actuals

-- the variables that the called process sees: its parameters only. A result parameter has the slot of its argument's variable.
abbrev pub formals_of_call : Scope → ℕ → List Formal → List Ast → Scope
formals_of_call scope slot [] actuals = []
formals_of_call scope slot (formal ∷ formals) [] = []
formals_of_call scope slot (formal ∷ formals) (actual ∷ actuals) =
    if formal.result
    then record { name = formal.name; slot = slot_of scope (name_of actual); sort = formal.sort } ∷ formals_of_call scope slot formals actuals
    else record { name = formal.name; slot = slot; sort = formal.sort } ∷ formals_of_call scope (slot + 1) formals actuals

-- the parameters that need a new slot in a call
abbrev pub value_formals : List Formal → List Formal
value_formals formals = filter (λ (formal : Formal). not formal.result) formals

abbrev pub sorts_of : List Formal → List Sort
sorts_of formals = map (λ (formal : Formal). formal.sort) formals

-- the part for a call whose name no process has, or that is nested too deep. Neither occurs in a well-formed script whose calls form no
-- cycle.
abbrev pub nothing : Part
nothing = record { tree = tree.At 0; atoms = []; sorts = [] }

-- the part for a call, for a given expansion of bodies
abbrev pub call_of : Script → (Proc → Expands) → Call → Expands
call_of script body call scope atom slot = of (process_named script.procs call.name) where
  of : Option ProcDef → Part
  of None = nothing
  of (Some d) =
      let formals = value_formals d.formals in
      declaring (set_formals scope slot d.formals call.actuals) (sorts_of formals)
      (body d.body (formals_of_call scope slot d.formals call.actuals) atom (slot + length formals))

-- the part for one atom
abbrev pub atom_only : Script → AtomDef → Expands
atom_only script def scope atom slot = record { tree = tree.At atom; atoms = atom_of script scope def ∷ []; sorts = [] }

abbrev pub proc_step : Script → (Proc → Expands) → Proc-F Expands → Expands
proc_step script body (AtomOf def) scope atom slot = atom_only script def scope atom slot
proc_step script body (CallOf call) scope atom slot = call_of script body call scope atom slot
proc_step script body (Seq x y) scope atom slot = both tree.Seq x y scope atom slot
proc_step script body (Alt x y) scope atom slot = both tree.Alt x y scope atom slot
proc_step script body (Star x y) scope atom slot = both tree.Star x y scope atom slot
proc_step script body (Par x y) scope atom slot = both tree.Par x y scope atom slot
proc_step script body (Disrupt x y) scope atom slot = both tree.Disrupt x y scope atom slot
proc_step script body (If test x y) scope atom slot = test_of test x y scope atom slot
proc_step script body (Let vars x) scope atom slot = block_of vars x scope atom slot

-- the part for a process, for a given expansion of the called bodies
abbrev pub expands_with : Script → (Proc → Expands) → Proc → Expands
expands_with script body p = fold-Proc Expands (proc_step script body) p

-- The part for a process, with bodies nested up to this depth, counting the outermost. If no calls form a cycle, the nesting is at most
-- as deep as the number of processes.
abbrev pub expands : Script → ℕ → Proc → Expands
expands script zero p scope atom slot = nothing
expands script (suc depth) p scope atom slot = expands_with script (expands script depth) p scope atom slot

-- The expansion of a process. Atoms are numbered from 1, and slots from 0. The first slots are the parameters of the process, including
-- result parameters.
abbrev pub expansion_of : Script → ProcDef → Part
expansion_of script d = with_formals (expands script (length script.procs) d.body (formals_seen 0 d.formals) 1 (length d.formals)) where
  with_formals : Part → Part
  with_formals part = record { tree = part.tree; atoms = part.atoms; sorts = sorts_of d.formals ++ part.sorts }

-- the greatest number of atoms of an expansion
abbrev pub most_atoms : ℕ
most_atoms = 20000

-- the part has more atoms than this limit, or its tree is deeper than the tree of a body can be
abbrev pub is_too_large : Part → Bool
is_too_large part = nat_lt most_atoms (length part.atoms) || nat_lt most_body_levels (tree_levels part.tree)
