-- The expansion of a call whose process is defined.
use Rattle.std.proofs.Common.{◌≡◌, ℕ, ◌+◌, List, length, Some, None}
use Rattle.tb_syntax.specs.declared.ast.Ast.{Ast}
use Rattle.tb_syntax.specs.declared.proc.Call.{Call}
use Rattle.tb_syntax.specs.declared.proc.Proc.{Proc}
use Rattle.tb_syntax.specs.declared.script.ProcDef.{ProcDef}
use Rattle.tb_syntax.specs.declared.script.Script.{Script}
use Rattle.tb_types.specs.Names.{process_named}
use Rattle.tb_expand.specs.Scopes.{Scope}
use Rattle.tb_expand.specs.Expansion.{Expands, call_of, declaring, formals_of_call, nothing, set_formals, sorts_of, value_formals}

-- the body of the called process, which sees its formals alone
abbrev pub body_of_call : (Proc → Expands) → ProcDef → List Ast → Expands
body_of_call body d actuals scope atom slot = body d.body (formals_of_call scope slot d.formals actuals) atom (slot + length (value_formals d.formals))

abbrev pub part_of_call : (Proc → Expands) → ProcDef → List Ast → Expands
part_of_call body d actuals scope atom slot =
    declaring (set_formals scope slot d.formals actuals) (sorts_of (value_formals d.formals)) (body_of_call body d actuals scope atom slot)

pub call_found : (script : Script) (body : Proc → Expands) (call : Call) (d : ProcDef) (scope : Scope) (atom slot : ℕ)
    → process_named script.procs call.name ≡ Some d → call_of script body call scope atom slot ≡ part_of_call body d call.actuals scope atom slot
call_found script body call d scope atom slot e = rw e

pub call_missing : (script : Script) (body : Proc → Expands) (call : Call) (scope : Scope) (atom slot : ℕ)
    → process_named script.procs call.name ≡ None → call_of script body call scope atom slot ≡ nothing
call_missing script body call scope atom slot e = rw e
