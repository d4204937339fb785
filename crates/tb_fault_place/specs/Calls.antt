-- The tokens of a script where a process calls another, and where a process is defined.
use Rattle.std.specs.Prelude.{ℕ, List, [], ◌∷◌, Option, Some, None, option_map, if◌then◌else◌}
use Rattle.std.specs.Option.{option_or}
use Rattle.std.specs.Str.{bytes_eq}
use Rattle.tb_syntax.specs.declared.proc.Call.{Call}
use Rattle.tb_syntax.specs.declared.proc.Proc.{Proc}
use Rattle.tb_syntax.specs.declared.proc.Proc.TheOpen.{Proc-F, Atom, Call as CallOf, Seq, Alt, Star, Par, Disrupt, If, Let}
use Rattle.tb_syntax.specs.declared.proc.Proc.TheFolds.{fold-Proc}
use Rattle.tb_syntax.specs.declared.script.ProcDef.{ProcDef}
use Rattle.tb_syntax.specs.declared.script.Script.{Script}
use Rattle.tb_types.specs.Names.{process_named}

-- the token of a call, if it calls this name
abbrev pub call_token : List ℕ → Call → Option ℕ
call_token name call = if bytes_eq call.name name then Some call.token else None

-- the token from the branch after `else`, if there is one
abbrev pub call_else : Option (Option ℕ) → Option ℕ
call_else None = None
call_else (Some token) = token

-- the token of the first call with this name, from those of the parts
abbrev pub call_step : List ℕ → Proc-F (Option ℕ) → Option ℕ
call_step name (Atom def) = None
call_step name (CallOf call) = call_token name call
call_step name (Seq x y) = option_or x y
call_step name (Alt x y) = option_or x y
call_step name (Star x y) = option_or x y
call_step name (Par x y) = option_or x y
call_step name (Disrupt x y) = option_or x y
call_step name (If test x y) = option_or x (call_else y)
call_step name (Let vars x) = x

-- the token of the first call with this name in a body, in text order
abbrev pub call_in : List ℕ → Proc → Option ℕ
call_in name body = fold-Proc (Option ℕ) (call_step name) body

-- the token where the process, if there is one, first calls the other
abbrev pub call_of : List ℕ → Option ProcDef → Option ℕ
call_of called None = None
call_of called (Some d) = call_in called d.body

-- the token where the first process with the name `caller` first calls `called`
abbrev pub first_call : Script → List ℕ → List ℕ → Option ℕ
first_call script caller called = call_of called (process_named script.procs caller)

-- the token where the first process of a cycle calls the next one, or itself if it is the only one
abbrev pub cycle_token : Script → List (List ℕ) → Option ℕ
cycle_token script [] = None
cycle_token script (only ∷ []) = first_call script only only
cycle_token script (first ∷ second ∷ others) = first_call script first second

-- the token where the first process with this name is defined
abbrev pub definition_token : Script → List ℕ → Option ℕ
definition_token script name = option_map (λ (d : ProcDef). d.token) (process_named script.procs name)
