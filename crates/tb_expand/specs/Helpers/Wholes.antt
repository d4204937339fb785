-- Whether nested calls end within a depth: each call names a process, and no call is nested deeper.
use Rattle.std.specs.Prelude.{◌≡◌, ℕ, zero, suc, Bool, true, false, ◌&&◌, length, slice_get, Option, Some, None}
use Rattle.tb_syntax.specs.declared.proc.Proc.{Proc}
use Rattle.tb_syntax.specs.declared.proc.Proc.TheOpen.{Proc-F, Atom, Call as CallOf, Seq, Alt, Star, Par, Disrupt, If, Let}
use Rattle.tb_syntax.specs.declared.proc.Proc.TheFolds.{fold-Proc}
use Rattle.tb_syntax.specs.declared.script.ProcDef.{ProcDef}
use Rattle.tb_syntax.specs.declared.script.Script.{Script}
use Rattle.tb_types.specs.Names.{process_named}

-- an `else` side, which can be missing
abbrev pub or_whole : Option Bool → Bool
or_whole None = true
or_whole (Some whole) = whole

-- the called process exists, and the calls in its body end
abbrev pub is_called_whole : (Proc → Bool) → Option ProcDef → Bool
is_called_whole body None = false
is_called_whole body (Some d) = body d.body

abbrev pub whole_step : Script → (Proc → Bool) → Proc-F Bool → Bool
whole_step script body (Atom def) = true
whole_step script body (CallOf call) = is_called_whole body (process_named script.procs call.name)
whole_step script body (Seq x y) = x && y
whole_step script body (Alt x y) = x && y
whole_step script body (Star x y) = x && y
whole_step script body (Par x y) = x && y
whole_step script body (Disrupt x y) = x && y
whole_step script body (If test x y) = x && or_whole y
whole_step script body (Let vars x) = x

-- the calls in a process end, for a given test of the called bodies
abbrev pub is_whole_with : Script → (Proc → Bool) → Proc → Bool
is_whole_with script body p = fold-Proc Bool (whole_step script body) p

abbrev pub is_whole : Script → ℕ → Proc → Bool
is_whole script zero p = false
is_whole script (suc depth) p = is_whole_with script (is_whole script depth) p

-- the calls in the body of each process end within a depth that is the number of processes
abbrev pub AllWhole : Script → Type 0
AllWhole script = (position : ℕ) (d : ProcDef) → slice_get script.procs position ≡ Some d → is_whole script (length script.procs) d.body ≡ true
