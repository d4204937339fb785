-- The number of atoms and the depth of the expansion of a process, computed without an expansion.
use Rattle.std.specs.Prelude.{ℕ, zero, suc, ◌+◌, max, Option, Some, None}
use Rattle.tb_syntax.specs.declared.proc.Proc.{Proc}
use Rattle.tb_syntax.specs.declared.proc.Proc.TheOpen.{Proc-F, Atom, Call as CallOf, Seq, Alt, Star, Par, Disrupt, If, Let}
use Rattle.tb_syntax.specs.declared.proc.Proc.TheFolds.{fold-Proc}
use Rattle.tb_syntax.specs.declared.script.ProcDef.{ProcDef}
use Rattle.tb_syntax.specs.declared.script.Script.{Script}
use Rattle.tb_types.specs.Names.{process_named}
use Rattle.tb_expand.specs.declared.size.Size.{Size}

-- the size of `nothing`
abbrev pub nothing_size : Size
nothing_size = record { atoms = 0; levels = 1 }

abbrev pub atom_size : Size
atom_size = record { atoms = 1; levels = 1 }

-- two sides under one operator
abbrev pub beside : Size → Size → Size
beside x y = record { atoms = x.atoms + y.atoms; levels = 1 + max x.levels y.levels }

-- one side under one operator
abbrev pub above : Size → Size
above x = record { atoms = x.atoms; levels = 1 + x.levels }

abbrev pub tested_size : Size → Option Size → Size
tested_size x None = above x
tested_size x (Some y) = beside x y

-- the size of a call: the body of the called process is under a `let`
abbrev pub called_size : (Proc → Size) → Option ProcDef → Size
called_size body None = nothing_size
called_size body (Some d) = above (body d.body)

abbrev pub size_step : Script → (Proc → Size) → Proc-F Size → Size
size_step script body (Atom def) = atom_size
size_step script body (CallOf call) = called_size body (process_named script.procs call.name)
size_step script body (Seq x y) = beside x y
size_step script body (Alt x y) = beside x y
size_step script body (Star x y) = beside x y
size_step script body (Par x y) = beside x y
size_step script body (Disrupt x y) = beside x y
size_step script body (If test x y) = tested_size x y
size_step script body (Let vars x) = above x

-- the size of a process, for given sizes of the called bodies
abbrev pub size_with : Script → (Proc → Size) → Proc → Size
size_with script body p = fold-Proc Size (size_step script body) p

abbrev pub size_of : Script → ℕ → Proc → Size
size_of script zero p = nothing_size
size_of script (suc depth) p = size_with script (size_of script depth) p
