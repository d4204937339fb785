-- The atoms of the script that are in the expansion of a process, in the order of the atoms of the expansion.
use Rattle.std.specs.Prelude.{ℕ, zero, suc, List, [], ◌∷◌, ◌++◌, map, length, Option, Some, None}
use Rattle.tb_lex.specs.declared.token.Token.{Token}
use Rattle.tb_syntax.specs.declared.proc.AtomDef.{AtomDef}
use Rattle.tb_syntax.specs.declared.proc.Proc.{Proc}
use Rattle.tb_syntax.specs.declared.proc.Proc.TheOpen.{Proc-F, Atom, Call as CallOf, Seq, Alt, Star, Par, Disrupt, If, Let}
use Rattle.tb_syntax.specs.declared.proc.Proc.TheFolds.{fold-Proc}
use Rattle.tb_syntax.specs.declared.script.ProcDef.{ProcDef}
use Rattle.tb_syntax.specs.declared.script.Script.{Script}
use Rattle.tb_types.specs.Names.{process_named}
use Rattle.tb_source_map.specs.Marks.{mark_at}
use Rattle.tb_source_map.specs.declared.mark.Mark.{Mark}

-- the atoms of a called process, with `body` for the atoms of a body; none if no process has the name
abbrev pub sites_called : (Proc → List AtomDef) → Option ProcDef → List AtomDef
sites_called body None = []
sites_called body (Some d) = body d.body

-- the atoms of the branch after `else`, if there is one
abbrev pub sites_else : Option (List AtomDef) → List AtomDef
sites_else None = []
sites_else (Some sites) = sites

-- the atoms of a process, from the atoms of its parts
abbrev pub sites_step : Script → (Proc → List AtomDef) → Proc-F (List AtomDef) → List AtomDef
sites_step script body (Atom def) = def ∷ []
sites_step script body (CallOf call) = sites_called body (process_named script.procs call.name)
sites_step script body (Seq x y) = x ++ y
sites_step script body (Alt x y) = x ++ y
sites_step script body (Star x y) = x ++ y
sites_step script body (Par x y) = x ++ y
sites_step script body (Disrupt x y) = x ++ y
sites_step script body (If test x y) = x ++ sites_else y
sites_step script body (Let vars x) = x

-- the atoms of a process, with `body` for the atoms of the body of a called process
abbrev pub sites_with : Script → (Proc → List AtomDef) → Proc → List AtomDef
sites_with script body p = fold-Proc (List AtomDef) (sites_step script body) p

-- the atoms of a body, if at most this many bodies are nested, this body included
abbrev pub sites : Script → ℕ → Proc → List AtomDef
sites script zero p = []
sites script (suc depth) p = sites_with script (sites script depth) p

-- the atoms of the expansion of a process; an atom of a called process is there once for each call
abbrev pub sites_of : Script → ProcDef → List AtomDef
sites_of script d = sites script (length script.procs) d.body

-- the atoms of a process without those of the processes that it calls, from the atoms of its parts
abbrev pub own_step : Proc-F (List AtomDef) → List AtomDef
own_step (Atom def) = def ∷ []
own_step (CallOf call) = []
own_step (Seq x y) = x ++ y
own_step (Alt x y) = x ++ y
own_step (Star x y) = x ++ y
own_step (Par x y) = x ++ y
own_step (Disrupt x y) = x ++ y
own_step (If test x y) = x ++ sites_else y
own_step (Let vars x) = x

-- the atoms in a body itself, without those of the processes that it calls
abbrev pub own_atoms : Proc → List AtomDef
own_atoms p = fold-Proc (List AtomDef) own_step p

-- the bytes of the first token of an atom
abbrev pub mark_of_atom : List Token → AtomDef → Mark
mark_of_atom tokens def = mark_at tokens def.token

-- the bytes of the first tokens of atoms, in order
abbrev pub marks_of : List Token → List AtomDef → List Mark
marks_of tokens defs = map (mark_of_atom tokens) defs
