-- All violations of a script, by its parts: tools, processes with their bodies, and roots.
use Rattle.std.specs.Prelude.{List, [], ◌++◌, map, Option, Some, None}
use Rattle.std.specs.List.{flat_map}
use Rattle.tb_terms.specs.declared.sort.Sort.TheVariants as sorts
use Rattle.tb_syntax.specs.declared.proc.Call.{Call}
use Rattle.tb_syntax.specs.declared.proc.Proc.{Proc}
use Rattle.tb_syntax.specs.declared.proc.Proc.TheOpen as tree
use Rattle.tb_syntax.specs.declared.proc.Proc.TheFolds.{fold-Proc}
use Rattle.tb_syntax.specs.declared.script.ProcDef.{ProcDef}
use Rattle.tb_syntax.specs.declared.script.Script.{Script}
use Rattle.tb_types.specs.declared.violation.Violation.{Violation}
use Rattle.tb_types.specs.declared.calls.Manner.TheVariants.{Called, Rooted}
use Rattle.tb_types.specs.declared.positions.Position.TheVariants.{Sent}
use Rattle.tb_types.specs.declared.scope.Known.{Known}
use Rattle.tb_types.specs.Atoms.{atom_faults}
use Rattle.tb_types.specs.Calls.{call_faults}
use Rattle.tb_types.specs.Definitions.{none_seen, process_repeats, formals_faults, vars_faults, tools_faults}
use Rattle.tb_types.specs.ExpectedSorts.{tested, site_faults}
use Rattle.tb_types.specs.Scopes.{known_formal, known_var}

-- the violations of the `else` side of an `if`, if there is one
abbrev pub else_faults : Option (List Known → List Violation) → List Known → List Violation
else_faults None known = []
else_faults (Some side) known = side known

-- the violations of one construct, from the violations of its parts; in the body of a `let`, its variables are known
abbrev pub proc_step : Script → tree.Proc-F (List Known → List Violation) → List Known → List Violation
proc_step script (tree.Atom atom) known = atom_faults script known atom
proc_step script (tree.Call call) known = call_faults script known Called call
proc_step script (tree.Seq x y) known = x known ++ y known
proc_step script (tree.Alt x y) known = x known ++ y known
proc_step script (tree.Star x y) known = x known ++ y known
proc_step script (tree.Par x y) known = x known ++ y known
proc_step script (tree.Disrupt x y) known = x known ++ y known
proc_step script (tree.If test x y) known = site_faults script known Sent (tested sorts.Bool) test ++ x known ++ else_faults y known
proc_step script (tree.Let vars x) known = vars_faults script.tools vars ++ x (map known_var vars ++ known)

abbrev pub proc_faults : Script → Proc → List Known → List Violation
proc_faults script = fold-Proc (List Known → List Violation) (proc_step script)

abbrev pub process_faults : Script → ProcDef → List Violation
process_faults script definition = formals_faults script.tools definition.formals ++ proc_faults script definition.body (map known_formal definition.formals)

-- no variable is known in the roots
abbrev pub root_faults : Script → Call → List Violation
root_faults script root = call_faults script [] Rooted root

abbrev pub script_faults : Script → List Violation
script_faults script =
    tools_faults script.tools
    ++ process_repeats none_seen script.procs
    ++ flat_map (process_faults script) script.procs
    ++ flat_map (root_faults script) script.roots
