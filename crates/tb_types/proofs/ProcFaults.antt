-- The violations of each kind of process.
use Rattle.std.proofs.Common.{◌≡◌, List, ◌++◌, map, Option, Some, None, option_map, ap, ◌∙◌}
use Rattle.tb_terms.specs.declared.sort.Sort.TheVariants as sorts
use Rattle.tb_syntax.specs.declared.ast.Ast.{Ast}
use Rattle.tb_syntax.specs.declared.proc.AtomDef.{AtomDef}
use Rattle.tb_syntax.specs.declared.proc.Var.{Var}
use Rattle.tb_syntax.specs.declared.proc.Proc.{Proc, out-Proc}
use Rattle.tb_syntax.specs.declared.proc.Proc.TheVariants as tree
use Rattle.tb_syntax.specs.declared.proc.Proc.TheVariants.{outs-Atom, outs-Seq, outs-Alt, outs-Star, outs-Par, outs-Disrupt, outs-If, outs-Let}
use Rattle.tb_syntax.specs.declared.proc.Proc.TheOpen.{Proc-F}
use Rattle.tb_syntax.specs.declared.proc.Proc.TheFolds.{fold_out-Proc, map-Proc}
use Rattle.tb_syntax.specs.declared.script.Script.{Script}
use Rattle.tb_types.specs.declared.violation.Violation.{Violation}
use Rattle.tb_types.specs.declared.positions.Position.TheVariants.{Sent}
use Rattle.tb_types.specs.declared.scope.Known.{Known}
use Rattle.tb_types.specs.Atoms.{atom_faults}
use Rattle.tb_types.specs.Bodies.{proc_faults, proc_step, else_faults}
use Rattle.tb_types.specs.Definitions.{vars_faults}
use Rattle.tb_types.specs.ExpectedSorts.{tested, site_faults}
use Rattle.tb_types.specs.Scopes.{known_var}

abbrev Found : Type 0
Found = List Known → List Violation

abbrev layer_found : Script → List Known → Proc-F Proc → List Violation
layer_found script known x = proc_step script (map-Proc Proc Found (proc_faults script) x) known

opened : (script : Script) (known : List Known) (p : Proc) (x : Proc-F Proc) → out-Proc p ≡ x → proc_faults script p known ≡ layer_found script known x
opened script known p x e = ap (λ (f : Found). f known) (fold_out-Proc Found (proc_step script) p) ∙ ap (layer_found script known) e

pub faults_of_atom : (script : Script) (atom : AtomDef) (known : List Known) → proc_faults script (tree.Atom atom) known ≡ atom_faults script known atom
faults_of_atom script atom known = opened script known _ _ (outs-Atom atom)

pub faults_of_seq : (script : Script) (x y : Proc) (known : List Known) → proc_faults script (tree.Seq x y) known ≡ proc_faults script x known ++ proc_faults script y known
faults_of_seq script x y known = opened script known _ _ (outs-Seq x y)

pub faults_of_alt : (script : Script) (x y : Proc) (known : List Known) → proc_faults script (tree.Alt x y) known ≡ proc_faults script x known ++ proc_faults script y known
faults_of_alt script x y known = opened script known _ _ (outs-Alt x y)

pub faults_of_star : (script : Script) (x y : Proc) (known : List Known) → proc_faults script (tree.Star x y) known ≡ proc_faults script x known ++ proc_faults script y known
faults_of_star script x y known = opened script known _ _ (outs-Star x y)

pub faults_of_par : (script : Script) (x y : Proc) (known : List Known) → proc_faults script (tree.Par x y) known ≡ proc_faults script x known ++ proc_faults script y known
faults_of_par script x y known = opened script known _ _ (outs-Par x y)

pub faults_of_disrupt : (script : Script) (x y : Proc) (known : List Known) → proc_faults script (tree.Disrupt x y) known ≡ proc_faults script x known ++ proc_faults script y known
faults_of_disrupt script x y known = opened script known _ _ (outs-Disrupt x y)

pub faults_of_if : (script : Script) (test : Ast) (x : Proc) (y : Option Proc) (known : List Known)
    → proc_faults script (tree.If test x y) known
    ≡ site_faults script known Sent (tested sorts.Bool) test ++ proc_faults script x known ++ else_faults (option_map (proc_faults script) y) known
faults_of_if script test x None known = opened script known _ _ (outs-If test x None)
faults_of_if script test x (Some y) known = opened script known _ _ (outs-If test x (Some y))

pub faults_of_let : (script : Script) (vars : List Var) (x : Proc) (known : List Known)
    → proc_faults script (tree.Let vars x) known ≡ vars_faults script.tools vars ++ proc_faults script x (map known_var vars ++ known)
faults_of_let script vars x known = opened script known _ _ (outs-Let vars x)
