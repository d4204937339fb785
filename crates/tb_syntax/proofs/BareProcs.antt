-- Each kind of process without its positions.
use Rattle.std.proofs.Common.{◌≡◌, List, map, Option, Some, None, option_map, ap, ◌∙◌}
use Rattle.tb_syntax.specs.declared.ast.Ast.{Ast}
use Rattle.tb_syntax.specs.declared.proc.AtomDef.{AtomDef}
use Rattle.tb_syntax.specs.declared.proc.Call.{Call}
use Rattle.tb_syntax.specs.declared.proc.Var.{Var}
use Rattle.tb_syntax.specs.declared.proc.Proc.{Proc, out-Proc}
use Rattle.tb_syntax.specs.declared.proc.Proc.TheVariants as tree
use Rattle.tb_syntax.specs.declared.proc.Proc.TheVariants.{outs-Atom, outs-Call, outs-Seq, outs-Alt, outs-Star, outs-Par, outs-Disrupt, outs-If, outs-Let}
use Rattle.tb_syntax.specs.declared.proc.Proc.TheOpen.{Proc-F}
use Rattle.tb_syntax.specs.declared.proc.Proc.TheFolds.{fold_out-Proc, map-Proc}
use Rattle.tb_syntax.specs.Positions.{bare_proc, bare_proc_step, bare_atom, bare_call, bare_expr, bare_var}

abbrev bare : Proc-F Proc → Proc
bare layer = bare_proc_step (map-Proc Proc Proc bare_proc layer)

opened : (p : Proc) (layer : Proc-F Proc) → out-Proc p ≡ layer → bare_proc p ≡ bare layer
opened p layer e = fold_out-Proc Proc bare_proc_step p ∙ ap bare e

pub bare_of_atom : (atom : AtomDef) → bare_proc (tree.Atom atom) ≡ tree.Atom (bare_atom atom)
bare_of_atom atom = opened _ _ (outs-Atom atom)

pub bare_of_call : (call : Call) → bare_proc (tree.Call call) ≡ tree.Call (bare_call call)
bare_of_call call = opened _ _ (outs-Call call)

pub bare_of_seq : (x y : Proc) → bare_proc (tree.Seq x y) ≡ tree.Seq (bare_proc x) (bare_proc y)
bare_of_seq x y = opened _ _ (outs-Seq x y)

pub bare_of_alt : (x y : Proc) → bare_proc (tree.Alt x y) ≡ tree.Alt (bare_proc x) (bare_proc y)
bare_of_alt x y = opened _ _ (outs-Alt x y)

pub bare_of_star : (x y : Proc) → bare_proc (tree.Star x y) ≡ tree.Star (bare_proc x) (bare_proc y)
bare_of_star x y = opened _ _ (outs-Star x y)

pub bare_of_par : (x y : Proc) → bare_proc (tree.Par x y) ≡ tree.Par (bare_proc x) (bare_proc y)
bare_of_par x y = opened _ _ (outs-Par x y)

pub bare_of_disrupt : (x y : Proc) → bare_proc (tree.Disrupt x y) ≡ tree.Disrupt (bare_proc x) (bare_proc y)
bare_of_disrupt x y = opened _ _ (outs-Disrupt x y)

pub bare_of_if : (test : Ast) (x : Proc) (y : Option Proc) → bare_proc (tree.If test x y) ≡ tree.If (bare_expr test) (bare_proc x) (option_map bare_proc y)
bare_of_if test x None = opened _ _ (outs-If test x None)
bare_of_if test x (Some y) = opened _ _ (outs-If test x (Some y))

pub bare_of_let : (vars : List Var) (x : Proc) → bare_proc (tree.Let vars x) ≡ tree.Let (map bare_var vars) (bare_proc x)
bare_of_let vars x = opened _ _ (outs-Let vars x)
