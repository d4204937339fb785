-- The positions of the processes that each kind of process calls.
use Rattle.std.proofs.Common.{◌≡◌, ℕ, List, [], ◌∷◌, ◌++◌, Option, Some, None, option_map, option_to_list, refl, ap, sym, ◌∙◌, append_assoc}
use Rattle.tb_syntax.specs.declared.ast.Ast.{Ast}
use Rattle.tb_syntax.specs.declared.proc.AtomDef.{AtomDef}
use Rattle.tb_syntax.specs.declared.proc.Call.{Call}
use Rattle.tb_syntax.specs.declared.proc.Var.{Var}
use Rattle.tb_syntax.specs.declared.proc.Proc.{Proc, out-Proc}
use Rattle.tb_syntax.specs.declared.proc.Proc.TheVariants as tree
use Rattle.tb_syntax.specs.declared.proc.Proc.TheVariants.{outs-Atom, outs-Call, outs-Seq, outs-Alt, outs-Star, outs-Par, outs-Disrupt, outs-If, outs-Let}
use Rattle.tb_syntax.specs.declared.proc.Proc.TheOpen.{Proc-F}
use Rattle.tb_syntax.specs.declared.proc.Proc.TheFolds.{fold_out-Proc, map-Proc}
use Rattle.tb_syntax.specs.declared.script.Script.{Script}
use Rattle.tb_types.specs.NamePositions.{position_of}
use Rattle.tb_expand.specs.Cycles.{called, called_step, or_none}
use Rattle.tb_expand.specs.Helpers.CallGraphs.{positions_of, names_in}

pub positions_joined : (script : Script) (xs ys : List (List ℕ)) → positions_of script (xs ++ ys) ≡ positions_of script xs ++ positions_of script ys
positions_joined script [] ys = refl
positions_joined script (name ∷ xs) ys =
    ap (λ (positions : List ℕ). option_to_list (position_of (names_in script) name) ++ positions) (positions_joined script xs ys)
    ∙ sym (append_assoc (option_to_list (position_of (names_in script) name)) (positions_of script xs) (positions_of script ys))

abbrev layer_called : Proc-F Proc → List (List ℕ)
layer_called x = called_step (map-Proc Proc (List (List ℕ)) called x)

opened : (p : Proc) (x : Proc-F Proc) → out-Proc p ≡ x → called p ≡ layer_called x
opened p x e = fold_out-Proc (List (List ℕ)) called_step p ∙ ap layer_called e

pub called_of_atom : (atom : AtomDef) → called (tree.Atom atom) ≡ []
called_of_atom atom = opened _ _ (outs-Atom atom)

pub called_of_call : (call : Call) → called (tree.Call call) ≡ call.name ∷ []
called_of_call call = opened _ _ (outs-Call call)

pub called_of_seq : (x y : Proc) → called (tree.Seq x y) ≡ called x ++ called y
called_of_seq x y = opened _ _ (outs-Seq x y)

pub called_of_alt : (x y : Proc) → called (tree.Alt x y) ≡ called x ++ called y
called_of_alt x y = opened _ _ (outs-Alt x y)

pub called_of_star : (x y : Proc) → called (tree.Star x y) ≡ called x ++ called y
called_of_star x y = opened _ _ (outs-Star x y)

pub called_of_par : (x y : Proc) → called (tree.Par x y) ≡ called x ++ called y
called_of_par x y = opened _ _ (outs-Par x y)

pub called_of_disrupt : (x y : Proc) → called (tree.Disrupt x y) ≡ called x ++ called y
called_of_disrupt x y = opened _ _ (outs-Disrupt x y)

pub called_of_if : (test : Ast) (x : Proc) (y : Option Proc) → called (tree.If test x y) ≡ called x ++ or_none (option_map called y)
called_of_if test x None = opened _ _ (outs-If test x None)
called_of_if test x (Some y) = opened _ _ (outs-If test x (Some y))

pub called_of_let : (vars : List Var) (x : Proc) → called (tree.Let vars x) ≡ called x
called_of_let vars x = opened _ _ (outs-Let vars x)

pub ruleset called_at = (positions_joined, called_of_atom, called_of_call, called_of_seq, called_of_alt, called_of_star, called_of_par, called_of_disrupt, called_of_if, called_of_let)
