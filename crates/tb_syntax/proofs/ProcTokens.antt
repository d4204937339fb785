-- The tokens that are printed for each kind of process.
use Rattle.std.proofs.Common.{◌≡◌, List, ◌∷◌, ◌++◌, map, Option, Some, None, option_map, ap, ◌∙◌, sym, append_assoc}
use Rattle.tb_lex.specs.declared.kind.TokenKind.{TokenKind}
use Rattle.tb_lex.specs.declared.kind.TokenKind.TheVariants.{Symbol as Sign}
use Rattle.tb_lex.specs.declared.symbol.Symbol.TheVariants.{Point, Plus, Star, Bars, Angles}
use Rattle.tb_syntax.specs.declared.ast.Ast.{Ast}
use Rattle.tb_syntax.specs.declared.level.Level.{Level}
use Rattle.tb_syntax.specs.declared.level.Level.TheVariants as level
use Rattle.tb_syntax.specs.declared.proc.AtomDef.{AtomDef}
use Rattle.tb_syntax.specs.declared.proc.Call.{Call}
use Rattle.tb_syntax.specs.declared.proc.Var.{Var}
use Rattle.tb_syntax.specs.declared.proc.Proc.{Proc, out-Proc}
use Rattle.tb_syntax.specs.declared.proc.Proc.TheVariants as tree
use Rattle.tb_syntax.specs.declared.proc.Proc.TheVariants.{outs-Atom, outs-Call, outs-Seq, outs-Alt, outs-Star, outs-Par, outs-Disrupt, outs-If, outs-Let}
use Rattle.tb_syntax.specs.declared.proc.Proc.TheOpen.{Proc-F}
use Rattle.tb_syntax.specs.declared.proc.Proc.TheFolds.{fold_out-Proc, map-Proc}
use Rattle.tb_syntax.specs.Helpers.Canonical.{proc_tokens, proc_step, placed, atom_tokens, call_tokens, expr_tokens, then_tokens, else_tokens, let_tokens, var_tokens, parted}

abbrev tokens : Level → Proc-F Proc → List TokenKind
tokens at layer = proc_step (map-Proc Proc (Level → List TokenKind) proc_tokens layer) at

opened : (at : Level) (p : Proc) (layer : Proc-F Proc) → out-Proc p ≡ layer → proc_tokens p at ≡ tokens at layer
opened at p layer e = ap (λ f. f at) (fold_out-Proc (Level → List TokenKind) proc_step p) ∙ ap (tokens at) e

pub tokens_of_atom : (atom : AtomDef) (at : Level) → proc_tokens (tree.Atom atom) at ≡ atom_tokens atom
tokens_of_atom atom at = opened at _ _ (outs-Atom atom)

pub tokens_of_call : (call : Call) (at : Level) → proc_tokens (tree.Call call) at ≡ call_tokens call
tokens_of_call call at = opened at _ _ (outs-Call call)

pub tokens_of_seq : (x y : Proc) (at : Level) → proc_tokens (tree.Seq x y) at ≡ placed level.Seq at (proc_tokens x level.Star ++ Sign Point ∷ proc_tokens y level.Seq)
tokens_of_seq x y at = opened at _ _ (outs-Seq x y)

pub tokens_of_alt : (x y : Proc) (at : Level) → proc_tokens (tree.Alt x y) at ≡ placed level.Alt at (proc_tokens x level.Seq ++ Sign Plus ∷ proc_tokens y level.Alt)
tokens_of_alt x y at = opened at _ _ (outs-Alt x y)

pub tokens_of_star : (x y : Proc) (at : Level) → proc_tokens (tree.Star x y) at ≡ placed level.Star at (proc_tokens x level.Star ++ Sign Star ∷ proc_tokens y level.Prim)
tokens_of_star x y at = opened at _ _ (outs-Star x y)

pub tokens_of_par : (x y : Proc) (at : Level) → proc_tokens (tree.Par x y) at ≡ placed level.Par at (proc_tokens x level.Alt ++ Sign Bars ∷ proc_tokens y level.Par)
tokens_of_par x y at = opened at _ _ (outs-Par x y)

pub tokens_of_disrupt : (x y : Proc) (at : Level) → proc_tokens (tree.Disrupt x y) at ≡ placed level.Proc at (proc_tokens x level.Par ++ Sign Angles ∷ proc_tokens y level.Proc)
tokens_of_disrupt x y at = opened at _ _ (outs-Disrupt x y)

pub tokens_of_if : (test : Ast) (x : Proc) (y : Option Proc) (at : Level) → proc_tokens (tree.If test x y) at ≡ then_tokens (expr_tokens test) (proc_tokens x level.Proc) ++ else_tokens (option_map proc_tokens y)
tokens_of_if test x None at = opened at _ _ (outs-If test x None)
tokens_of_if test x (Some y) at = opened at _ _ (outs-If test x (Some y))

pub tokens_of_let : (vars : List Var) (x : Proc) (at : Level) → proc_tokens (tree.Let vars x) at ≡ let_tokens (parted (map var_tokens vars)) (proc_tokens x level.Proc)
tokens_of_let vars x at = opened at _ _ (outs-Let vars x)

-- the two halves of a test, one after the other
pub tokens_behind : (a b c : List TokenKind) (test : Ast) (x : Proc) (y : Option Proc) (at : Level) → b ≡ a ++ then_tokens (expr_tokens test) (proc_tokens x level.Proc) → c ≡ b ++ else_tokens (option_map proc_tokens y)
    → c ≡ a ++ proc_tokens (tree.If test x y) at
tokens_behind a b c test x y at e f =
    f ∙ ap (λ ks. ks ++ else_tokens (option_map proc_tokens y)) e
    ∙ append_assoc a (then_tokens (expr_tokens test) (proc_tokens x level.Proc)) (else_tokens (option_map proc_tokens y))
    ∙ ap (λ ks. a ++ ks) (sym (tokens_of_if test x y at))
