-- The positions that each kind of expression is allowed at.
use Rattle.std.proofs.Common.{◌≡◌, ℕ, ℤ, ◌==◌, ◌&&◌, nat_lt, List, map, length, false, true, ap, ◌∙◌}
use Rattle.std.specs.List.{list_all}
use Rattle.tb_terms.specs.declared.sort.Sort.{Sort}
use Rattle.tb_terms.specs.declared.expr.Expr.{Expr, Expr-F, map-Expr, fold_out-Expr, out-Expr}
use Rattle.tb_terms.specs.declared.expr.Expr.TheVariants as expr
use Rattle.tb_terms.specs.declared.expr.Expr.TheVariants.{outs-Int, outs-Str, outs-Var, outs-Result, outs-Hole, outs-Appl, outs-Call, outs-List}
use Rattle.tb_terms.specs.declared.expr.Func.{Func}
use Rattle.tb_func.specs.Functions.{signature_of}
use Rattle.tb_body.specs.Exprs.{Positions, positions_of, positions_step, everywhere, everywhere_if, all_stand}

abbrev layer_positions : ℕ → Expr-F Expr → Positions
layer_positions slots layer = positions_step slots (map-Expr Expr Positions (positions_of slots) layer)

opened : (slots : ℕ) (e : Expr) (layer : Expr-F Expr) → out-Expr e ≡ layer → positions_of slots e ≡ layer_positions slots layer
opened slots e layer is = fold_out-Expr Positions (positions_step slots) e ∙ ap (layer_positions slots) is

pub positions_of_int : (slots : ℕ) (n : ℤ) → positions_of slots (expr.Int n) ≡ everywhere
positions_of_int slots n = opened slots _ _ (outs-Int n)

pub positions_of_str : (slots : ℕ) (text : List ℕ) → positions_of slots (expr.Str text) ≡ everywhere
positions_of_str slots text = opened slots _ _ (outs-Str text)

pub positions_of_var : (slots slot : ℕ) → positions_of slots (expr.Var slot) ≡ everywhere_if (nat_lt slot slots)
positions_of_var slots slot = opened slots _ _ (outs-Var slot)

pub positions_of_result : (slots slot : ℕ) → positions_of slots (expr.Result slot) ≡ record { value = false; test = false; receiving = nat_lt slot slots }
positions_of_result slots slot = opened slots _ _ (outs-Result slot)

pub positions_of_hole : (slots : ℕ) (s : Sort) → positions_of slots (expr.Hole s) ≡ record { value = false; test = true; receiving = true }
positions_of_hole slots s = opened slots _ _ (outs-Hole s)

pub positions_of_appl : (slots : ℕ) (name : List ℕ) (parts : List Expr) → positions_of slots (expr.Appl name parts) ≡ all_stand (map (positions_of slots) parts)
positions_of_appl slots name parts = opened slots _ _ (outs-Appl name parts)

pub positions_of_call : (slots : ℕ) (func : Func) (parts : List Expr)
    → positions_of slots (expr.Call func parts) ≡ everywhere_if (length (map (positions_of slots) parts) == (signature_of func).arity && list_all (λ (part : Positions). part.value) (map (positions_of slots) parts))
positions_of_call slots func parts = opened slots _ _ (outs-Call func parts)

pub positions_of_list : (slots : ℕ) (parts : List Expr) → positions_of slots (expr.List parts) ≡ all_stand (map (positions_of slots) parts)
positions_of_list slots parts = opened slots _ _ (outs-List parts)
