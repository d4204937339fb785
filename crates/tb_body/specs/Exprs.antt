-- Where an expression is allowed: as a value, as a pattern that notes are compared with, or as a pattern that receives.
use Rattle.std.specs.Prelude.{ℕ, Bool, true, false, ◌&&◌, ◌==◌, nat_lt, List, length}
use Rattle.std.specs.List.{list_all}
use Rattle.tb_terms.specs.declared.expr.Expr.{Expr}
use Rattle.tb_terms.specs.declared.expr.Expr.TheOpen.{Expr-F, Int, Str, Var, Result, Hole, Appl, Call, List as ListOf}
use Rattle.tb_terms.specs.declared.expr.Expr.TheFolds.{fold-Expr}
use Rattle.tb_func.specs.Functions.{signature_of}

-- the positions at which an expression is allowed
pub record Positions : Type 0 where
  -- as a value: it has neither placeholder nor result variable
  pub value : Bool
  -- as a pattern that assigns nothing: it has no result variable, and no placeholder within a function's arguments
  pub test : Bool
  -- as a pattern that receives: it has neither within a function's arguments
  pub receiving : Bool

abbrev pub everywhere : Positions
everywhere = record { value = true; test = true; receiving = true }

-- allowed at a position if and only if each part is allowed at this position
abbrev pub all_stand : List Positions → Positions
all_stand parts = record {
  value = list_all (λ part. part.value) parts;
  test = list_all (λ part. part.test) parts;
  receiving = list_all (λ part. part.receiving) parts;
}

-- allowed at all positions, or at none
abbrev pub everywhere_if : Bool → Positions
everywhere_if ok = record { value = ok; test = ok; receiving = ok }

-- the positions of an expression over this many slots, from the positions of its parts: each slot exists, and a function has as many
-- arguments as it takes
abbrev pub positions_step : ℕ → Expr-F Positions → Positions
positions_step slots (Int number) = everywhere
positions_step slots (Str bytes) = everywhere
positions_step slots (Var slot) = everywhere_if (nat_lt slot slots)
positions_step slots (Result slot) = record { value = false; test = false; receiving = nat_lt slot slots }
positions_step slots (Hole sort) = record { value = false; test = true; receiving = true }
positions_step slots (Appl name parts) = all_stand parts
positions_step slots (Call f parts) = everywhere_if (length parts == (signature_of f).arity && list_all (λ part. part.value) parts)
positions_step slots (ListOf parts) = all_stand parts

abbrev pub positions_of : ℕ → Expr → Positions
positions_of slots = fold-Expr Positions (positions_step slots)

abbrev pub is_value : ℕ → Expr → Bool
is_value slots expr = (positions_of slots expr).value

abbrev pub is_test : ℕ → Expr → Bool
is_test slots expr = (positions_of slots expr).test

abbrev pub is_receiving : ℕ → Expr → Bool
is_receiving slots expr = (positions_of slots expr).receiving
