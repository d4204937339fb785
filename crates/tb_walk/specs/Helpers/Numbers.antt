-- Sums, differences, and comparisons of numbers, evaluated without a term.
use Rattle.std.specs.Prelude.{ℤ, ◌+ℤ◌, ◌-ℤ◌, int_lt, int_le, Bool, Option, Some, None}
use Rattle.tb_terms.specs.declared.expr.Func.{Func}
use Rattle.tb_terms.specs.declared.expr.Func.TheVariants.{Add, Sub, Less, LessEqual, Greater, GreaterEqual}
use Rattle.tb_func.specs.Numbers.{ranged}

-- the sum or the difference, if it is in range; nothing for other functions
abbrev pub numbered : Func → ℤ → ℤ → Option ℤ
numbered Add x y = ranged (x +ℤ y)
numbered Sub x y = ranged (x -ℤ y)
numbered func x y = None

-- the result of a comparison; nothing for other functions
abbrev pub ordered : Func → ℤ → ℤ → Option Bool
ordered Less x y = Some (int_lt x y)
ordered LessEqual x y = Some (int_le x y)
ordered Greater x y = Some (int_lt y x)
ordered GreaterEqual x y = Some (int_le y x)
ordered func x y = None
