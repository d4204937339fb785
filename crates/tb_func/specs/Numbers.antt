-- Arithmetic on 64-bit numbers, their order, and the ticks of a time.
use Rattle.std.specs.Prelude.{ℕ, ◌*◌, ℤ, pos, negsuc, ◌+ℤ◌, ◌-ℤ◌, ◌*ℤ◌, int_div, int_lt, int_le, Bool, false, Option, Some, None, option_and_then, if◌then◌else◌}
use Rattle.std.specs.Int.{div_ceil}
use Rattle.std.specs.Ordering.{int_eq}
use Rattle.tb_terms.specs.declared.expr.Func.{Func}
use Rattle.tb_terms.specs.declared.expr.Func.TheVariants.{Add, Sub, Mul, Div, Mod, Less, LessEqual, Greater, GreaterEqual, Msec, Sec, Min, Hour}
use Rattle.tb_terms.specs.Proper.{has_64_bits}

-- the number, or none if 64 bits can't hold it
abbrev pub ranged : ℤ → Option ℤ
ranged z = if has_64_bits z then Some z else None

-- rounded toward zero
abbrev pub quotient : ℤ → ℤ → Option ℤ
quotient x y = if int_eq y (pos 0) then None else ranged (int_div x y)

abbrev pub remainder : ℤ → ℤ → Option ℤ
remainder x y = option_and_then (λ q. ranged (x -ℤ (y *ℤ q))) (quotient x y)

abbrev pub arithmetic : Func → ℤ → ℤ → Option ℤ
arithmetic Add x y = ranged (x +ℤ y)
arithmetic Sub x y = ranged (x -ℤ y)
arithmetic Mul x y = ranged (x *ℤ y)
arithmetic Div x y = quotient x y
arithmetic Mod x y = remainder x y
arithmetic func x y = None

abbrev pub order : Func → ℤ → ℤ → Bool
order Less x y = int_lt x y
order LessEqual x y = int_le x y
order Greater x y = int_lt y x
order GreaterEqual x y = int_le y x
order func x y = false

-- the ticks of a time, given the ticks of each number of units; none for a negative time
abbrev pub ticks : (ℕ → ℕ) → ℤ → Option ℤ
ticks per (pos n) = ranged (pos (per n))
ticks per (negsuc n) = None

-- the ticks of a time in the unit of the function
abbrev pub time : Func → ℤ → Option ℤ
time Msec n = ticks (λ k. div_ceil k 100) n
time Sec n = ticks (λ k. k * 10) n
time Min n = ticks (λ k. k * 600) n
time Hour n = ticks (λ k. k * 36000) n
time func n = None
