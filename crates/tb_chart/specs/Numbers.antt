-- What has a number, where numbers go from 1 on.
use Rattle.std.specs.Prelude.{ℕ, zero, suc, List, slice_get, Option, Some, None, option_and_then}

-- nothing has the number 0
abbrev pub index_of : ℕ → Option ℕ
index_of zero = None
index_of (suc index) = Some index

abbrev pub numbered : {X : Type 0} → List X → ℕ → Option X
numbered items number = option_and_then (λ index. slice_get items index) (index_of number)
