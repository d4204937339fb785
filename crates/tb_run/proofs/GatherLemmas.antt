-- The seats in addition to the workers' seats, when all seats are gathered.
use Rattle.std.proofs.Common.{◌≡◌, zero, suc, List, [], ◌∷◌, ◌++◌, map, arith}
use Rattle.std.specs.List.{All}
use Rattle.atomic_table.specs.Seated.{TableId}
use Rattle.tb_lock.specs.Seats.{SeatView}

-- two seats are of one bus
pub all_two : (bus : TableId) (one two : SeatView) → one.bus ≡ bus → two.bus ≡ bus → All (λ (s : SeatView). s.bus ≡ bus) (one ∷ two ∷ [])
all_two bus one two a b zero d h = a
all_two bus one two a b (suc zero) d h = b
all_two bus one two a b (suc (suc k)) d h = absurd (omega (arith, h))

-- what holds of each of these holds of each of those that f makes of them, and of those before
pub all_behind : {X Y : Type 0} (f : X → Y) (P : Y → Type 0) (front : List Y) (xs : List X) → All P front → All (λ (x : X). P (f x)) xs → All P (front ++ map f xs)
all_behind f P [] [] a b k d h = absurd (omega (arith, h))
all_behind f P [] (x ∷ xs) a b zero d h = b zero x (omega arith)
all_behind f P [] (x ∷ xs) a b (suc k) d h = all_behind f P [] xs a (λ k d h. b (suc k) d (omega (arith, h))) k d (omega (arith, h))
all_behind f P (y ∷ front) xs a b zero d h = a zero d (omega arith)
all_behind f P (y ∷ front) xs a b (suc k) d h = all_behind f P front xs (λ k d h. a (suc k) d (omega (arith, h))) b k d (omega (arith, h))
