-- Where a loop over the parts of a list stands.
use Rattle.std.proofs.Common.{◌≡◌, ◌<◌, List, length, map, take, get_or, Option, Some, None}
use Rattle.std.specs.Iterator.{Yields}
use Rattle.std.proofs.lemmas.Iterator.{YieldsList}
use Rattle.std.proofs.lemmas.Iterator.Consumers.{YieldsList-so_far, YieldsList-turn, YieldsList-end}

-- so many have come, and this one comes next
pub next-part : {S A B : Type 0} {steps : S → Option A → S → Type 0} {v : A → B} {s : S} {all : List B} (xs : List A) (t : S) (y : Yields steps s xs t) (r : Option A) (u : S) (x : A) → r ≡ Some x → steps t r u → YieldsList steps v s all →
    (map v xs ≡ take (length xs) all) × ((length xs < length all) × (v x ≡ get_or all (length xs) (v x)))
next-part xs t y r u x e step road = (YieldsList-so_far road xs t y, YieldsList-turn road xs t y r u x e step)

-- all have come
pub last-part : {S A B : Type 0} {steps : S → Option A → S → Type 0} {v : A → B} {s : S} {all : List B} (xs : List A) (t : S) (y : Yields steps s xs t) (r : Option A) (u : S) → r ≡ None → steps t r u → YieldsList steps v s all → map v xs ≡ all
last-part xs t y r u e step road = (YieldsList-end road xs t y r u e step).0
