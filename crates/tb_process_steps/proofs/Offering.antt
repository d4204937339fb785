-- The facts about each offer of a test and of a `let`, and about an offer by its index.
use Rattle.std.proofs.Common.{◌≡◌, ℕ, Bool, true, false, List, Option, Some, None, IfSome, slice_get, Contains}
use Rattle.std.proofs.lemmas.List.Elements.{All-nil}
use Rattle.std.proofs.lemmas.Option.{slice_get_within, get_or_from_slice_get}
use Rattle.std.specs.List.{All}
use Rattle.tb_func.specs.declared.slot.Slot.{Slot}
use Rattle.tb_process_steps.specs.Offers.{Offered, offers_if, offers_after}

pub if-all : (P : Offered → Type 0) (o : Option Bool) (xs ys : List Offered) → All P xs → All P ys → All P (offers_if o xs ys)
if-all P None xs ys h k = All-nil P
if-all P (Some true) xs ys h k = h
if-all P (Some false) xs ys h k = k

pub after-all : (P : Offered → Type 0) (o : Option (List Slot)) (offering : List Slot → List Offered) → IfSome o (λ store. All P (offering store)) → All P (offers_after o offering)
after-all P None offering h = All-nil P
after-all P (Some store) offering h = h

pub contains-at : {X : Type 0} (xs : List X) (k : ℕ) (x : X) → slice_get xs k ≡ Some x → Contains xs x
contains-at xs k x e = (k, slice_get_within xs k x e, get_or_from_slice_get xs k x x e)
