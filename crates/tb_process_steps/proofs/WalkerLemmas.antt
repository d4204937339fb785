-- A walker can continue with an offer of its own that was taken.
use Rattle.std.proofs.Common.{◌≡◌, ℕ, ◌<◌, List, [], None, Some, IsTrue, length, slice_get, get_or, refl, sym, subst}
use Rattle.std.specs.Option.{ForSome}
use Rattle.std.proofs.lemmas.Option.{slice_get-get_or}
use Rattle.tb_func.specs.declared.slot.Slot.{Slot}
use Rattle.tb_match.specs.declared.bind.Bind.{Bind}
use Rattle.tb_process_steps.specs.Binds.{takes_binds}
use Rattle.tb_process_steps.specs.Offers.{Offered}
use Rattle.tb_process_steps.specs.WalkerViews.{View}
use Rattle.tb_process_steps.specs.Walks.{offers_of}

-- a store takes an empty list of binds
pub takes_none : (store : List Slot) (binds : List Bind) → binds ≡ [] → IsTrue (takes_binds store binds)
takes_none store binds e = subst (λ (l : List Bind). IsTrue (takes_binds store l)) (sym e) refl

-- the result of `take` fulfills the requirement of `advance`
pub is_taken : {P W T : Type 0} (view : View P W T) (plan : P) (walker : W) (taken : T) (k : ℕ) (binds : List Bind) → k < length (offers_of (view.walking plan walker)) → ForSome (slice_get (offers_of (view.walking plan walker)) k) (λ offered. view.leaves plan walker taken offered) → ForSome (slice_get (offers_of (view.walking plan walker)) k) (λ offered. IsTrue (takes_binds offered.store binds)) → (offered : Offered) × (view.leaves plan walker taken offered × IsTrue (takes_binds offered.store binds))
is_taken view plan walker taken k binds there leaves takes =
    let offers = offers_of (view.walking plan walker) in
    let none : Offered = record { atom = 0; age = 0; store = []; residual = None } in
    let offered : Offered = get_or offers k none in
    let here : slice_get offers k ≡ Some offered = slice_get-get_or offers k none there in
    (offered, (leaves offered here, takes offered here))
