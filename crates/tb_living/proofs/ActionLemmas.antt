-- How the seen offers determine the ready actions.
use Rattle.std.proofs.Common.{◌≡◌, ℕ, ◌+◌, ◌<◌, ◌≤◌, List, [], ◌∷◌, ◌++◌, length, take, ap, subst, sym, ◌∙◌, arith, Option, Some, None, slice_get, option_map, option_and_then, append-nil, append_assoc, get_or}
use Rattle.std.specs.List.{All}
use Rattle.std.specs.Option.{ForSome}
use Rattle.std.proofs.lemmas.Option.{slice_get-map, slice_get-get_or}
use Rattle.std.proofs.lemmas.List.{take_all, take_more, length-take-le, length-map}
use Rattle.std.proofs.lemmas.List.Elements.{All-more}
use Rattle.tb_terms.specs.declared.sort.Sort.{Sort}
use Rattle.tb_body.specs.declared.atom.Atom.{Atom}
use Rattle.tb_process_steps.specs.declared.offer.Offer.{Offer}
use Rattle.tb_terms.specs.declared.expr.Expr.{Expr}
use Rattle.tb_body.specs.declared.act.Act.{Act}
use Rattle.tb_body.specs.declared.act.Act.TheVariants.{SndMsg, RecMsg}
use Rattle.tb_process_steps.specs.Atoms.{act_of, matched_exprs, patterns_of, sent_exprs, times_of, values_together}
use Rattle.tb_process_steps.specs.Offers.{Offered}
use Rattle.tb_process_steps.specs.Walks.{Walking, offers_of, patterns_by, seen, seen_offers, sent_by, sorts_of}
use Rattle.tb_process_steps.proofs.Sorts.{offer_at-keeps}
use Rattle.tb_bus.specs.declared.action.Action.{Action}
use Rattle.tb_bus.specs.declared.action.Action.TheVariants as action
use Rattle.tb_bus.specs.Actions.{action_in, action_of}
use Rattle.tb_search.specs.Candidates.{ready_one, readies}
use Rattle.tb_search.specs.Views.{no_offer}
use Rattle.tb_search.specs.declared.living.Ready.{Ready}
use Rattle.tb_living.specs.Lives.{IsTimeless}

-- the offer that was seen at a position is that of the process there
pub offer-seen : (atoms : List Atom) (now : ℕ) (walking : Walking) (looked : Option (List Offer)) (at : ℕ) (offered : Offered) (offer : Offer) →
    looked ≡ Some (seen_offers atoms now walking) → ForSome looked (λ offers. slice_get offers at ≡ Some offer) → slice_get (offers_of walking) at ≡ Some offered →
    offer ≡ seen atoms now offered
offer-seen atoms now walking looked at offered offer e f h =
    let p : Some offer ≡ Some (seen atoms now offered) =
    sym (f (seen_offers atoms now walking) e) ∙ slice_get-map (seen atoms now) (offers_of walking) at ∙ ap (option_map (seen atoms now)) h in
    cc

-- one offer more
readies-more : (atoms : List Atom) (now at : ℕ) (before : List Offered) (offered : Offered) →
    readies atoms now at (before ++ offered ∷ []) ≡ readies atoms now at before ++ ready_one (at + length before) offered (action_of atoms now offered)
readies-more atoms now at [] offered = let e : at + 0 ≡ at = omega arith in rw e (append-nil (ready_one at offered (action_of atoms now offered)))
readies-more atoms now at (first ∷ before) offered =
    let e : at + 1 + length before ≡ at + length (first ∷ before) = omega arith in
    ap (λ rs. ready_one at first (action_of atoms now first) ++ rs) (readies-more atoms now (at + 1) before offered ∙ ap (λ n. readies atoms now (at + 1) before ++ ready_one n offered (action_of atoms now offered)) e)
    ∙ sym (append_assoc (ready_one at first (action_of atoms now first)) (readies atoms now (at + 1) before) (ready_one (at + length (first ∷ before)) offered (action_of atoms now offered)))

-- an offer with an action is put at the end, and one without isn't
pub ready-pushed : (at atom : ℕ) (offered : Offered) (action : Action) (wanted : Option Action) (before after : List Ready) → offered.atom ≡ atom → wanted ≡ Some action →
    after ≡ before ++ record { offer = at; atom = atom; action = action } ∷ [] → after ≡ before ++ ready_one at offered wanted
ready-pushed at atom offered action wanted before after same e pushed =
    pushed
    ∙ ap (λ (n : ℕ). let ready : Ready = record { offer = at; atom = n; action = action } in before ++ ready ∷ []) (sym same)
    ∙ ap (λ found. before ++ ready_one at offered found) (sym e)

pub ready-unpushed : (at : ℕ) (offered : Offered) (wanted : Option Action) (before : List Ready) → wanted ≡ None → before ≡ before ++ ready_one at offered wanted
ready-unpushed at offered wanted before e = sym (append-nil before) ∙ ap (λ found. before ++ ready_one at offered found) (sym e)

-- what an atom sends, or receives, was found and is put at the end
pub found-pushed : {A : Type 0} (make : A → Action) (by : Offered → Option A) (offers : List Offered) (at atom : ℕ) (offered : Offered) (found : Option A) (value : A) (before after : List Ready) →
    found ≡ option_and_then by (slice_get offers at) → found ≡ Some value → slice_get offers at ≡ Some offered → offered.atom ≡ atom →
    after ≡ before ++ record { offer = at; atom = atom; action = make value } ∷ [] → after ≡ before ++ ready_one at offered (option_map make (by offered))
found-pushed make by offers at atom offered found value before after finds is here same pushed =
    ready-pushed at atom offered (make value) (option_map make (by offered)) before after same
    (ap (option_map make) (sym (ap (option_and_then by) here) ∙ sym finds ∙ is)) pushed

pub found-unpushed : {A : Type 0} (make : A → Action) (by : Offered → Option A) (offers : List Offered) (at : ℕ) (offered : Offered) (found : Option A) (before : List Ready) →
    found ≡ option_and_then by (slice_get offers at) → found ≡ None → slice_get offers at ≡ Some offered → before ≡ before ++ ready_one at offered (option_map make (by offered))
found-unpushed make by offers at offered found before finds is here =
    ready-unpushed at offered (option_map make (by offered)) before (ap (option_map make) (sym (ap (option_and_then by) here) ∙ sym finds ∙ is))

-- that is the action of an atom that sends,
pub sends-in : (atoms : List Atom) (offered : Offered) (act : Act) (exprs : List Expr) → act_of atoms offered.atom ≡ act → act ≡ SndMsg exprs → option_map action.Send (sent_by atoms offered) ≡ action_in offered.store act
sends-in atoms offered act exprs e f =
    ap (λ a. option_map action.Send (values_together offered.store (sent_exprs a))) (e ∙ f) ∙ ap (action_in offered.store) (sym f)

-- and of one that receives
pub receives-in : (atoms : List Atom) (offered : Offered) (act : Act) (exprs : List Expr) → act_of atoms offered.atom ≡ act → act ≡ RecMsg exprs → option_map action.Receive (patterns_by atoms offered) ≡ action_in offered.store act
receives-in atoms offered act exprs e f =
    ap (λ a. option_map action.Receive (patterns_of offered.store (matched_exprs a))) (e ∙ f) ∙ ap (action_in offered.store) (sym f)

-- what is ready of the offers up to a position, and of the one there
readies-step : (atoms : List Atom) (now at : ℕ) (offers : List Offered) (d : Offered) → at < length offers →
    readies atoms now 0 (take (at + 1) offers) ≡ readies atoms now 0 (take at offers) ++ ready_one at (get_or offers at d) (action_of atoms now (get_or offers at d))
readies-step atoms now at offers d within =
    let long = length-take-le at offers (omega arith) in
    let many : 0 + length (take at offers) ≡ at = omega arith in
    ap (readies atoms now 0) (take_more offers at d within) ∙ readies-more atoms now 0 (take at offers) (get_or offers at d)
    ∙ ap (λ n. readies atoms now 0 (take at offers) ++ ready_one n (get_or offers at d) (action_of atoms now (get_or offers at d))) many

-- the same, after an offer was looked at
pub readies-filled : (atoms : List Atom) (now : ℕ) (walking : Walking) (looked : Option (List Offer)) (at many : ℕ) (sorts : List Sort) (before after : List Ready) →
    at < many → looked ≡ Some (seen_offers atoms now walking) → ForSome looked (λ offers. many ≡ length offers) → sorts_of walking.store ≡ sorts →
    before ≡ readies atoms now 0 (take at (offers_of walking)) →
    ((offered : Offered) → slice_get (offers_of walking) at ≡ Some offered → sorts_of offered.store ≡ sorts → after ≡ before ++ ready_one at offered (action_of atoms now offered)) →
    after ≡ readies atoms now 0 (take (at + 1) (offers_of walking))
readies-filled atoms now walking looked at many sorts before after less saw counted well_sorted filled goes =
    let offers : List Offered = offers_of walking in
    let long : many ≡ length offers = counted (seen_offers atoms now walking) saw ∙ length-map offers (seen atoms now) in
    let within : at < length offers = omega arith in
    let offered : Offered = get_or offers at no_offer in
    let here : slice_get offers at ≡ Some offered = slice_get-get_or offers at no_offer within in
    goes offered here ((offer_at-keeps walking at offered here).sorts ∙ well_sorted)
    ∙ ap (λ rs. rs ++ ready_one at offered (action_of atoms now offered)) filled
    ∙ sym (readies-step atoms now at offers no_offer within)

-- one offer more that has no times
pub timeless-more : (atoms : List Atom) (now : ℕ) (walking : Walking) (looked : Option (List Offer)) (at many : ℕ) (offer : Offer) →
    at < many → looked ≡ Some (seen_offers atoms now walking) → ForSome looked (λ offers. many ≡ length offers) → ForSome looked (λ offers. slice_get offers at ≡ Some offer) → times_of atoms offer.atom ≡ [] →
    All (IsTimeless atoms) (take at (offers_of walking)) → All (IsTimeless atoms) (take (at + 1) (offers_of walking))
timeless-more atoms now walking looked at many offer less saw counted there none before =
    let offers : List Offered = offers_of walking in
    let long : many ≡ length offers = counted (seen_offers atoms now walking) saw ∙ length-map offers (seen atoms now) in
    let within : at < length offers = omega arith in
    let same = offer-seen atoms now walking looked at (get_or offers at no_offer) offer saw there (slice_get-get_or offers at no_offer within) in
    All-more (IsTimeless atoms) offers at no_offer within before (ap (λ (o : Offer). times_of atoms o.atom) (sym same) ∙ none)

-- and all of them
pub timeless-all : (atoms : List Atom) (now : ℕ) (walking : Walking) (looked : Option (List Offer)) (at many : ℕ) →
    many ≤ at → looked ≡ Some (seen_offers atoms now walking) → ForSome looked (λ offers. many ≡ length offers) → All (IsTimeless atoms) (take at (offers_of walking)) → All (IsTimeless atoms) (offers_of walking)
timeless-all atoms now walking looked at many past saw counted before =
    let offers : List Offered = offers_of walking in
    let long : many ≡ length offers = counted (seen_offers atoms now walking) saw ∙ length-map offers (seen atoms now) in
    subst (All (IsTimeless atoms)) (take_all at offers (omega arith)) before
