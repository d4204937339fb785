-- The offers of an aged term are the offers of the term, one by one, each a tick older.
use Rattle.std.proofs.Common.{◌≡◌, ℕ, zero, suc, ◌<◌, arith, Bool, true, false, List, [], ◌∷◌, ◌++◌, map, length, Option, Some, None, option_map, slice_get, refl, ap, sym, subst, ◌∙◌}
use Rattle.tb_terms.specs.declared.term.Term.{Term}
use Rattle.tb_func.specs.declared.slot.Slot.{Slot}
use Rattle.tb_body.specs.declared.atom.Atom.{Atom}
use Rattle.tb_process_steps.specs.Ageing.{IsLeftLater, follows, goes_before, stays, goes_beside, goes_along, goes_until, LeavesLater, IsAged, AreAged}
use Rattle.tb_process_steps.specs.Atoms.{act_of, times_of, sent_exprs, matched_exprs, values_together, patterns_of, accepted, is_ready}
use Rattle.tb_process_steps.specs.Offers.{until, in_wait, Offered, followed, left_of, right_of, before, on_the_left, on_the_right, offers_if, offers_after, offers}
use Rattle.tb_process_steps.specs.Processes.{Process, At, Seq, Alt, Star, Par, Disrupt, If, When, Let, aged}
use Rattle.tb_process_steps.specs.Settings.{tested, with_settings}
use Rattle.tb_process_steps.specs.Walks.{Walking, offers_of, offers_of_term, sent_by, patterns_by, accepted_by, ticked, is_end}

-- the rest of an offer

followed-later : (left later : Option Process) (next : Process) → LeavesLater left later → IsLeftLater (followed left next) (followed later next)
followed-later None None next h = follows
followed-later None (Some y) next h = absurd h
followed-later (Some x) None next h = absurd h
followed-later (Some x) (Some y) next h = goes_before h

left_of-later : (left later : Option Process) (other : Process) → LeavesLater left later → IsLeftLater (left_of left other) (left_of later (aged other))
left_of-later None None other h = stays
left_of-later None (Some y) other h = absurd h
left_of-later (Some x) None other h = absurd h
left_of-later (Some x) (Some y) other h = goes_beside h

right_of-later : (other : Process) (left later : Option Process) → LeavesLater left later → IsLeftLater (right_of other left) (right_of (aged other) later)
right_of-later other None None h = stays
right_of-later other None (Some y) h = absurd h
right_of-later other (Some x) None h = absurd h
right_of-later other (Some x) (Some y) h = goes_along h

until-later : (other : Process) (left later : Option Process) → LeavesLater left later → LeavesLater (until other left) (until (aged other) later)
until-later other None None h = tt
until-later other None (Some y) h = h
until-later other (Some x) None h = h
until-later other (Some x) (Some y) h = goes_until h

-- one offer

before-aged : (next : Process) (offered later : Offered) → IsAged offered later → IsAged (before next offered) (before next later)
before-aged next offered later h = record { atom = h.atom; age = h.age; store = h.store; left = followed-later offered.residual later.residual next h.left }

on_the_left-aged : (other : Process) (offered later : Offered) → IsAged offered later → IsAged (on_the_left other offered) (on_the_left (aged other) later)
on_the_left-aged other offered later h = record { atom = h.atom; age = h.age; store = h.store; left = left_of-later offered.residual later.residual other h.left }

on_the_right-aged : (other : Process) (offered later : Offered) → IsAged offered later → IsAged (on_the_right other offered) (on_the_right (aged other) later)
on_the_right-aged other offered later h = record { atom = h.atom; age = h.age; store = h.store; left = right_of-later other offered.residual later.residual h.left }

in_wait-aged : (other : Process) (offered later : Offered) → IsAged offered later → IsAged (in_wait other offered) (in_wait (aged other) later)
in_wait-aged other offered later h = record { atom = h.atom; age = h.age; store = h.store; left = until-later other offered.residual later.residual h.left }

-- lists of offers

map-aged : (f g : Offered → Offered) (os ls : List Offered) → ((offered later : Offered) → IsAged offered later → IsAged (f offered) (g later)) → AreAged os ls → AreAged (map f os) (map g ls)
map-aged f g [] [] each h = tt
map-aged f g [] (l ∷ ls) each h = absurd h
map-aged f g (o ∷ os) [] each h = absurd h
map-aged f g (o ∷ os) (l ∷ ls) each h = (each o l h.0, map-aged f g os ls each h.1)

append-aged : (os ls ps ms : List Offered) → AreAged os ls → AreAged ps ms → AreAged (os ++ ps) (ls ++ ms)
append-aged [] [] ps ms h k = k
append-aged [] (l ∷ ls) ps ms h k = absurd h
append-aged (o ∷ os) [] ps ms h k = absurd h
append-aged (o ∷ os) (l ∷ ls) ps ms h k = (h.0, append-aged os ls ps ms h.1 k)

if-aged : (says : Option Bool) (os ls ps ms : List Offered) → AreAged os ls → AreAged ps ms → AreAged (offers_if says os ps) (offers_if says ls ms)
if-aged None os ls ps ms h k = tt
if-aged (Some true) os ls ps ms h k = h
if-aged (Some false) os ls ps ms h k = k

after-aged : (after : Option (List Slot)) (f g : List Slot → List Offered) → ((store : List Slot) → AreAged (f store) (g store)) → AreAged (offers_after after f) (offers_after after g)
after-aged None f g each = tt
after-aged (Some store) f g each = each store

pub offers-age : (term : Process) (store : List Slot) → AreAged (offers term store) (offers (aged term) store)
offers-age (At atom age) store = (record { atom = refl; age = refl; store = refl; left = tt }, tt)
offers-age (Seq x y) store = map-aged (before y) (before y) (offers x store) (offers (aged x) store) (before-aged y) (offers-age x store)
offers-age (Alt x y) store = append-aged (offers x store) (offers (aged x) store) (offers y store) (offers (aged y) store) (offers-age x store) (offers-age y store)
offers-age (Star x y) store =
    let again = Star x y in
    append-aged (map (before again) (offers x store)) (map (before again) (offers (aged x) store)) (offers y store) (offers (aged y) store)
    (map-aged (before again) (before again) (offers x store) (offers (aged x) store) (before-aged again) (offers-age x store)) (offers-age y store)
offers-age (Par x y) store =
    append-aged (map (on_the_left y) (offers x store)) (map (on_the_left (aged y)) (offers (aged x) store))
    (map (on_the_right x) (offers y store)) (map (on_the_right (aged x)) (offers (aged y) store))
    (map-aged (on_the_left y) (on_the_left (aged y)) (offers x store) (offers (aged x) store) (on_the_left-aged y) (offers-age x store))
    (map-aged (on_the_right x) (on_the_right (aged x)) (offers y store) (offers (aged y) store) (on_the_right-aged x) (offers-age y store))
offers-age (Disrupt x y) store =
    append-aged (map (in_wait y) (offers x store)) (map (in_wait (aged y)) (offers (aged x) store)) (offers y store) (offers (aged y) store)
    (map-aged (in_wait y) (in_wait (aged y)) (offers x store) (offers (aged x) store) (in_wait-aged y) (offers-age x store)) (offers-age y store)
offers-age (If test x y) store = if-aged (tested store test) (offers x store) (offers (aged x) store) (offers y store) (offers (aged y) store) (offers-age x store) (offers-age y store)
offers-age (When test x) store = if-aged (tested store test) (offers x store) (offers (aged x) store) [] [] (offers-age x store) tt
offers-age (Let settings x) store = after-aged (with_settings store settings) (offers x) (offers (aged x)) (offers-age x)

of_term-age : (term : Option Process) (store : List Slot) → AreAged (offers_of_term term store) (offers_of_term (option_map aged term) store)
of_term-age None store = tt
of_term-age (Some term) store = offers-age term store

pub offers_of-age : (walking : Walking) → AreAged (offers_of walking) (offers_of (ticked walking))
unfolding offers_of
offers_of-age walking = of_term-age walking.term walking.store

-- the number of offers, and each offer by its index

pub length-aged : (os ls : List Offered) → AreAged os ls → length ls ≡ length os
length-aged [] [] h = refl
length-aged [] (l ∷ ls) h = absurd h
length-aged (o ∷ os) [] h = absurd h
length-aged (o ∷ os) (l ∷ ls) h = ap suc (length-aged os ls h.1)

pub length-ticked : (walking : Walking) → length (offers_of (ticked walking)) ≡ length (offers_of walking)
length-ticked walking = length-aged (offers_of walking) (offers_of (ticked walking)) (offers_of-age walking)

-- an index among the offers is still an index among the offers after a tick
pub within-ticked : (walking later : Walking) (k : ℕ) → later ≡ ticked walking → k < length (offers_of walking) → k < length (offers_of later)
within-ticked walking later k e within =
    let same = length-ticked walking in
    let long = ap (λ (w : Walking). length (offers_of w)) e in
    omega arith

pub aged-at : (os ls : List Offered) (k : ℕ) (offered : Offered) → AreAged os ls → slice_get os k ≡ Some offered → (later : Offered) × (slice_get ls k ≡ Some later) × IsAged offered later
aged-at [] [] k offered h e = cc
aged-at [] (l ∷ ls) k offered h e = absurd h
aged-at (o ∷ os) [] k offered h e = absurd h
aged-at (o ∷ os) (l ∷ ls) zero offered h e =
    let same : o ≡ offered = cc in
    (l, refl, subst (λ (x : Offered). IsAged x l) same h.0)
aged-at (o ∷ os) (l ∷ ls) (suc k) offered h e = aged-at os ls k offered h.1 e

pub ticked-at : (walking : Walking) (k : ℕ) (offered : Offered) → slice_get (offers_of walking) k ≡ Some offered → (later : Offered) × (slice_get (offers_of (ticked walking)) k ≡ Some later) × IsAged offered later
ticked-at walking k offered e = aged-at (offers_of walking) (offers_of (ticked walking)) k offered (offers_of-age walking) e

-- a tick changes neither what an atom sends nor what it accepts, nor whether an atom without times is ready

pub sent-aged : (atoms : List Atom) (offered later : Offered) → IsAged offered later → sent_by atoms later ≡ sent_by atoms offered
sent-aged atoms offered later h =
    ap (λ (s : List Slot). values_together s (sent_exprs (act_of atoms later.atom))) h.store
    ∙ ap (λ (n : ℕ). values_together offered.store (sent_exprs (act_of atoms n))) h.atom

pub patterns-aged : (atoms : List Atom) (offered later : Offered) → IsAged offered later → patterns_by atoms later ≡ patterns_by atoms offered
patterns-aged atoms offered later h =
    ap (λ (s : List Slot). patterns_of s (matched_exprs (act_of atoms later.atom))) h.store
    ∙ ap (λ (n : ℕ). patterns_of offered.store (matched_exprs (act_of atoms n))) h.atom

pub accepted-aged : (atoms : List Atom) (terms : List Term) (offered later : Offered) → IsAged offered later → accepted_by atoms terms later ≡ accepted_by atoms terms offered
accepted-aged atoms terms offered later h =
    ap (λ (s : List Slot). accepted s (matched_exprs (act_of atoms later.atom)) terms) h.store
    ∙ ap (λ (n : ℕ). accepted offered.store (matched_exprs (act_of atoms n)) terms) h.atom

pub ready-untimed : (store : List Slot) (age now : ℕ) (atoms : List Atom) (number : ℕ) → times_of atoms number ≡ [] → is_ready store age now (times_of atoms number) ≡ true
ready-untimed store age now atoms number e = ap (is_ready store age now) e

pub ready-aged : (atoms : List Atom) (now then_now : ℕ) (offered later : Offered) → IsAged offered later → times_of atoms offered.atom ≡ [] → is_ready later.store later.age then_now (times_of atoms later.atom) ≡ is_ready offered.store offered.age now (times_of atoms offered.atom)
ready-aged atoms now then_now offered later h e =
    ready-untimed later.store later.age then_now atoms later.atom (ap (times_of atoms) h.atom ∙ e)
    ∙ sym (ready-untimed offered.store offered.age now atoms offered.atom e)

-- a term that has ended stays ended
end-stays : (term : Option Process) → is_end (option_map aged term) ≡ is_end term
end-stays None = refl
end-stays (Some term) = refl

pub is_end-ticked : (walking : Walking) → is_end (ticked walking).term ≡ is_end walking.term
is_end-ticked walking = end-stays walking.term
