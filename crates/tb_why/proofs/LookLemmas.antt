-- The offers that the code finds for the living processes are the specified offers of the processes.
use Rattle.std.proofs.Common.{◌≡◌, ◌<◌, ◌≤◌, ◌+◌, ℕ, zero, suc, true, false, List, [], ◌∷◌, ◌++◌, length, map, take, Option, Some, None, option_and_then, slice_get, add-one, refl, ap, sym, ◌∙◌, subst, arith}
use Rattle.std.specs.Option.{ForSome}
use Rattle.std.proofs.lemmas.List.{take_all, map_push}
use Rattle.tb_terms.specs.declared.pattern.Pattern.{Pattern}
use Rattle.tb_terms.specs.declared.term.Term.{Term}
use Rattle.tb_func.specs.declared.slot.Slot.{Slot}
use Rattle.tb_body.specs.declared.atom.Atom.{Atom}
use Rattle.tb_body.specs.declared.body.Body.{Body}
use Rattle.tb_process_steps.specs.Offers.{Offered, offers}
use Rattle.tb_process_steps.specs.Processes.{Process}
use Rattle.tb_process_steps.specs.WalkerViews.{View}
use Rattle.tb_process_steps.specs.Walks.{Walking, is_end, offers_of, patterns_by, seen, seen_offers, sent_by}
use Rattle.tb_process_steps.specs.declared.offer.Offer.{Offer}
use Rattle.tb_bus.specs.Buses.{atoms_of}
use Rattle.tb_living.specs.Lives.{IsLive, proc_by, proc_in, procs_of, term_in}
use Rattle.tb_living.proofs.ActionLemmas.{offer-seen}
use Rattle.tb_living.proofs.ReadLemmas.{plan-atoms, some-at}
use Rattle.tb_search.specs.declared.living.Living.{Living}
use Rattle.tb_why.specs.Helpers.Scenes.{queue_in, queues_in}
use Rattle.tb_why.specs.Reasons.{Queue, queue_of}
use Rattle.tb_why.specs.Standing.{offering_of, standing_of}
use Rattle.tb_why.specs.declared.standing.Offering.{Offering}
use Rattle.tb_why.specs.declared.standing.Standing.{Standing}

-- Lists that are gone through.

taken : {A : Type 0} (xs : List A) (k : ℕ) (x : A) → slice_get xs k ≡ Some x → take (suc k) xs ≡ take k xs ++ x ∷ []
taken [] k x e = absurd (let t : None ≡ Some x = e in cc)
taken (y ∷ ys) zero x e = let same : y ≡ x = cc in ap (λ (z : _). z ∷ []) same
taken (y ∷ ys) (suc k) x e = ap (λ (zs : List _). y ∷ zs) (taken ys k x e)

-- one more is what the function gives for the next
pub one-more : {A B : Type 0} (f : A → B) (xs : List A) (k count : ℕ) (ys new : List B) (y : B) → k < count → count ≡ length xs → ys ≡ map f (take k xs) → new ≡ ys ++ y ∷ [] →
    ((x : A) → slice_get xs k ≡ Some x → y ≡ f x) → new ≡ map f (take (k + 1) xs)
one-more f xs k count ys new y l e so_far pushed is =
    let at = some-at xs k (omega arith) in
    pushed ∙ ap (λ (zs : List _). zs ++ y ∷ []) so_far ∙ ap (λ (z : _). map f (take k xs) ++ z ∷ []) (is at.0 at.1) ∙ sym (map_push f (take k xs) at.0) ∙ ap (map f) (sym (taken xs k at.0 at.1))
    ∙ ap (λ (n : ℕ). map f (take n xs)) (sym (add-one k))

-- and all are there at the end
pub all-there : {A B : Type 0} (f : A → B) (xs : List A) (k count : ℕ) (ys : List B) → count ≤ k → count ≡ length xs → ys ≡ map f (take k xs) → ys ≡ map f xs
all-there f xs k count ys l e so_far = so_far ∙ ap (map f) (take_all k xs (omega arith))

pub map-both : {A B C : Type 0} (f : B → C) (g : A → B) (xs : List A) → map f (map g xs) ≡ map (λ x. f (g x)) xs
map-both f g [] = refl
map-both f g (x ∷ xs) = ap (λ (ys : List _). f (g x) ∷ ys) (map-both f g xs)

-- What is seen of an offer.

abbrev pub offering_by : Offer → Option (List Term) → Option (List Pattern) → Offering
offering_by offer sent patterns = record { atom = offer.atom; age = offer.age; ready = offer.ready; sent = sent; patterns = patterns }

pub offering-is : (atoms : List Atom) (now : ℕ) (walking : Walking) (looked : Option (List Offer)) (k : ℕ) (offered : Offered) (offer : Offer) (sent : Option (List Term)) (patterns : Option (List Pattern)) →
    looked ≡ Some (seen_offers atoms now walking) → slice_get (offers_of walking) k ≡ Some offered → ForSome looked (λ offers. slice_get offers k ≡ Some offer) →
    sent ≡ option_and_then (sent_by atoms) (slice_get (offers_of walking) k) → patterns ≡ option_and_then (patterns_by atoms) (slice_get (offers_of walking) k) → offering_by offer sent patterns ≡ offering_of atoms now offered
offering-is atoms now walking looked k offered offer sent patterns saw here there sends receives =
    let same = offer-seen atoms now walking looked k offered offer saw there here in
    let sent-is : sent ≡ sent_by atoms offered = sends ∙ ap (option_and_then (sent_by atoms)) here in
    let patterns-is : patterns ≡ patterns_by atoms offered = receives ∙ ap (option_and_then (patterns_by atoms)) here in
    ap (λ (o : Offer). offering_by o sent patterns) same ∙ ap (λ (ts : Option (List Term)). offering_by (seen atoms now offered) ts patterns) sent-is
    ∙ ap (λ (ps : Option (List Pattern)). offering_by (seen atoms now offered) (sent_by atoms offered) ps) patterns-is

-- What is seen of a process.

-- one that hasn't ended offers what its term does
offers-by : (term : Option Process) (store : List Slot) (ticks : ℕ) → is_end term ≡ false → offers_of (record { term = term; store = store; ticks = ticks }) ≡ offers (term_in term) store
unfolding offers_of
offers-by None store ticks e = absurd (let t : true ≡ false = e in cc)
offers-by (Some term) store ticks e = refl

offers-alive : (walking : Walking) → is_end walking.term ≡ false → offers_of walking ≡ offers (term_in walking.term) walking.store
offers-alive walking e = offers-by walking.term walking.store walking.ticks e

-- a process with the offers of its walker
standing-is : {W P T : Type 0} (view : View P W T) (plans : List P) (now : ℕ) (living : Living W) (live : IsLive view plans now living) (all : List Offering) →
    all ≡ map (offering_of (view.body_of live.0).atoms now) (offers_of (view.walking live.0 living.walker)) →
    (let s : Standing = record { number = living.number; body = living.body; offers = all } in s) ≡ standing_of (map view.body_of plans) now (proc_in view plans living)
standing-is view plans now living live all e =
    let walking = view.walking live.0 living.walker in
    let atoms = atoms_of (map view.body_of plans) living.body in
    let mine : List Offering = map (offering_of atoms now) (offers (term_in walking.term) walking.store) in
    let same : all ≡ mine = e ∙ ap (λ (os : List Offered). map (offering_of (view.body_of live.0).atoms now) os) (offers-alive walking live.2.alive)
    ∙ ap (λ (those : List Atom). map (offering_of those now) (offers (term_in walking.term) walking.store)) (sym (plan-atoms view.body_of plans (map view.body_of plans) living.body live.0 refl live.1)) in
    subst (λ o. (let s : Standing = record { number = living.number; body = living.body; offers = all } in s) ≡ standing_of (map view.body_of plans) now (proc_by view o living)) (sym live.1)
    (ap (λ (os : List Offering). let s : Standing = record { number = living.number; body = living.body; offers = os } in s) same)

-- the same by a copy of its walker that was looked at
pub standing-looked : {W P T : Type 0} (view : View P W T) (plans : List P) (now : ℕ) (living : Living W) (live : IsLive view plans now living) (plan : P) (copied looked : W) (all : List Offering) →
    plan ≡ live.0 → copied ≡ living.walker → view.walking plan looked ≡ view.walking plan copied → all ≡ map (offering_of (view.body_of plan).atoms now) (offers_of (view.walking plan looked)) →
    (let s : Standing = record { number = living.number; body = living.body; offers = all } in s) ≡ standing_of (map view.body_of plans) now (proc_in view plans living)
standing-looked view plans now living live plan copied looked all same copy stays e =
    standing-is view plans now living live all
    (e ∙ ap (λ (w : Walking). map (offering_of (view.body_of plan).atoms now) (offers_of w)) (stays ∙ ap (view.walking plan) copy)
    ∙ ap (λ p. map (offering_of (view.body_of p).atoms now) (offers_of (view.walking p living.walker))) same)

-- What reasons are looked for in.

-- the queues of the living are those of the processes
queue-by : {W P T : Type 0} (view : View P W T) (plan : Option P) (living : Living W) → queue_in living ≡ queue_of (proc_by view plan living)
queue-by view None living = refl
queue-by view (Some plan) living = refl

pub queues-are : {W P T : Type 0} (view : View P W T) (plans : List P) (all : List (Living W)) → queues_in all ≡ map queue_of (procs_of view plans all)
queues-are view plans [] = refl
queues-are view plans (living ∷ all) =
    ap (λ (q : Queue). q ∷ queues_in all) (queue-by view (slice_get plans living.body) living) ∙ ap (λ (qs : List Queue). queue_of (proc_in view plans living) ∷ qs) (queues-are view plans all)
