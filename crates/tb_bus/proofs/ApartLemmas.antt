-- No two steps of a bus are seen alike: each two differ in who begins, in which offer, or in who receives with which.
use Rattle.std.proofs.Common.{◌≡◌, ℕ, ◌<◌, ◌==◌, List, [], ◌∷◌, ◌++◌, map, length, refl, ap, sym, ◌∙◌, subst, arith, Option, Some, None, Bool, true, false, Contains, if◌then◌else◌, zero, suc, nat_lt, nat_le, not, filter}
use Rattle.std.specs.Prelude.{⊤, ◌≢◌, slice_index_or}
use Rattle.std.specs.List.{All, AllPairs, flat_map}
use Rattle.std.proofs.lemmas.Bool.{ltb-true, leb-true}
use Rattle.std.proofs.lemmas.List.{length-map}
use Rattle.std.proofs.lemmas.List.Elements.{filter_passes}
use Rattle.std.proofs.lemmas.List.Elements.{All-nil, All-head, All-tail, All-append, All-weaker, All-map, All-filter, All-contains, All-contains_itself}
use Rattle.std.proofs.lemmas.List.Kept.{AllPairs-cons, AllPairs-from_increasing}
use Rattle.tb_terms.specs.declared.term.Term.{Term}
use Rattle.tb_match.specs.declared.bind.Bind.{Bind}
use Rattle.tb_match.specs.Matches.{match_list}
use Rattle.tb_body.specs.declared.body.Body.{Body}
use Rattle.tb_process_steps.specs.Offers.{Offered, offers}
use Rattle.tb_process_steps.proofs.Ascending.{offers-ascend}
use Rattle.tb_bus.specs.declared.origin.Origin.{Origin}
use Rattle.tb_bus.specs.Buses.{Bus, Proc}
use Rattle.tb_bus.specs.Steps.{Move, Own, Handshake, Finish, Halt, Step, action_by, in_turn, others, handshake_if, handshake_of, handshakes_with, handshakes, own_if, moves_by, moves_of, moves_of_all, moves_or_halt, moves_while_up, moves, label_of, step_of, steps}
use Rattle.tb_bus.specs.Effects.{Effect, effect_of}
use Rattle.tb_bus.specs.Reached.{Reaches}
use Rattle.tb_bus.specs.declared.action.Action.{Action}
use Rattle.tb_bus.specs.declared.action.Action.TheVariants as action
use Rattle.tb_log.specs.declared.entry.Label.{Label}
use Rattle.tb_bus.proofs.OrderLemmas.{All-flat_map, All-one, Ascend, ascend-above, IsLed, InOrder}
use Rattle.tb_bus.proofs.ReachedLemmas.{reached-in_order}

-- lists whose members stand in a relation to each later one

abbrev Apart : {X : Type 0} → (X → X → Type 0) → List X → Type 0
Apart R [] = ⊤
Apart R (x ∷ xs) = All (R x) xs × Apart R xs

to_pairs : {X : Type 0} (R : X → X → Type 0) (xs : List X) → Apart R xs → AllPairs R xs
to_pairs R [] h = λ i j d l m. absurd (omega arith)
to_pairs R (x ∷ xs) h = AllPairs-cons R x xs h.0 (to_pairs R xs h.1)

Apart-one : {X : Type 0} (R : X → X → Type 0) (x : X) → Apart R (x ∷ [])
Apart-one R x = (All-nil (R x), tt)

Apart-append : {X : Type 0} (R : X → X → Type 0) (xs ys : List X) → Apart R xs → Apart R ys → All (λ x. All (R x) ys) xs → Apart R (xs ++ ys)
Apart-append R [] ys h g a = g
Apart-append R (x ∷ xs) ys h g a =
    (All-append (R x) xs ys h.0 (All-head (λ z. All (R z) ys) x xs a), Apart-append R xs ys h.1 g (All-tail (λ z. All (R z) ys) x xs a))

keep-by : {X : Type 0} (R : X → X → Type 0) (x : X) (xs : List X) (b : Bool) → All (R x) xs → Apart R xs → Apart R (if b then x ∷ xs else xs)
keep-by R x xs true h g = (h, g)
keep-by R x xs false h g = g

Apart-filter : {X : Type 0} (R : X → X → Type 0) (p : X → Bool) (xs : List X) → Apart R xs → Apart R (filter p xs)
Apart-filter R p [] h = tt
Apart-filter R p (x ∷ xs) h = keep-by R x (filter p xs) (p x) (All-filter p (R x) xs h.0) (Apart-filter R p xs h.1)

-- Where each two members lead to what stands in the relation, and each member by itself does, all do.
Apart-flat_map : {X A : Type 0} (D : X → X → Type 0) (R : A → A → Type 0) (f : X → List A) → ((x y : X) → D x y → All (λ a. All (R a) (f y)) (f x)) →
    (xs : List X) → Apart D xs → All (λ x. Apart R (f x)) xs → Apart R (flat_map f xs)
Apart-flat_map D R f far [] h each = tt
Apart-flat_map {A = A} D R f far (x ∷ xs) h each =
    Apart-append R (f x) (flat_map f xs) (All-head (λ z. Apart R (f z)) x xs each)
    (Apart-flat_map D R f far xs h.1 (All-tail (λ z. Apart R (f z)) x xs each))
    (All-weaker (Contains (f x)) (λ (a : A). All (R a) (flat_map f xs))
    (λ a c. All-flat_map (R a) f xs (All-weaker (D x) (λ y. All (R a) (f y)) (λ y d. All-contains (λ (b : A). All (R b) (f y)) (f x) a (far x y d) c) xs h.0))
    (f x) (All-contains_itself (f x)))

index-map : {X : Type 0} (f : X → ℕ) (xs : List X) (k : ℕ) (d : X) → slice_index_or (map f xs) k (f d) ≡ f (slice_index_or xs k d)
index-map f [] k d = refl
index-map f (x ∷ xs) zero d = refl
index-map f (x ∷ xs) (suc k) d = index-map f xs k d

from_pairs : {X : Type 0} (f : X → ℕ) (xs : List X) → AllPairs (λ a b. a < b) (map f xs) → Apart (λ x y. f x < f y) xs
from_pairs f [] h = tt
from_pairs f (x ∷ xs) h =
    let same : length (map f xs) ≡ length xs = length-map xs f in (
      λ k d l. subst (λ n. f x < n) (index-map f xs k d) (h 0 (suc k) (f d) (omega arith) (omega arith)),
      from_pairs f xs (λ i j d l m. h (suc i) (suc j) d (omega arith) (omega arith)),
    )

-- processes

abbrev Differ : Proc → Proc → Type 0
Differ p q = p.number ≢ q.number

ascend-apart : (below : ℕ) (procs : List Proc) → Ascend below procs → Apart Differ procs
ascend-apart below [] h = tt
ascend-apart below (p ∷ rest) h = (
  All-weaker (Contains rest) (Differ p) (λ q c. λ e. let above = ascend-above p.number rest q h.1 c in absurd (omega arith)) rest (All-contains_itself rest),
  ascend-apart p.number rest h.1,
)

abbrev Less : Proc → Proc → Type 0
Less p q = p.number < q.number

ascend-less : (below : ℕ) (procs : List Proc) → Ascend below procs → Apart Less procs
ascend-less below [] h = tt
ascend-less below (p ∷ rest) h = (
  All-weaker (Contains rest) (Less p) (λ q c. ascend-above p.number rest q h.1 c) rest (All-contains_itself rest),
  ascend-less p.number rest h.1,
)

-- In a bus that a program reaches the numbers ascend,
pub numbers-ascend : (origin : Origin) (bus : Bus) → Reaches origin bus → AllPairs Less bus.procs
numbers-ascend origin bus r = to_pairs Less bus.procs (ascend-less 0 bus.procs (reached-in_order origin bus r).ascend)

-- from above 0.
pub numbers-above : (origin : Origin) (bus : Bus) → Reaches origin bus → All (λ (proc : Proc). 0 < proc.number) bus.procs
numbers-above origin bus r =
    All-weaker (Contains bus.procs) (λ (proc : Proc). 0 < proc.number) (λ proc c. ascend-above 0 bus.procs proc (reached-in_order origin bus r).ascend c) bus.procs (All-contains_itself bus.procs)

pub numbers-below : (origin : Origin) (bus : Bus) → Reaches origin bus → All (λ (proc : Proc). proc.number < bus.next_number) bus.procs
numbers-below origin bus r = (reached-in_order origin bus r).below

in_turn-apart : (bus : Bus) → Apart Differ bus.procs → Apart Differ (in_turn bus)
in_turn-apart bus h =
    let later = λ (proc : Proc). nat_lt bus.last_starter proc.number in
    let earlier = λ (proc : Proc). nat_le proc.number bus.last_starter in
    Apart-append Differ (filter later bus.procs) (filter earlier bus.procs) (Apart-filter Differ later bus.procs h) (Apart-filter Differ earlier bus.procs h)
    (All-weaker (λ p. later p ≡ true) (λ p. All (Differ p) (filter earlier bus.procs))
    (λ p l. All-weaker (λ q. earlier q ≡ true) (Differ p)
    (λ q r. λ e. let above = ltb-true bus.last_starter p.number l in let under = leb-true q.number bus.last_starter r in absurd (omega arith))
    (filter earlier bus.procs) (filter_passes earlier bus.procs))
    (filter later bus.procs) (filter_passes later bus.procs))

-- what is seen of a move tells who begins it with which offer, and who receives with which

abbrev Unlike : Move → Move → Type 0
Unlike m n = label_of m ≢ label_of n

abbrev IsFrom : ℕ → ℕ → Move → Type 0
IsFrom number atom move = ((label_of move).from.proc ≡ number) × ((label_of move).from.atom ≡ atom)

abbrev IsTo : ℕ → ℕ → Move → Type 0
IsTo number atom move = ((label_of move).to.proc ≡ number) × ((label_of move).to.atom ≡ atom)

abbrev Both : Proc → Offered → Proc → Offered → Move → Type 0
Both sender sent receiver received move = IsFrom sender.number sent.atom move × IsTo receiver.number received.atom move

handshake_if-both : (sender : Proc) (sent : Offered) (terms : List Term) (receiver : Proc) (received : Offered) (binds : Option (List Bind)) → All (Both sender sent receiver received) (handshake_if sender sent terms receiver received binds)
handshake_if-both sender sent terms receiver received None = All-nil _
handshake_if-both sender sent terms receiver received (Some binds) = All-one (Both sender sent receiver received) (Handshake sender sent receiver received terms binds) ((refl, refl), (refl, refl))

handshake_of-both : (sender : Proc) (sent : Offered) (terms : List Term) (receiver : Proc) (received : Offered) (does : Option Action) → All (Both sender sent receiver received) (handshake_of sender sent terms receiver received does)
handshake_of-both sender sent terms receiver received None = All-nil _
handshake_of-both sender sent terms receiver received (Some (action.Own own)) = All-nil _
handshake_of-both sender sent terms receiver received (Some (action.Send other)) = All-nil _
handshake_of-both sender sent terms receiver received (Some (action.Receive patterns)) = handshake_if-both sender sent terms receiver received (match_list patterns terms)

handshake_if-apart : (sender : Proc) (sent : Offered) (terms : List Term) (receiver : Proc) (received : Offered) (binds : Option (List Bind)) → Apart Unlike (handshake_if sender sent terms receiver received binds)
handshake_if-apart sender sent terms receiver received None = tt
handshake_if-apart sender sent terms receiver received (Some binds) = Apart-one Unlike (Handshake sender sent receiver received terms binds)

handshake_of-apart : (sender : Proc) (sent : Offered) (terms : List Term) (receiver : Proc) (received : Offered) (does : Option Action) → Apart Unlike (handshake_of sender sent terms receiver received does)
handshake_of-apart sender sent terms receiver received None = tt
handshake_of-apart sender sent terms receiver received (Some (action.Own own)) = tt
handshake_of-apart sender sent terms receiver received (Some (action.Send other)) = tt
handshake_of-apart sender sent terms receiver received (Some (action.Receive patterns)) = handshake_if-apart sender sent terms receiver received (match_list patterns terms)

-- where all of the one list have what none of the other has, each two are unlike
unlike-by : (f : Label → ℕ) (a b : ℕ) (ms ns : List Move) → a ≢ b → All (λ m. f (label_of m) ≡ a) ms → All (λ m. f (label_of m) ≡ b) ns → All (λ m. All (Unlike m) ns) ms
unlike-by f a b ms ns d h g =
    All-weaker (λ m. f (label_of m) ≡ a) (λ m. All (Unlike m) ns)
    (λ m e. All-weaker (λ n. f (label_of n) ≡ b) (Unlike m) (λ n k. λ same. d (sym e ∙ ap f same ∙ k)) ns g) ms h

-- the offers of a process that its body led there
led-apart : (bodies : List Body) (proc : Proc) → IsLed bodies proc → Apart (λ (o u : Offered). o.atom < u.atom) (offers proc.term proc.store)
led-apart bodies proc h =
    from_pairs (λ (o : Offered). o.atom) (offers proc.term proc.store)
    (AllPairs-from_increasing (map (λ (o : Offered). o.atom) (offers proc.term proc.store)) (offers-ascend h.0 h.2.0 proc.term proc.store h.2.1))

less-differs : (a b : ℕ) → a < b → a ≢ b
less-differs a b l = λ e. absurd (omega arith)

handshakes_with-both : (bus : Bus) (sender : Proc) (sent : Offered) (terms : List Term) (receiver : Proc) →
    All (λ m. IsFrom sender.number sent.atom m × ((label_of m).to.proc ≡ receiver.number)) (handshakes_with bus sender sent terms receiver)
unfolding handshakes_with
handshakes_with-both bus sender sent terms receiver =
    let P = λ (m : Move). IsFrom sender.number sent.atom m × ((label_of m).to.proc ≡ receiver.number) in
    let each : Offered → List Move = λ received. handshake_of sender sent terms receiver received (action_by bus receiver received) in
    let all = offers receiver.term receiver.store in
    All-flat_map P each all
    (All-weaker (Contains all) (λ received. All P (each received))
    (λ received c. All-weaker (Both sender sent receiver received) P (λ m b. (b.0, b.1.0)) (each received) (handshake_of-both sender sent terms receiver received (action_by bus receiver received)))
    all (All-contains_itself all))

handshakes_with-apart : (bus : Bus) (sender : Proc) (sent : Offered) (terms : List Term) (receiver : Proc) → IsLed bus.program.bodies receiver → Apart Unlike (handshakes_with bus sender sent terms receiver)
unfolding handshakes_with
handshakes_with-apart bus sender sent terms receiver h =
    let each : Offered → List Move = λ received. handshake_of sender sent terms receiver received (action_by bus receiver received) in
    let all = offers receiver.term receiver.store in
    let at : (received : Offered) → All (λ m. (label_of m).to.atom ≡ received.atom) (each received) =
    λ received. All-weaker (Both sender sent receiver received) (λ m. (label_of m).to.atom ≡ received.atom) (λ m b. b.1.1) (each received) (handshake_of-both sender sent terms receiver received (action_by bus receiver received)) in
    Apart-flat_map (λ (o u : Offered). o.atom < u.atom) Unlike each
    (λ o u l. unlike-by (λ label. label.to.atom) o.atom u.atom (each o) (each u) (less-differs o.atom u.atom l) (at o) (at u))
    all (led-apart bus.program.bodies receiver h)
    (All-weaker (Contains all) (λ received. Apart Unlike (each received)) (λ received c. handshake_of-apart sender sent terms receiver received (action_by bus receiver received)) all (All-contains_itself all))

handshakes-from : (bus : Bus) (sender : Proc) (sent : Offered) (terms : List Term) → All (IsFrom sender.number sent.atom) (handshakes bus sender sent terms)
unfolding handshakes
handshakes-from bus sender sent terms =
    let P = IsFrom sender.number sent.atom in
    let all = others bus sender in
    All-flat_map P (handshakes_with bus sender sent terms) all
    (All-weaker (Contains all) (λ receiver. All P (handshakes_with bus sender sent terms receiver))
    (λ receiver c. All-weaker (λ m. IsFrom sender.number sent.atom m × ((label_of m).to.proc ≡ receiver.number)) P (λ m b. b.0) (handshakes_with bus sender sent terms receiver) (handshakes_with-both bus sender sent terms receiver))
    all (All-contains_itself all))

handshakes-apart : (bus : Bus) (sender : Proc) (sent : Offered) (terms : List Term) → InOrder bus → Apart Unlike (handshakes bus sender sent terms)
unfolding handshakes
handshakes-apart bus sender sent terms h =
    let other = λ (proc : Proc). not (proc.number == sender.number) in
    let all = others bus sender in
    let to : (receiver : Proc) → All (λ m. (label_of m).to.proc ≡ receiver.number) (handshakes_with bus sender sent terms receiver) =
    λ receiver. All-weaker (λ m. IsFrom sender.number sent.atom m × ((label_of m).to.proc ≡ receiver.number)) (λ m. (label_of m).to.proc ≡ receiver.number) (λ m b. b.1) (handshakes_with bus sender sent terms receiver) (handshakes_with-both bus sender sent terms receiver) in
    Apart-flat_map Differ Unlike (handshakes_with bus sender sent terms)
    (λ p q d. unlike-by (λ label. label.to.proc) p.number q.number (handshakes_with bus sender sent terms p) (handshakes_with bus sender sent terms q) d (to p) (to q))
    all (Apart-filter Differ other bus.procs (ascend-apart 0 bus.procs h.ascend))
    (All-weaker (IsLed bus.program.bodies) (λ receiver. Apart Unlike (handshakes_with bus sender sent terms receiver))
    (λ receiver led. handshakes_with-apart bus sender sent terms receiver led) all (All-filter other (IsLed bus.program.bodies) bus.procs h.led))

own_if-from : (proc : Proc) (offered : Offered) (effect : Option Effect) → All (IsFrom proc.number offered.atom) (own_if proc offered effect)
own_if-from proc offered None = All-nil _
own_if-from proc offered (Some effect) = All-one (IsFrom proc.number offered.atom) (Own proc offered effect) (refl, refl)

moves_by-from : (bus : Bus) (proc : Proc) (offered : Offered) (does : Option Action) → All (IsFrom proc.number offered.atom) (moves_by bus proc offered does)
moves_by-from bus proc offered None = All-nil _
moves_by-from bus proc offered (Some (action.Own own)) = own_if-from proc offered (effect_of bus proc (action.Own own))
moves_by-from bus proc offered (Some (action.Send terms)) = handshakes-from bus proc offered terms
moves_by-from bus proc offered (Some (action.Receive patterns)) = All-nil _

own_if-apart : (proc : Proc) (offered : Offered) (effect : Option Effect) → Apart Unlike (own_if proc offered effect)
own_if-apart proc offered None = tt
own_if-apart proc offered (Some effect) = Apart-one Unlike (Own proc offered effect)

moves_by-apart : (bus : Bus) (proc : Proc) (offered : Offered) (does : Option Action) → InOrder bus → Apart Unlike (moves_by bus proc offered does)
moves_by-apart bus proc offered None h = tt
moves_by-apart bus proc offered (Some (action.Own own)) h = own_if-apart proc offered (effect_of bus proc (action.Own own))
moves_by-apart bus proc offered (Some (action.Send terms)) h = handshakes-apart bus proc offered terms h
moves_by-apart bus proc offered (Some (action.Receive patterns)) h = tt

moves_of-from : (bus : Bus) (proc : Proc) → All (λ m. (label_of m).from.proc ≡ proc.number) (moves_of bus proc)
unfolding moves_of
moves_of-from bus proc =
    let P = λ (m : Move). (label_of m).from.proc ≡ proc.number in
    let each : Offered → List Move = λ offered. moves_by bus proc offered (action_by bus proc offered) in
    let all = offers proc.term proc.store in
    All-flat_map P each all
    (All-weaker (Contains all) (λ offered. All P (each offered))
    (λ offered c. All-weaker (IsFrom proc.number offered.atom) P (λ m b. b.0) (each offered) (moves_by-from bus proc offered (action_by bus proc offered)))
    all (All-contains_itself all))

moves_of-apart : (bus : Bus) (proc : Proc) → InOrder bus → IsLed bus.program.bodies proc → Apart Unlike (moves_of bus proc)
unfolding moves_of
moves_of-apart bus proc h led =
    let each : Offered → List Move = λ offered. moves_by bus proc offered (action_by bus proc offered) in
    let all = offers proc.term proc.store in
    let at : (offered : Offered) → All (λ m. (label_of m).from.atom ≡ offered.atom) (each offered) =
    λ offered. All-weaker (IsFrom proc.number offered.atom) (λ m. (label_of m).from.atom ≡ offered.atom) (λ m b. b.1) (each offered) (moves_by-from bus proc offered (action_by bus proc offered)) in
    Apart-flat_map (λ (o u : Offered). o.atom < u.atom) Unlike each
    (λ o u l. unlike-by (λ label. label.from.atom) o.atom u.atom (each o) (each u) (less-differs o.atom u.atom l) (at o) (at u))
    all (led-apart bus.program.bodies proc led)
    (All-weaker (Contains all) (λ offered. Apart Unlike (each offered)) (λ offered c. moves_by-apart bus proc offered (action_by bus proc offered) h) all (All-contains_itself all))

moves_of_all-apart : (bus : Bus) → InOrder bus → Apart Unlike (moves_of_all bus)
unfolding moves_of_all
moves_of_all-apart bus h =
    let led = All-append (IsLed bus.program.bodies) (filter (λ proc. nat_lt bus.last_starter proc.number) bus.procs) (filter (λ proc. nat_le proc.number bus.last_starter) bus.procs)
    (All-filter (λ proc. nat_lt bus.last_starter proc.number) (IsLed bus.program.bodies) bus.procs h.led)
    (All-filter (λ proc. nat_le proc.number bus.last_starter) (IsLed bus.program.bodies) bus.procs h.led) in
    Apart-flat_map Differ Unlike (moves_of bus)
    (λ p q d. unlike-by (λ label. label.from.proc) p.number q.number (moves_of bus p) (moves_of bus q) d (moves_of-from bus p) (moves_of-from bus q))
    (in_turn bus) (in_turn-apart bus (ascend-apart 0 bus.procs h.ascend))
    (All-weaker (IsLed bus.program.bodies) (λ proc. Apart Unlike (moves_of bus proc)) (λ proc l. moves_of-apart bus proc h l) (in_turn bus) led)

or_halt-apart : (no_ticks : Bool) (ms : List Move) → Apart Unlike ms → Apart Unlike (moves_or_halt no_ticks ms)
or_halt-apart true [] h = Apart-one Unlike Halt
or_halt-apart false [] h = tt
or_halt-apart no_ticks (m ∷ ms) h = h

up-apart : (bus : Bus) (procs : List Proc) → InOrder bus → Apart Unlike (moves_while_up bus procs)
up-apart bus [] h = Apart-one Unlike Finish
up-apart bus (proc ∷ procs) h = or_halt-apart bus.no_ticks (moves_of_all bus) (moves_of_all-apart bus h)

down-apart : (down : Bool) (ms : List Move) → Apart Unlike ms → Apart Unlike (if down then [] else ms)
down-apart true ms h = tt
down-apart false ms h = h

moves-apart : (bus : Bus) → InOrder bus → Apart Unlike (moves bus)
unfolding moves
moves-apart bus h = down-apart bus.down (moves_while_up bus bus.procs) (up-apart bus bus.procs h)

abbrev Differs : Step → Step → Type 0
Differs one other = one.label ≢ other.label

labels-apart : (bus : Bus) (ms : List Move) → Apart Unlike ms → Apart Differs (map (step_of bus) ms)
labels-apart bus [] h = tt
labels-apart bus (m ∷ ms) h = (All-map (Differs (step_of bus m)) (step_of bus) ms h.0, labels-apart bus ms h.1)

-- In a bus that a program reaches each two steps are seen differently.
pub steps-apart : (origin : Origin) (bus : Bus) → Reaches origin bus → AllPairs Differs (steps bus)
unfolding steps
steps-apart origin bus r = to_pairs Differs (steps bus) (labels-apart bus (moves bus) (moves-apart bus (reached-in_order origin bus r)))
