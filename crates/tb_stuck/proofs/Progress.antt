-- No move of a bus is one of a process that waits for good.
use Rattle.std.proofs.Common.{◌≡◌, ◌≢◌, ℕ, ◌+◌, ◌==◌, List, [], ◌∷◌, length, map, filter, Bool, true, false, not, Option, Some, None, option_map, is_some, Contains, slice_get, if◌then◌else◌, ◌&&◌, nat_lt, refl, subst, ◌∙◌, arith}
use Rattle.std.specs.Prelude.{⊤}
use Rattle.std.specs.List.{All}
use Rattle.std.proofs.lemmas.Bool.{eq-eqb}
use Rattle.std.proofs.lemmas.List.Elements.{All-nil, All-cons, All-weaker, All-map, All-contains, All-contains_itself}
use Rattle.tb_terms.specs.declared.term.Term.{Term}
use Rattle.tb_terms.specs.declared.pattern.Pattern.{Pattern}
use Rattle.tb_match.specs.declared.bind.Bind.{Bind}
use Rattle.tb_match.specs.Matches.{match_list}
use Rattle.tb_body.specs.declared.body.Body.{Body}
use Rattle.tb_process_steps.specs.Atoms.{act_of, times_of, is_ready}
use Rattle.tb_process_steps.specs.Offers.{Offered, offers}
use Rattle.tb_notes.specs.Inboxes.{oldest_match}
use Rattle.tb_log.specs.declared.entry.LabelKind.TheVariants as kind
use Rattle.tb_bus.specs.Actions.{action_in, action_of}
use Rattle.tb_bus.specs.Buses as buses
use Rattle.tb_bus.specs.Buses.{Bus, Proc}
use Rattle.tb_bus.specs.Effects.{Nothing, Effect, effect_of, taking, creation, most_alive, number_term, setting_of, speaking}
use Rattle.tb_bus.specs.Exchanges.{exchange_for}
use Rattle.tb_bus.specs.Slots.{fits_formals, fits_slot}
use Rattle.tb_bus.specs.Steps.{Move, Own, Handshake, Finish, Halt, Step, step_of, steps, action_by, in_turn, others, handshake_if, handshake_of, handshakes_with, handshakes, own_if, moves_by, moves_of, moves_of_all, moves_or_halt, moves_while_up, moves}
use Rattle.tb_bus.specs.declared.action.Action.{Action}
use Rattle.tb_bus.specs.declared.action.Action.TheVariants as action
use Rattle.tb_bus.specs.declared.action.OwnAction.{OwnAction}
use Rattle.tb_bus.specs.declared.action.OwnAction.TheVariants as own
use Rattle.tb_bus.proofs.OrderLemmas.{All-flat_map, All-one}
use Rattle.tb_bus.proofs.ReachedLemmas.{IsReadyFor, IsMoveOf, move-of}
use Rattle.tb_iface.proofs.StoreSorts.{HaveStores}
use Rattle.tb_iface.proofs.SortedBuses.{offered-store}
use Rattle.tb_stuck.specs.Stuck.{Region, CanCome, MayBeDone, CantDo, CantHappen}
use Rattle.tb_stuck.proofs.Held.{IsHeld}
use Rattle.tb_stuck.proofs.Told.{cant-exchange}
use Rattle.tb_transfer_laws.proofs.AtomLemmas.{offer-only, only-from}

-- a message is of two processes

abbrev pub IsOfTwo : Move → Type 0
IsOfTwo (Own proc offered effect) = ⊤
IsOfTwo (Handshake sender sent receiver received terms binds) = receiver.number ≢ sender.number
IsOfTwo Finish = ⊤
IsOfTwo Halt = ⊤

handshake_if-two : (sender : Proc) (sent : Offered) (terms : List Term) (receiver : Proc) (received : Offered) (binds : Option (List Bind)) → receiver.number ≢ sender.number → All IsOfTwo (handshake_if sender sent terms receiver received binds)
handshake_if-two sender sent terms receiver received None d = All-nil IsOfTwo
handshake_if-two sender sent terms receiver received (Some binds) d = All-one IsOfTwo (Handshake sender sent receiver received terms binds) d

handshake_of-two : (sender : Proc) (sent : Offered) (terms : List Term) (receiver : Proc) (received : Offered) (does : Option Action) → receiver.number ≢ sender.number → All IsOfTwo (handshake_of sender sent terms receiver received does)
handshake_of-two sender sent terms receiver received None d = All-nil IsOfTwo
handshake_of-two sender sent terms receiver received (Some (action.Own own)) d = All-nil IsOfTwo
handshake_of-two sender sent terms receiver received (Some (action.Send other)) d = All-nil IsOfTwo
handshake_of-two sender sent terms receiver received (Some (action.Receive patterns)) d = handshake_if-two sender sent terms receiver received (match_list patterns terms) d

every : {X : Type 0} (P : X → Type 0) (xs : List X) → ((x : X) → P x) → All P xs
every P xs f = All-weaker (Contains xs) P (λ x c. f x) xs (All-contains_itself xs)

handshakes_with-two : (bus : Bus) (sender : Proc) (sent : Offered) (terms : List Term) (receiver : Proc) → receiver.number ≢ sender.number → All IsOfTwo (handshakes_with bus sender sent terms receiver)
unfolding handshakes_with
handshakes_with-two bus sender sent terms receiver d =
    let each : Offered → List Move = λ received. handshake_of sender sent terms receiver received (action_by bus receiver received) in
    let all = offers receiver.term receiver.store in
    All-flat_map IsOfTwo each all (every (λ received. All IsOfTwo (each received)) all (λ received. handshake_of-two sender sent terms receiver received (action_by bus receiver received) d))

other-by : (number : ℕ) (proc : Proc) (procs rest : List Proc) (b : Bool) → (proc.number == number) ≡ b → All (λ (p : Proc). p.number ≢ number) rest → All (λ (p : Proc). p.number ≢ number) (if not b then proc ∷ rest else rest)
other-by number proc procs rest true e h = h
other-by number proc procs rest false e h =
    All-cons (λ (p : Proc). p.number ≢ number) proc rest (λ same. let t = eq-eqb proc.number number same in cc) h

others-differ : (number : ℕ) (procs : List Proc) → All (λ (p : Proc). p.number ≢ number) (filter (λ other. not (other.number == number)) procs)
others-differ number [] = All-nil (λ (p : Proc). p.number ≢ number)
others-differ number (proc ∷ procs) = other-by number proc procs (filter (λ other. not (other.number == number)) procs) (proc.number == number) refl (others-differ number procs)

handshakes-two : (bus : Bus) (sender : Proc) (sent : Offered) (terms : List Term) → All IsOfTwo (handshakes bus sender sent terms)
unfolding handshakes
handshakes-two bus sender sent terms =
    All-flat_map IsOfTwo (handshakes_with bus sender sent terms) (others bus sender)
    (All-weaker (λ (p : Proc). p.number ≢ sender.number) (λ receiver. All IsOfTwo (handshakes_with bus sender sent terms receiver))
    (handshakes_with-two bus sender sent terms) (others bus sender) (others-differ sender.number bus.procs))

own_if-two : (proc : Proc) (offered : Offered) (effect : Option Effect) → All IsOfTwo (own_if proc offered effect)
own_if-two proc offered None = All-nil IsOfTwo
own_if-two proc offered (Some effect) = All-one IsOfTwo (Own proc offered effect) tt

moves_by-two : (bus : Bus) (proc : Proc) (offered : Offered) (does : Option Action) → All IsOfTwo (moves_by bus proc offered does)
moves_by-two bus proc offered None = All-nil IsOfTwo
moves_by-two bus proc offered (Some (action.Own own)) = own_if-two proc offered (effect_of bus proc (action.Own own))
moves_by-two bus proc offered (Some (action.Send terms)) = handshakes-two bus proc offered terms
moves_by-two bus proc offered (Some (action.Receive patterns)) = All-nil IsOfTwo

moves_of-two : (bus : Bus) (proc : Proc) → All IsOfTwo (moves_of bus proc)
unfolding moves_of
moves_of-two bus proc =
    let all = offers proc.term proc.store in
    All-flat_map IsOfTwo (λ offered. moves_by bus proc offered (action_by bus proc offered)) all
    (every (λ offered. All IsOfTwo (moves_by bus proc offered (action_by bus proc offered))) all (λ offered. moves_by-two bus proc offered (action_by bus proc offered)))

moves_of_all-two : (bus : Bus) → All IsOfTwo (moves_of_all bus)
unfolding moves_of_all
moves_of_all-two bus = All-flat_map IsOfTwo (moves_of bus) (in_turn bus) (every (λ proc. All IsOfTwo (moves_of bus proc)) (in_turn bus) (moves_of-two bus))

or_halt-two : (no_ticks : Bool) (ms : List Move) → All IsOfTwo ms → All IsOfTwo (moves_or_halt no_ticks ms)
or_halt-two true [] h = All-one IsOfTwo Halt tt
or_halt-two false [] h = All-nil IsOfTwo
or_halt-two no_ticks (m ∷ ms) h = h

up-two : (bus : Bus) (procs : List Proc) → All IsOfTwo (moves_while_up bus procs)
up-two bus [] = All-one IsOfTwo Finish tt
up-two bus (proc ∷ procs) = or_halt-two bus.no_ticks (moves_of_all bus) (moves_of_all-two bus)

down-two : (down : Bool) (ms : List Move) → All IsOfTwo ms → All IsOfTwo (if down then [] else ms)
down-two true ms h = All-nil IsOfTwo
down-two false ms h = h

pub moves-two : (bus : Bus) → All IsOfTwo (moves bus)
unfolding moves
moves-two bus = down-two bus.down (moves_while_up bus bus.procs) (up-two bus bus.procs)

-- what a process is ready for: it can come to it, and outside the region it may be done

if-some : (b : Bool) (x : Option Action) (does : Action) → (if b then x else None) ≡ Some does → x ≡ Some does
if-some true x does e = e
if-some false x does e = absurd (let t : ◌≡◌ {A = Option Action} None (Some does) = e in cc)

pub comes-now : (bus : Bus) (proc : Proc) (offered : Offered) (does : Action) → IsReadyFor bus proc offered does → CanCome bus proc does
comes-now bus proc offered does ready =
    let n : bus.now + 0 ≡ bus.now = omega arith in
    let a : offered.age + 0 ≡ offered.age = omega arith in
    let same : action_of (buses.atoms_of bus.program.bodies proc.body) (bus.now + 0) (record offered { age = offered.age + 0 }) ≡ action_by bus proc offered =
    (λ i. action_of (buses.atoms_of bus.program.bodies proc.body) (n i) (record offered { age = a i })) in
    record { offered = offered; ticks = 0; there = ready.0.1; does = same ∙ ready.1 }

pub done-outside : (region : Region) (bus : Bus) (proc : Proc) (offered : Offered) (does : Action) → HaveStores bus.program.bodies bus.procs → IsHeld bus region → region.waits proc.number ≡ false →
    IsReadyFor bus proc offered does → MayBeDone bus.program.bodies region does
done-outside region bus proc offered does stores h w ready =
    let its = offered-store bus proc offered stores ready.0 in
    let here : ℕ → Type 0 = λ atom. region.left proc.body atom ≡ true in
    let only = offer-only here proc.term proc.store offered (only-from here proc.term (λ atom c. h.others proc atom ready.0.0 w c)) ready.0.1 in
    let acts : action_in offered.store (act_of (buses.atoms_of bus.program.bodies proc.body) offered.atom) ≡ Some does =
    if-some (is_ready offered.store offered.age bus.now (times_of (buses.atoms_of bus.program.bodies proc.body) offered.atom))
    (action_in offered.store (act_of (buses.atoms_of bus.program.bodies proc.body) offered.atom)) does ready.1 in
    record {
      number = proc.body;
      body = its.body;
      is = its.there;
      atom = offered.atom;
      left = only.atom;
      store = offered.store;
      sorts = its.sorts;
      values = its.values;
      does = subst (λ (body : Option Body). action_in offered.store (act_of (buses.atoms_in body) offered.atom) ≡ Some does) its.there acts;
    }

-- an action that can't happen has no effect

and-false : (a b c : Bool) (x y : Effect) → (b && c) ≡ false → (if (a && b && c) then Some x else None) ≡ Some y → ⊥
and-false true true true x y e f = cc
and-false true true false x y e f = let t : ◌≡◌ {A = Option Effect} None (Some y) = f in cc
and-false true false c x y e f = let t : ◌≡◌ {A = Option Effect} None (Some y) = f in cc
and-false false b c x y e f = let t : ◌≡◌ {A = Option Effect} None (Some y) = f in cc

map-some : {X : Type 0} (f : X → Effect) (o : Option X) (y : Effect) → ((x : X) → o ≡ Some x → ⊥) → option_map f o ≡ Some y → ⊥
map-some f None y never e = let t : ◌≡◌ {A = Option Effect} None (Some y) = e in cc
map-some f (Some x) y never e = never x refl

cant-own : (bus : Bus) (region : Region) (proc : Proc) (does : OwnAction) (effect : Effect) → CantDo bus region proc does → effect_of bus proc (action.Own does) ≡ Some effect → ⊥
cant-own bus region proc own.Tau effect k e = k
cant-own bus region proc (own.Set values binds) effect k e = k
cant-own bus region proc (own.Print text) effect k e = k
cant-own bus region proc (own.Notify terms) effect k e = k
cant-own bus region proc (own.TakeNote patterns) effect k e = map-some (taking proc.inbox) (oldest_match patterns proc.inbox) effect (λ found f. let none = k.0 in cc) e
cant-own bus region proc (own.NoNote patterns) effect k e = absent (is_some (oldest_match patterns proc.inbox)) (record { kind = kind.NoNote; shown = []; binds = []; change = Nothing }) k e
  where
    absent : (b : Bool) (x : Effect) → b ≡ true → (if b then None else Some x) ≡ Some effect → ⊥
    absent true x t f = let u : ◌≡◌ {A = Option Effect} None (Some effect) = f in cc
    absent false x t f = cc
cant-own bus region proc (own.Subscribe patterns) effect k e = k
cant-own bus region proc (own.Unsubscribe patterns) effect k e = k
cant-own bus region proc (own.Create process actuals slot) effect k e =
    and-false (nat_lt (length bus.procs) most_alive) (fits_formals (slice_get bus.program.bodies process) actuals) (fits_slot (slice_get bus.program.bodies proc.body) slot (number_term bus.next_number))
    (creation bus.next_number process actuals slot) effect (k bus.next_number) e
cant-own bus region proc (own.Speak does) effect k e =
    map-some (speaking (setting_of bus proc) does) (exchange_for (setting_of bus proc) does) effect (λ exchange f. cant-exchange bus region proc does exchange k f) e
cant-own bus region proc (own.Shutdown reason) effect k e = k

pub cant-effect : (bus : Bus) (region : Region) (proc : Proc) (does : Action) (effect : Effect) → CantHappen bus region proc does → effect_of bus proc does ≡ Some effect → ⊥
cant-effect bus region proc (action.Own does) effect k e = cant-own bus region proc does effect k e
cant-effect bus region proc (action.Send terms) effect k e = let t : ◌≡◌ {A = Option Effect} None (Some effect) = e in cc
cant-effect bus region proc (action.Receive patterns) effect k e = let t : ◌≡◌ {A = Option Effect} None (Some effect) = e in cc

-- so no move is of the region

abbrev pub IsOutside : Region → Move → Type 0
IsOutside region (Own proc offered effect) = region.waits proc.number ≡ false
IsOutside region (Handshake sender sent receiver received terms binds) = (region.waits sender.number ≡ false) × (region.waits receiver.number ≡ false)
IsOutside region Finish = ⊤
IsOutside region Halt = ⊤

not-waiting : (b : Bool) → (b ≡ true → ⊥) → b ≡ false
not-waiting true never = absurd (never refl)
not-waiting false never = refl

unmatched : (patterns : List Pattern) (terms : List Term) (binds : List Bind) → match_list patterns terms ≡ None → match_list patterns terms ≡ Some binds → ⊥
unmatched patterns terms binds e f = cc

pub move-outside : (region : Region) (bus : Bus) (move : Move) → HaveStores bus.program.bodies bus.procs → IsHeld bus region → IsMoveOf bus move → IsOfTwo move → IsOutside region move
move-outside region bus (Own proc offered effect) stores h is two =
    not-waiting (region.waits proc.number) (λ w. cant-effect bus region proc is.0 effect (h.stuck proc is.0 is.1.0.0 w (comes-now bus proc offered is.0 is.1)) is.2)
move-outside region bus (Handshake sender sent receiver received terms binds) stores h is two =
    let patterns = is.1.0 in
    let sends : IsReadyFor bus sender sent (action.Send terms) = is.0 in
    let receives : IsReadyFor bus receiver received (action.Receive patterns) = is.1.1 in
    let cant : region.waits sender.number ≡ true → CantHappen bus region sender (action.Send terms) =
    λ w. h.stuck sender (action.Send terms) sends.0.0 w (comes-now bus sender sent (action.Send terms) sends) in
    let sender-out : region.waits sender.number ≡ false =
    not-waiting (region.waits sender.number) (λ w. by-receiver (cant w) (region.waits receiver.number) refl) in
    let receiver-out : region.waits receiver.number ≡ false =
    not-waiting (region.waits receiver.number) (λ w. unmatched patterns terms binds
    (h.stuck receiver (action.Receive patterns) receives.0.0 w (comes-now bus receiver received (action.Receive patterns) receives) terms
    (done-outside region bus sender sent (action.Send terms) stores h sender-out sends)) is.1.2) in
    (sender-out, receiver-out)
  where
    by-receiver : CantHappen bus region sender (action.Send terms) → (b : Bool) → region.waits receiver.number ≡ b → ⊥
    by-receiver k true w =
        unmatched is.1.0 terms binds (k.0 receiver is.1.0 is.1.1.0.0 w two (comes-now bus receiver received (action.Receive is.1.0) is.1.1)) is.1.2
    by-receiver k false w = unmatched is.1.0 terms binds (k.1 is.1.0 (done-outside region bus receiver received (action.Receive is.1.0) stores h w is.1.1)) is.1.2
move-outside region bus Finish stores h is two = tt
move-outside region bus Halt stores h is two = tt

-- so each step is of a move outside
pub record IsMadeOutside (region : Region) (bus : Bus) (step : Step) : Type 0 where
  pub move : Move
  pub is : IsMoveOf bus move
  pub outside : IsOutside region move
  pub made : step ≡ step_of bus move

pub step-outside : (region : Region) (bus : Bus) (step : Step) → HaveStores bus.program.bodies bus.procs → IsHeld bus region → Contains (steps bus) step → IsMadeOutside region bus step
unfolding steps
step-outside region bus step stores h c =
    All-contains (IsMadeOutside region bus) (map (step_of bus) (moves bus)) step
    (All-map (IsMadeOutside region bus) (step_of bus) (moves bus)
    (All-weaker (Contains (moves bus)) (λ move. IsMadeOutside region bus (step_of bus move))
    (λ move d. let is = move-of bus move d in
    record { move = move; is = is; outside = move-outside region bus move stores h is (All-contains IsOfTwo (moves bus) move (moves-two bus) d); made = refl })
    (moves bus) (All-contains_itself (moves bus)))) c
