-- An offer can take part in a move if and only if a step of the bus shows its atom.
use Rattle.std.proofs.Common.{◌≡◌, ◌⊎◌, ◌<◌, ◌==◌, ◌&&◌, ◌||◌, ◌↔◌, ℕ, eqb, Bool, true, false, not, nat_lt, nat_le, IsTrue, List, [], ◌∷◌, ◌++◌, map, filter, length, Option, Some, None, is_some, option_map, Contains, if◌then◌else◌, refl, ap, sym, ◌∙◌, subst, inl, inr, arith}
use Rattle.std.specs.Bool.{⊤}
use Rattle.std.specs.Prelude.{is_none, slice_get}
use Rattle.std.specs.List.{All, list_any, flat_map}
use Rattle.std.proofs.lemmas.Bool.{eq-eqb, eqb-true, le-leb, ltb-false}
use Rattle.std.proofs.lemmas.Option.{slice_get-map}
use Rattle.std.proofs.lemmas.List.Elements.{All-append, All-cons, All-contains, All-contains_itself, All-filter, All-map, All-nil, All-weaker, Contains-append_left, Contains-append_right}
use Rattle.tb_terms.specs.declared.pattern.Pattern.{Pattern}
use Rattle.tb_terms.specs.declared.term.Term.{Term}
use Rattle.tb_terms.specs.declared.sort.Sort.{Sort}
use Rattle.tb_func.specs.Stores.{sort_at}
use Rattle.tb_match.specs.Matches.{match_list}
use Rattle.tb_match.specs.declared.bind.Bind.{Bind}
use Rattle.tb_body.specs.declared.body.Body.{Body}
use Rattle.tb_body.specs.declared.program.Program.{Program}
use Rattle.tb_process_steps.specs.Offers.{Offered, offers}
use Rattle.tb_process_steps.specs.Walks.{sorts_of}
use Rattle.tb_process_steps.proofs.Ascending.{offered-once}
use Rattle.tb_process_steps.proofs.Sorts.{offer-keeps, sort_at-sorts_of}
use Rattle.tb_iface.proofs.SortedBuses.{IsSorted, sorted-next, sorted-start, stored-sorts}
use Rattle.tb_log.specs.declared.entry.Entry.{Entry}
use Rattle.tb_log.specs.declared.entry.Label.{Label}
use Rattle.tb_log.specs.declared.entry.Place.{Place}
use Rattle.tb_bus.specs.Buses.{Bus, Proc, atoms_of, start}
use Rattle.tb_bus.specs.Effects.{Effect, effect_of}
use Rattle.tb_bus.specs.Reached.{Reaches}
use Rattle.tb_bus.specs.Steps.{Move, Own, Handshake, Finish, Halt, Step, action_by, handshake_if, handshake_of, handshakes, handshakes_with, in_turn, label_of, moves, moves_by, moves_of, moves_of_all, moves_or_halt, moves_while_up, nowhere, others, own_if, place_of, step_of, steps}
use Rattle.tb_bus.specs.Traces.{IsTrace, after, replay}
use Rattle.tb_bus.specs.declared.action.Action.{Action}
use Rattle.tb_bus.specs.declared.action.Action.TheVariants as action
use Rattle.tb_bus.specs.declared.origin.Origin.{Origin}
use Rattle.tb_bus.proofs.OrderLemmas.{All-flat_map, All-one, InOrder, IsLed, ascend-above, contains-cases, contains-further, one-number}
use Rattle.tb_bus.proofs.ReachedLemmas.{IsMoveOf, IsOffered, move-of, reached-in_order}
use Rattle.tb_why.specs.Possible.{Shows, any_sends, can_by, can_happen, is_full, sends_match}
use Rattle.tb_why.specs.Reasons.{reason_now, scene_of, sorts_in}
use Rattle.tb_why.specs.Standing.{offering_of}
use Rattle.tb_why.proofs.PossibleLemmas.{reasons-right}

-- Lists.

contains-first : {A : Type 0} (x : A) (xs : List A) → Contains (x ∷ xs) x
contains-first x xs = (0, omega arith, refl)

contains-map : {A B : Type 0} (f : A → B) (xs : List A) (x : A) → Contains xs x → Contains (map f xs) (f x)
contains-map f [] x c = let l = c.1 in absurd (omega arith)
contains-map {A = A} {B = B} f (first ∷ xs) x c = by (contains-cases first x xs c) (λ d. contains-map f xs x d)
  where
    by : (first ≡ x) ⊎ Contains xs x → (Contains xs x → Contains (map f xs) (f x)) → Contains (f first ∷ map f xs) (f x)
    by (inl e) more = subst (λ (z : B). Contains (z ∷ map f xs) (f x)) (ap f (sym e)) (contains-first (f x) (map f xs))
    by (inr d) more = contains-further (f first) (f x) (map f xs) (more d)

contains-flat_map : {X A : Type 0} (f : X → List A) (xs : List X) (x : X) (y : A) → Contains xs x → Contains (f x) y → Contains (flat_map f xs) y
contains-flat_map f [] x y c d = let l = c.1 in absurd (omega arith)
contains-flat_map {X = X} {A = A} f (first ∷ xs) x y c d = by (contains-cases first x xs c) (λ e. contains-flat_map f xs x y e d)
  where
    by : (first ≡ x) ⊎ Contains xs x → (Contains xs x → Contains (flat_map f xs) y) → Contains (f first ++ flat_map f xs) y
    by (inl e) more = Contains-append_left (f first) (flat_map f xs) y (subst (λ (z : X). Contains (f z) y) (sym e) d)
    by (inr e) more = Contains-append_right (f first) (flat_map f xs) y (more e)

kept : {A : Type 0} (b : Bool) (y : A) (ys : List A) → b ≡ true → Contains (if b then y ∷ ys else ys) y
kept true y ys e = contains-first y ys
kept false y ys e = absurd (let t : false ≡ true = e in cc)

kept-more : {A : Type 0} (b : Bool) (y x : A) (ys : List A) → Contains ys x → Contains (if b then y ∷ ys else ys) x
kept-more true y x ys c = contains-further y x ys c
kept-more false y x ys c = c

contains-filter : {A : Type 0} (p : A → Bool) (xs : List A) (x : A) → Contains xs x → p x ≡ true → Contains (filter p xs) x
contains-filter p [] x c e = let l = c.1 in absurd (omega arith)
contains-filter {A = A} p (y ∷ ys) x c e = by (contains-cases y x ys c) (λ d. contains-filter p ys x d e)
  where
    by : (y ≡ x) ⊎ Contains ys x → (Contains ys x → Contains (filter p ys) x) → Contains (filter p (y ∷ ys)) x
    by (inl same) more = subst (λ (z : A). Contains (filter p (y ∷ ys)) z) same (kept (p y) y (filter p ys) (ap p same ∙ e))
    by (inr d) more = kept-more (p y) y x (filter p ys) (more d)

passes-by : {A : Type 0} (p : A → Bool) (y : A) (ys : List A) (b : Bool) → p y ≡ b → All (λ x. p x ≡ true) ys → All (λ x. p x ≡ true) (if b then y ∷ ys else ys)
passes-by p y ys true e h = All-cons (λ x. p x ≡ true) y ys e h
passes-by p y ys false e h = h

filter-passes : {A : Type 0} (p : A → Bool) (xs : List A) → All (λ x. p x ≡ true) (filter p xs)
filter-passes p [] = All-nil (λ x. p x ≡ true)
filter-passes p (y ∷ ys) = passes-by p y (filter p ys) (p y) refl (filter-passes p ys)

All-any : {A : Type 0} (P : A → Type 0) (xs : List A) → ((x : A) → P x) → All P xs
All-any P xs h = All-weaker (Contains xs) P (λ x d. h x) xs (All-contains_itself xs)

full-there : {A : Type 0} (xs : List A) → is_full xs ≡ true → (x : A) × Contains xs x
full-there [] e = absurd (let t : false ≡ true = e in cc)
full-there (x ∷ xs) e = (x, contains-first x xs)

full-here : {A : Type 0} (xs : List A) (x : A) → Contains xs x → is_full xs ≡ true
full-here [] x c = let l = c.1 in absurd (omega arith)
full-here (y ∷ xs) x c = refl

some-there : {A : Type 0} (o : Option A) → is_some o ≡ true → (x : A) × (o ≡ Some x)
some-there None e = absurd (let t : false ≡ true = e in cc)
some-there (Some x) e = (x, refl)

any-by : {A : Type 0} (p : A → Bool) (x : A) (xs : List A) (b : Bool) → p x ≡ b → (b || list_any p xs) ≡ true → (list_any p xs ≡ true → (y : A) × Contains xs y × (p y ≡ true)) → (y : A) × Contains (x ∷ xs) y × (p y ≡ true)
any-by p x xs true h e more = (x, contains-first x xs, h)
any-by p x xs false h e more = let t = more e in (t.0, contains-further x t.0 xs t.1, t.2)

any-there : {A : Type 0} (p : A → Bool) (xs : List A) → list_any p xs ≡ true → (y : A) × Contains xs y × (p y ≡ true)
any-there p [] e = absurd (let t : false ≡ true = e in cc)
any-there p (x ∷ xs) e = any-by p x xs (p x) refl e (any-there p xs)

or-later : (a b : Bool) → b ≡ true → (a || b) ≡ true
or-later true b e = refl
or-later false b e = e

any-here : {A : Type 0} (p : A → Bool) (xs : List A) (x : A) → Contains xs x → p x ≡ true → list_any p xs ≡ true
any-here p [] x c e = let l = c.1 in absurd (omega arith)
any-here p (y ∷ ys) x c e = by (contains-cases y x ys c) (λ d. any-here p ys x d e)
  where
    by : (y ≡ x) ⊎ Contains ys x → (Contains ys x → list_any p ys ≡ true) → (p y || list_any p ys) ≡ true
    by (inl same) more = ap (λ (b : Bool). b || list_any p ys) (ap p same ∙ e)
    by (inr d) more = or-later (p y) (list_any p ys) (more d)

apart-by : (a b : ℕ) (t : Bool) → eqb b a ≡ t → not (eqb a b) ≡ true → not t ≡ true
apart-by a b true e h =
    let s : eqb a b ≡ true = eq-eqb a b (sym (eqb-true b a e)) in
    absurd (let f : false ≡ true = sym (ap not s) ∙ h in cc)
apart-by a b false e h = refl

apart-sym : (a b : ℕ) → not (eqb a b) ≡ true → not (eqb b a) ≡ true
apart-sym a b h = apart-by a b (eqb b a) refl h

-- A move of an offer is one of the bus.

turn-by : (bus : Bus) (proc : Proc) (b : Bool) → nat_lt bus.last_starter proc.number ≡ b → Contains bus.procs proc → Contains (in_turn bus) proc
turn-by bus proc true e c =
    Contains-append_left (filter (λ (p : Proc). nat_lt bus.last_starter p.number) bus.procs) (filter (λ (p : Proc). nat_le p.number bus.last_starter) bus.procs) proc
    (contains-filter (λ (p : Proc). nat_lt bus.last_starter p.number) bus.procs proc c e)
turn-by bus proc false e c =
    Contains-append_right (filter (λ (p : Proc). nat_lt bus.last_starter p.number) bus.procs) (filter (λ (p : Proc). nat_le p.number bus.last_starter) bus.procs) proc
    (contains-filter (λ (p : Proc). nat_le p.number bus.last_starter) bus.procs proc c (le-leb proc.number bus.last_starter (ltb-false bus.last_starter proc.number e)))

of-one : (bus : Bus) (proc : Proc) (offered : Offered) (move : Move) → Contains (offers proc.term proc.store) offered → Contains (moves_by bus proc offered (action_by bus proc offered)) move → Contains (moves_of bus proc) move
unfolding moves_of
of-one bus proc offered move c d = contains-flat_map (λ (o : Offered). moves_by bus proc o (action_by bus proc o)) (offers proc.term proc.store) offered move c d

of-all : (bus : Bus) (proc : Proc) (move : Move) → Contains bus.procs proc → Contains (moves_of bus proc) move → Contains (moves_of_all bus) move
unfolding moves_of_all
of-all bus proc move c d = contains-flat_map (moves_of bus) (in_turn bus) proc move (turn-by bus proc (nat_lt bus.last_starter proc.number) refl c) d

before-halt : (no_ticks : Bool) (ms : List Move) (move : Move) → Contains ms move → Contains (moves_or_halt no_ticks ms) move
before-halt no_ticks [] move c = let l = c.1 in absurd (omega arith)
before-halt no_ticks (m ∷ ms) move c = c

while-up : (bus : Bus) (procs : List Proc) (proc : Proc) (move : Move) → Contains procs proc → Contains (moves_of_all bus) move → Contains (moves_while_up bus procs) move
while-up bus [] proc move c d = let l = c.1 in absurd (omega arith)
while-up bus (first ∷ procs) proc move c d = before-halt bus.no_ticks (moves_of_all bus) move d

moves-there : (bus : Bus) (proc : Proc) (offered : Offered) (move : Move) → bus.down ≡ false → IsOffered bus proc offered → Contains (moves_by bus proc offered (action_by bus proc offered)) move → Contains (moves bus) move
unfolding moves
moves-there bus proc offered move up here c =
    let all = of-all bus proc move here.0 (of-one bus proc offered move here.1 c) in
    subst (λ (d : Bool). Contains (if d then [] else moves_while_up bus bus.procs) move) (sym up) (while-up bus bus.procs proc move here.0 all)

handshake-with : (bus : Bus) (s : Proc) (a : Offered) (terms : List Term) (r : Proc) (b : Offered) (patterns : List Pattern) (binds : List Bind) → Contains (offers r.term r.store) b → action_by bus r b ≡ Some (action.Receive patterns) → match_list patterns terms ≡ Some binds →
    Contains (handshakes_with bus s a terms r) (Handshake s a r b terms binds)
unfolding handshakes_with
handshake-with bus s a terms r b patterns binds c act matched =
    let move : Move = Handshake s a r b terms binds in
    let one : Contains (handshake_if s a terms r b (match_list patterns terms)) move = subst (λ (m : Option (List Bind)). Contains (handshake_if s a terms r b m) move) (sym matched) (contains-first move []) in
    contains-flat_map (λ (received : Offered). handshake_of s a terms r received (action_by bus r received)) (offers r.term r.store) b move c
    (subst (λ (d : Option Action). Contains (handshake_of s a terms r b d) move) (sym act) one)

handshake-there : (bus : Bus) (s : Proc) (a : Offered) (terms : List Term) (r : Proc) (b : Offered) (patterns : List Pattern) (binds : List Bind) → IsOffered bus r b → not (eqb r.number s.number) ≡ true → action_by bus r b ≡ Some (action.Receive patterns) → match_list patterns terms ≡ Some binds →
    Contains (handshakes bus s a terms) (Handshake s a r b terms binds)
unfolding handshakes
handshake-there bus s a terms r b patterns binds here apart act matched =
    contains-flat_map (handshakes_with bus s a terms) (others bus s) r (Handshake s a r b terms binds) (contains-filter (λ (other : Proc). not (eqb other.number s.number)) bus.procs r here.0 apart)
    (handshake-with bus s a terms r b patterns binds here.1 act matched)

-- Each handshake of an offer shows it.

abbrev IsFrom : Proc → Offered → Move → Type 0
IsFrom s a move = (label_of move).from ≡ place_of s a

from-if : (s : Proc) (a : Offered) (terms : List Term) (r : Proc) (b : Offered) (binds : Option (List Bind)) → All (IsFrom s a) (handshake_if s a terms r b binds)
from-if s a terms r b None = All-nil (IsFrom s a)
from-if s a terms r b (Some binds) = All-one (IsFrom s a) (Handshake s a r b terms binds) refl

from-of : (s : Proc) (a : Offered) (terms : List Term) (r : Proc) (b : Offered) (does : Option Action) → All (IsFrom s a) (handshake_of s a terms r b does)
from-of s a terms r b None = All-nil (IsFrom s a)
from-of s a terms r b (Some (action.Own own)) = All-nil (IsFrom s a)
from-of s a terms r b (Some (action.Send other)) = All-nil (IsFrom s a)
from-of s a terms r b (Some (action.Receive patterns)) = from-if s a terms r b (match_list patterns terms)

from-with : (bus : Bus) (s : Proc) (a : Offered) (terms : List Term) (r : Proc) → All (IsFrom s a) (handshakes_with bus s a terms r)
unfolding handshakes_with
from-with bus s a terms r =
    let each : Offered → List Move = λ received. handshake_of s a terms r received (action_by bus r received) in
    All-flat_map (IsFrom s a) each (offers r.term r.store) (All-any (λ received. All (IsFrom s a) (each received)) (offers r.term r.store) (λ received. from-of s a terms r received (action_by bus r received)))

from-all : (bus : Bus) (s : Proc) (a : Offered) (terms : List Term) → All (IsFrom s a) (handshakes bus s a terms)
unfolding handshakes
from-all bus s a terms =
    All-flat_map (IsFrom s a) (handshakes_with bus s a terms) (others bus s) (All-any (λ r. All (IsFrom s a) (handshakes_with bus s a terms r)) (others bus s) (from-with bus s a terms))

-- From an offer to a step.

-- a step of the bus shows the offer
abbrev pub IsShown : Bus → Proc → Offered → Type 0
IsShown bus proc offered = (step : Step) × Contains (steps bus) step × Shows step.label (place_of proc offered)

shown : (bus : Bus) (proc : Proc) (offered : Offered) (move : Move) → Contains (moves bus) move → Shows (label_of move) (place_of proc offered) → IsShown bus proc offered
unfolding steps
shown bus proc offered move c s = (step_of bus move, contains-map (step_of bus) (moves bus) move c, s)

-- what is sent, where it matches
record Sent (patterns : List Pattern) (does : Option Action) : Type 0 where
  pub terms : List Term
  pub binds : List Bind
  pub is : does ≡ Some (action.Send terms)
  pub matched : match_list patterns terms ≡ Some binds

sent-is : (patterns : List Pattern) (does : Option Action) → sends_match patterns does ≡ true → Sent patterns does
sent-is patterns None e = absurd (let t : false ≡ true = e in cc)
sent-is patterns (Some (action.Own own)) e = absurd (let t : false ≡ true = e in cc)
sent-is patterns (Some (action.Send terms)) e = let t = some-there (match_list patterns terms) e in record { terms = terms; binds = t.0; is = refl; matched = t.1 }
sent-is patterns (Some (action.Receive other)) e = absurd (let t : false ≡ true = e in cc)

can-by : (bus : Bus) (proc : Proc) (offered : Offered) (does : Option Action) → bus.down ≡ false → IsOffered bus proc offered → action_by bus proc offered ≡ does → can_by bus proc offered does ≡ true → IsShown bus proc offered
can-by bus proc offered None up here is can = absurd (let t : false ≡ true = can in cc)
can-by bus proc offered (Some (action.Own own)) up here is can =
    let t = some-there (effect_of bus proc (action.Own own)) can in
    let move : Move = Own proc offered t.0 in
    let one : Contains (own_if proc offered (effect_of bus proc (action.Own own))) move = subst (λ (e : Option Effect). Contains (own_if proc offered e) move) (sym t.1) (contains-first move []) in
    shown bus proc offered move (moves-there bus proc offered move up here (subst (λ (d : Option Action). Contains (moves_by bus proc offered d) move) (sym is) one)) (inl refl)
can-by bus proc offered (Some (action.Send terms)) up here is can =
    let t = full-there (handshakes bus proc offered terms) can in
    shown bus proc offered t.0 (moves-there bus proc offered t.0 up here (subst (λ (d : Option Action). Contains (moves_by bus proc offered d) t.0) (sym is) t.1))
    (inl (All-contains (IsFrom proc offered) (handshakes bus proc offered terms) t.0 (from-all bus proc offered terms) t.1))
can-by bus proc offered (Some (action.Receive patterns)) up here is can =
    let t = any-there (any_sends bus patterns) (others bus proc) can in
    let s : Proc = t.0 in
    let u = any-there (λ (sent : Offered). sends_match patterns (action_by bus s sent)) (offers s.term s.store) t.2 in
    let sends = sent-is patterns (action_by bus s u.0) u.2 in
    let there : Contains bus.procs s = All-contains (Contains bus.procs) (others bus proc) s (All-filter (λ (other : Proc). not (eqb other.number proc.number)) (Contains bus.procs) bus.procs (All-contains_itself bus.procs)) t.1 in
    let apart : not (eqb s.number proc.number) ≡ true = All-contains (λ (other : Proc). not (eqb other.number proc.number) ≡ true) (others bus proc) s (filter-passes (λ (other : Proc). not (eqb other.number proc.number)) bus.procs) t.1 in
    let move : Move = Handshake s u.0 proc offered sends.terms sends.binds in
    let one : Contains (handshakes bus s u.0 sends.terms) move = handshake-there bus s u.0 sends.terms proc offered patterns sends.binds here (apart-sym s.number proc.number apart) is sends.matched in
    shown bus proc offered move (moves-there bus s u.0 move up (there, u.1) (subst (λ (d : Option Action). Contains (moves_by bus s u.0 d) move) (sym sends.is) one)) (inr refl)

-- Who shakes hands is apart.

abbrev IsApart : Move → Type 0
IsApart (Own proc offered effect) = ⊤
IsApart (Handshake s a r b terms binds) = not (eqb r.number s.number) ≡ true
IsApart Finish = ⊤
IsApart Halt = ⊤

apart-if : (s : Proc) (a : Offered) (terms : List Term) (r : Proc) (b : Offered) (binds : Option (List Bind)) → not (eqb r.number s.number) ≡ true → All IsApart (handshake_if s a terms r b binds)
apart-if s a terms r b None h = All-nil IsApart
apart-if s a terms r b (Some binds) h = All-one IsApart (Handshake s a r b terms binds) h

apart-of : (s : Proc) (a : Offered) (terms : List Term) (r : Proc) (b : Offered) (does : Option Action) → not (eqb r.number s.number) ≡ true → All IsApart (handshake_of s a terms r b does)
apart-of s a terms r b None h = All-nil IsApart
apart-of s a terms r b (Some (action.Own own)) h = All-nil IsApart
apart-of s a terms r b (Some (action.Send other)) h = All-nil IsApart
apart-of s a terms r b (Some (action.Receive patterns)) h = apart-if s a terms r b (match_list patterns terms) h

apart-with : (bus : Bus) (s : Proc) (a : Offered) (terms : List Term) (r : Proc) → not (eqb r.number s.number) ≡ true → All IsApart (handshakes_with bus s a terms r)
unfolding handshakes_with
apart-with bus s a terms r h =
    let each : Offered → List Move = λ received. handshake_of s a terms r received (action_by bus r received) in
    All-flat_map IsApart each (offers r.term r.store) (All-any (λ received. All IsApart (each received)) (offers r.term r.store) (λ received. apart-of s a terms r received (action_by bus r received) h))

apart-all : (bus : Bus) (s : Proc) (a : Offered) (terms : List Term) → All IsApart (handshakes bus s a terms)
unfolding handshakes
apart-all bus s a terms =
    All-flat_map IsApart (handshakes_with bus s a terms) (others bus s)
    (All-weaker (λ (r : Proc). not (eqb r.number s.number) ≡ true) (λ r. All IsApart (handshakes_with bus s a terms r)) (λ r h. apart-with bus s a terms r h) (others bus s)
    (filter-passes (λ (r : Proc). not (eqb r.number s.number)) bus.procs))

apart-own : (proc : Proc) (offered : Offered) (effect : Option Effect) → All IsApart (own_if proc offered effect)
apart-own proc offered None = All-nil IsApart
apart-own proc offered (Some effect) = All-one IsApart (Own proc offered effect) tt

apart-moves_by : (bus : Bus) (proc : Proc) (offered : Offered) (does : Option Action) → All IsApart (moves_by bus proc offered does)
apart-moves_by bus proc offered None = All-nil IsApart
apart-moves_by bus proc offered (Some (action.Own own)) = apart-own proc offered (effect_of bus proc (action.Own own))
apart-moves_by bus proc offered (Some (action.Send terms)) = apart-all bus proc offered terms
apart-moves_by bus proc offered (Some (action.Receive patterns)) = All-nil IsApart

apart-moves_of : (bus : Bus) (proc : Proc) → All IsApart (moves_of bus proc)
unfolding moves_of
apart-moves_of bus proc =
    let each : Offered → List Move = λ offered. moves_by bus proc offered (action_by bus proc offered) in
    All-flat_map IsApart each (offers proc.term proc.store) (All-any (λ offered. All IsApart (each offered)) (offers proc.term proc.store) (λ offered. apart-moves_by bus proc offered (action_by bus proc offered)))

apart-moves_of_all : (bus : Bus) → All IsApart (moves_of_all bus)
unfolding moves_of_all
apart-moves_of_all bus = All-flat_map IsApart (moves_of bus) (in_turn bus) (All-any (λ proc. All IsApart (moves_of bus proc)) (in_turn bus) (apart-moves_of bus))

apart-halt : (no_ticks : Bool) (ms : List Move) → All IsApart ms → All IsApart (moves_or_halt no_ticks ms)
apart-halt true [] h = All-one IsApart Halt tt
apart-halt false [] h = All-nil IsApart
apart-halt no_ticks (m ∷ ms) h = h

apart-up : (bus : Bus) (procs : List Proc) → All IsApart (moves_while_up bus procs)
apart-up bus [] = All-one IsApart Finish tt
apart-up bus (proc ∷ procs) = apart-halt bus.no_ticks (moves_of_all bus) (apart-moves_of_all bus)

apart-down : (down : Bool) (ms : List Move) → All IsApart ms → All IsApart (if down then [] else ms)
apart-down true ms h = All-nil IsApart
apart-down false ms h = h

apart-moves : (bus : Bus) → All IsApart (moves bus)
unfolding moves
apart-moves bus = apart-down bus.down (moves_while_up bus bus.procs) (apart-up bus bus.procs)

-- From a step to the offer.

same-offer : (bus : Bus) (p q : Proc) (o u : Offered) → InOrder bus → IsOffered bus p o → IsOffered bus q u → p.number ≡ q.number → o.atom ≡ u.atom → (p ≡ q) × (o ≡ u)
same-offer bus p q o u h g k e f =
    let same : p ≡ q = one-number 0 bus.procs p q h.ascend e g.0 k.0 in
    let led = All-contains (IsLed bus.program.bodies) bus.procs p h.led g.0 in
    let other : Contains (offers p.term p.store) u = subst (λ (x : Proc). Contains (offers x.term x.store) u) (sym same) k.1 in
    (same, offered-once led.0 led.2.0 p.term p.store o u led.2.1 g.1 other f)

-- what holds of an offer at a place holds of the offer that is there
at-place : (bus : Bus) (p proc : Proc) (o offered : Offered) → InOrder bus → IsOffered bus p o → IsOffered bus proc offered → place_of p o ≡ place_of proc offered → can_happen bus p o ≡ true → can_happen bus proc offered ≡ true
at-place bus p proc o offered order one here e can =
    let same = same-offer bus p proc o offered order one here (ap (λ (x : Place). x.proc) e) (ap (λ (x : Place). x.atom) e) in
    subst (λ (q : Proc). can_happen bus q offered ≡ true) same.0 (subst (λ (u : Offered). can_happen bus p u ≡ true) same.1 can)

not-nowhere : (bus : Bus) (proc : Proc) (offered : Offered) → InOrder bus → IsOffered bus proc offered → nowhere ≡ place_of proc offered → ⊥
not-nowhere bus proc offered order here e =
    let above = ascend-above 0 bus.procs proc order.ascend here.0 in
    let none : 0 ≡ proc.number = ap (λ (x : Place). x.proc) e in
    omega arith

own-can : (bus : Bus) (proc : Proc) (offered : Offered) (does : Action) (effect : Effect) → effect_of bus proc does ≡ Some effect → can_by bus proc offered (Some does) ≡ true
own-can bus proc offered (action.Own own) effect e = ap (λ (found : Option Effect). is_some found) e
own-can bus proc offered (action.Send terms) effect e = absurd (let t : ◌≡◌ {A = Option Effect} None (Some effect) = e in cc)
own-can bus proc offered (action.Receive patterns) effect e = absurd (let t : ◌≡◌ {A = Option Effect} None (Some effect) = e in cc)

by-move : (bus : Bus) (proc : Proc) (offered : Offered) (move : Move) → InOrder bus → IsOffered bus proc offered → IsMoveOf bus move → IsApart move → Shows (label_of move) (place_of proc offered) → can_happen bus proc offered ≡ true
by-move bus proc offered (Own p o effect) order here g apart (inl e) =
    at-place bus p proc o offered order g.1.0 here e (ap (λ (d : Option Action). can_by bus p o d) g.1.1 ∙ own-can bus p o g.0 effect g.2)
by-move bus proc offered (Own p o effect) order here g apart (inr e) = absurd (not-nowhere bus proc offered order here e)
by-move bus proc offered (Handshake s a r b terms binds) order here g apart (inl e) =
    at-place bus s proc a offered order g.0.0 here e
    (ap (λ (d : Option Action). can_by bus s a d) g.0.1
    ∙ full-here (handshakes bus s a terms) (Handshake s a r b terms binds) (handshake-there bus s a terms r b g.1.0 binds g.1.1.0 apart g.1.1.1 g.1.2))
by-move bus proc offered (Handshake s a r b terms binds) order here g apart (inr e) =
    let patterns : List Pattern = g.1.0 in
    let sends : any_sends bus patterns s ≡ true =
    any-here (λ (sent : Offered). sends_match patterns (action_by bus s sent)) (offers s.term s.store) a g.0.0.1
    (ap (λ (d : Option Action). sends_match patterns d) g.0.1 ∙ ap (λ (found : Option (List Bind)). is_some found) g.1.2) in
    at-place bus r proc b offered order g.1.1.0 here e
    (ap (λ (d : Option Action). can_by bus r b d) g.1.1.1
    ∙ any-here (any_sends bus patterns) (others bus r) s (contains-filter (λ (other : Proc). not (eqb other.number r.number)) bus.procs s g.0.0.0 (apart-sym r.number s.number apart)) sends)
by-move bus proc offered Finish order here g apart (inl e) = absurd (not-nowhere bus proc offered order here e)
by-move bus proc offered Finish order here g apart (inr e) = absurd (not-nowhere bus proc offered order here e)
by-move bus proc offered Halt order here g apart (inl e) = absurd (not-nowhere bus proc offered order here e)
by-move bus proc offered Halt order here g apart (inr e) = absurd (not-nowhere bus proc offered order here e)

-- a step is that of a move
abbrev IsMade : Bus → Step → Type 0
IsMade bus step = (move : Move) × Contains (moves bus) move × (step ≡ step_of bus move)

step-made : (bus : Bus) (step : Step) → Contains (steps bus) step → IsMade bus step
unfolding steps
step-made bus step c =
    All-contains (IsMade bus) (map (step_of bus) (moves bus)) step
    (All-map (IsMade bus) (step_of bus) (moves bus)
    (All-weaker (Contains (moves bus)) (λ move. IsMade bus (step_of bus move)) (λ move h. (move, h, refl)) (moves bus) (All-contains_itself (moves bus)))) c

by-step : (bus : Bus) (proc : Proc) (offered : Offered) → InOrder bus → IsOffered bus proc offered → IsShown bus proc offered → can_happen bus proc offered ≡ true
by-step bus proc offered order here s =
    let made = step-made bus s.0 s.1 in
    let shows : Shows (label_of made.0) (place_of proc offered) = subst (λ (x : Step). Shows x.label (place_of proc offered)) made.2 s.2 in
    by-move bus proc offered made.0 order here (move-of bus made.0 made.1) (All-contains IsApart (moves bus) made.0 (apart-moves bus) made.1) shows

-- The slots of an offered store have the types of the body.

sorted-log : (origin : Origin) (bus : Bus) (log : List Entry) → IsSorted origin bus → IsTrace bus log → IsSorted origin (replay bus log)
sorted-log origin bus [] h trace = h
sorted-log origin bus (entry ∷ log) h trace = sorted-log origin (after bus entry) log (sorted-next origin bus entry h trace.0) trace.1

reached-program : (origin : Origin) (bus : Bus) → Reaches origin bus → bus.program ≡ origin.program
reached-program origin bus r = ap (λ (b : Bus). b.program) r.2 ∙ (sorted-log origin (start origin) r.0 (sorted-start origin) r.1).program

sorts-by : (o : Option Body) (sorts : List Sort) (slot : ℕ) → option_map (λ (body : Body). body.sorts) o ≡ Some sorts → slice_get sorts slot ≡ sorts_in o slot
sorts-by None sorts slot e = absurd (let t : ◌≡◌ {A = Option (List Sort)} None (Some sorts) = e in cc)
sorts-by (Some body) sorts slot e = let same : sorts ≡ body.sorts = cc in ap (λ (ss : List Sort). slice_get ss slot) same

sorts-there : (origin : Origin) (bus : Bus) (proc : Proc) (offered : Offered) → Reaches origin bus → Contains bus.procs proc → Contains (offers proc.term proc.store) offered → (slot : ℕ) → sort_at offered.store slot ≡ sorts_in (slice_get bus.program.bodies proc.body) slot
sorts-there origin bus proc offered reached there among slot =
    let sorts : Body → List Sort = λ body. body.sorts in
    let stored : option_map sorts (slice_get bus.program.bodies proc.body) ≡ Some (sorts_of proc.store) =
    sym (slice_get-map sorts bus.program.bodies proc.body) ∙ ap (λ (program : Program). slice_get (map sorts program.bodies) proc.body) (reached-program origin bus reached) ∙ stored-sorts origin bus proc reached there in
    sort_at-sorts_of offered.store slot ∙ ap (λ (ss : List Sort). slice_get ss slot) (offer-keeps proc.term proc.store offered among).sorts
    ∙ sorts-by (slice_get bus.program.bodies proc.body) (sorts_of proc.store) slot stored

-- On a bus that a program reaches and that is up, an offer has no reason if and only if a step of the bus shows its atom.
pub reasons-shown : (origin : Origin) (bus : Bus) (proc : Proc) (offered : Offered) → Reaches origin bus → bus.down ≡ false → Contains bus.procs proc → Contains (offers proc.term proc.store) offered →
    IsTrue (is_none (reason_now bus.down (scene_of bus) proc.number proc.body proc.inbox (offering_of (atoms_of bus.program.bodies proc.body) bus.now offered))) ↔ IsShown bus proc offered
reasons-shown origin bus proc offered reached up there among =
    let order = reached-in_order origin bus reached in
    let right = reasons-right bus proc offered (sorts-there origin bus proc offered reached there among) up in (
      λ none. can-by bus proc offered (action_by bus proc offered) up (there, among) refl (sym right ∙ none),
      λ step. right ∙ by-step bus proc offered order (there, among) step,
    )
