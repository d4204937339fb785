-- What a change makes of a bus whose processes are in order.
use Rattle.std.proofs.Common.{◌≡◌, ℕ, ◌+◌, ◌<◌, ◌==◌, List, [], ◌∷◌, ◌++◌, map, refl, sym, subst, arith, Option, Some, None, Bool, true, false, if◌then◌else◌, slice_get}
use Rattle.std.specs.List.{All}
use Rattle.std.proofs.lemmas.List.Elements.{All-head, All-tail, All-append, All-weaker, All-map}
use Rattle.tb_terms.specs.declared.term.Term.{Term}
use Rattle.tb_body.specs.declared.body.Body.{Body}
use Rattle.tb_notes.specs.Inboxes.{Held, subscribed, unsubscribed, wants, with_note, without_note}
use Rattle.tb_bus.specs.Buses.{Bus, Proc, opened_one, created}
use Rattle.tb_bus.specs.Effects.{Change, Nothing, PutsNote, TakesNote, Subscribes, Unsubscribes, Creates, SetsBench, GoesDown, given, with_inbox, changed}
use Rattle.tb_bus.proofs.OrderLemmas.{Ascend, IsLeft, IsLed, InOrder, one-opened-led, one-opened-keeps}

-- no change changes the program
pub changed-program : (change : Change) (number : ℕ) (bus : Bus) → (changed change number bus).program ≡ bus.program
changed-program Nothing number bus = refl
changed-program (PutsNote terms) number bus = refl
changed-program (TakesNote place) number bus = refl
changed-program (Subscribes patterns) number bus = refl
changed-program (Unsubscribes patterns) number bus = refl
changed-program (Creates process actuals) number bus = refl
changed-program (SetsBench bench) number bus = refl
changed-program (GoesDown reason) number bus = refl

-- a change of an inbox leaves number, body and term

abbrev KeepsPlace : (Proc → Proc) → Type 0
KeepsPlace f = (proc : Proc) → ((f proc).number ≡ proc.number) × ((f proc).body ≡ proc.body) × ((f proc).term ≡ proc.term)

inbox-keeps : (b : Bool) (proc : Proc) (inbox : Held) → let f : Proc = if b then record proc { inbox = inbox } else proc in (f.number ≡ proc.number) × (f.body ≡ proc.body) × (f.term ≡ proc.term)
inbox-keeps true proc inbox = (refl, refl, refl)
inbox-keeps false proc inbox = (refl, refl, refl)

given-keeps : (terms : List Term) → KeepsPlace (given terms)
given-keeps terms proc = inbox-keeps (wants proc.inbox terms) proc (with_note terms proc.inbox)

with_inbox-keeps : (number : ℕ) (change : Held → Held) → KeepsPlace (with_inbox number change)
with_inbox-keeps number change proc = inbox-keeps (proc.number == number) proc (change proc.inbox)

map-ascend : (f : Proc → Proc) → KeepsPlace f → (below : ℕ) (procs : List Proc) → Ascend below procs → Ascend below (map f procs)
map-ascend f keeps below [] h = tt
map-ascend f keeps below (proc ∷ procs) h =
    let e = (keeps proc).0 in
    let above = h.0 in (
      omega (arith, e, above),
      subst (λ n. Ascend n (map f procs)) (sym e) (map-ascend f keeps proc.number procs h.1),
    )

map-keeps : (P : ℕ → ℕ → Type 0) (f : Proc → Proc) → KeepsPlace f → (procs : List Proc) → All (λ (p : Proc). P p.number p.body) procs → All (λ (p : Proc). P p.number p.body) (map f procs)
map-keeps P f keeps procs h =
    All-map (λ (p : Proc). P p.number p.body) f procs
    (All-weaker (λ (p : Proc). P p.number p.body) (λ p. P (f p).number (f p).body)
    (λ p q. subst (λ n. P n (f p).body) (sym (keeps p).0) (subst (λ b. P p.number b) (sym (keeps p).1) q)) procs h)

map-led : (bodies : List Body) (f : Proc → Proc) → KeepsPlace f → (procs : List Proc) → All (IsLed bodies) procs → All (IsLed bodies) (map f procs)
map-led bodies f keeps procs h =
    All-map (IsLed bodies) f procs
    (All-weaker (IsLed bodies) (λ p. IsLed bodies (f p))
    (λ p q. subst (λ b. IsLeft bodies b (Some (f p).term)) (sym (keeps p).1) (subst (λ t. IsLeft bodies p.body (Some t)) (sym (keeps p).2) q)) procs h)

map-in_order : (bus : Bus) (f : Proc → Proc) → KeepsPlace f → InOrder bus → InOrder (record bus { procs = map f bus.procs })
map-in_order bus f keeps h = record {
  ascend = map-ascend f keeps 0 bus.procs h.ascend;
  below = map-keeps (λ n body. n < bus.next_number) f keeps bus.procs h.below;
  led = map-led bus.program.bodies f keeps bus.procs h.led;
}

-- a created process is last, with the next number

created-ascend : (below number process : ℕ) (actuals : List Term) (body : Option Body) (procs : List Proc) → below < number → Ascend below procs → All (λ (p : Proc). p.number < number) procs →
    Ascend below (procs ++ opened_one number process actuals body)
created-ascend below number process actuals None [] l h less = tt
created-ascend below number process actuals (Some body) [] l h less = (l, tt)
created-ascend below number process actuals body (proc ∷ procs) l h less =
    (h.0, created-ascend proc.number number process actuals body procs (All-head (λ (p : Proc). p.number < number) proc procs less) h.1 (All-tail (λ (p : Proc). p.number < number) proc procs less))

created-in_order : (bus : Bus) (process : ℕ) (actuals : List Term) → 0 < bus.next_number → InOrder bus → InOrder (record bus { procs = bus.procs ++ created bus process actuals; next_number = bus.next_number + 1 })
created-in_order bus process actuals l h =
    let body = slice_get bus.program.bodies process in
    let new = opened_one bus.next_number process actuals body in
    record {
      ascend = created-ascend 0 bus.next_number process actuals body bus.procs l h.ascend h.below;
      below = All-append (λ (p : Proc). p.number < bus.next_number + 1) bus.procs new
          (All-weaker (λ (p : Proc). p.number < bus.next_number) (λ (p : Proc). p.number < bus.next_number + 1) (λ p less. omega (arith, less)) bus.procs h.below)
          (one-opened-keeps (λ n body. n < bus.next_number + 1) bus.next_number process actuals body (omega arith));
      led = All-append (IsLed bus.program.bodies) bus.procs new h.led (one-opened-led bus.program.bodies bus.next_number process actuals body refl);
    }

-- So a change leaves the processes in order.
pub changed-in_order : (change : Change) (number : ℕ) (bus : Bus) → 0 < bus.next_number → InOrder bus → InOrder (changed change number bus)
changed-in_order Nothing number bus l h = h
changed-in_order (PutsNote terms) number bus l h = map-in_order bus (given terms) (given-keeps terms) h
changed-in_order (TakesNote place) number bus l h = map-in_order bus (with_inbox number (without_note place)) (with_inbox-keeps number (without_note place)) h
changed-in_order (Subscribes patterns) number bus l h = map-in_order bus (with_inbox number (subscribed patterns)) (with_inbox-keeps number (subscribed patterns)) h
changed-in_order (Unsubscribes patterns) number bus l h = map-in_order bus (with_inbox number (unsubscribed patterns)) (with_inbox-keeps number (unsubscribed patterns)) h
changed-in_order (Creates process actuals) number bus l h = created-in_order bus process actuals l h
changed-in_order (SetsBench bench) number bus l h = record { ascend = h.ascend; below = h.below; led = h.led }
changed-in_order (GoesDown reason) number bus l h = record { ascend = h.ascend; below = h.below; led = h.led }

-- A property of number and body that holds of all processes, and of the next number with each body, still holds of all processes.
pub changed-keeps : (P : ℕ → ℕ → Type 0) (change : Change) (number : ℕ) (bus : Bus) → All (λ (p : Proc). P p.number p.body) bus.procs → ((process : ℕ) → P bus.next_number process) →
    All (λ (p : Proc). P p.number p.body) (changed change number bus).procs
changed-keeps P Nothing number bus h next = h
changed-keeps P (PutsNote terms) number bus h next = map-keeps P (given terms) (given-keeps terms) bus.procs h
changed-keeps P (TakesNote place) number bus h next = map-keeps P (with_inbox number (without_note place)) (with_inbox-keeps number (without_note place)) bus.procs h
changed-keeps P (Subscribes patterns) number bus h next = map-keeps P (with_inbox number (subscribed patterns)) (with_inbox-keeps number (subscribed patterns)) bus.procs h
changed-keeps P (Unsubscribes patterns) number bus h next = map-keeps P (with_inbox number (unsubscribed patterns)) (with_inbox-keeps number (unsubscribed patterns)) bus.procs h
changed-keeps P (Creates process actuals) number bus h next =
    All-append (λ (p : Proc). P p.number p.body) bus.procs (created bus process actuals) h
    (one-opened-keeps P bus.next_number process actuals (slice_get bus.program.bodies process) (next process))
changed-keeps P (SetsBench bench) number bus h next = h
changed-keeps P (GoesDown reason) number bus h next = h
