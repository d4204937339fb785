-- Buses whose processes stand by their numbers, each where its body may have led it: the opening one, and what becomes
-- of them as a process goes on.
use Rattle.std.proofs.Common.{◌≡◌, ℕ, ◌+◌, ◌<◌, ◌≤◌, ◌==◌, List, [], ◌∷◌, ◌++◌, length, refl, ap, sym, ◌∙◌, subst, arith, Option, Some, None, Bool, true, false, Contains, if◌then◌else◌, zero, suc, ◌⊎◌, inl, inr, slice_get}
use Rattle.std.specs.Prelude.{⊤}
use Rattle.std.specs.List.{All, flat_map}
use Rattle.std.proofs.lemmas.Bool.{eqb-true}
use Rattle.std.proofs.lemmas.List.Elements.{All-nil, All-cons, All-head, All-tail, All-append, All-weaker, All-contains, All-contains_itself}
use Rattle.tb_terms.specs.declared.term.Term.{Term}
use Rattle.tb_func.specs.declared.slot.Slot.{Slot}
use Rattle.tb_match.specs.declared.bind.Bind.{Bind}
use Rattle.tb_body.specs.declared.body.Body.{Body}
use Rattle.tb_body.specs.declared.program.Root.{Root}
use Rattle.tb_process_steps.specs.Processes.{Process, fresh}
use Rattle.tb_process_steps.specs.Binds.{with_binds}
use Rattle.tb_process_steps.specs.Offers.{Offered}
use Rattle.tb_process_steps.specs.Reached.{Reaches as IsLedTo, entered}
use Rattle.tb_notes.specs.Inboxes.{nothing}
use Rattle.tb_bus.specs.declared.origin.Origin.{Origin}
use Rattle.tb_bus.specs.Buses.{Bus, Proc, start, opened, opened_one, opening_store, proc_left}
use Rattle.tb_bus.specs.Steps.{advance}

-- lists

pub All-flat_map : {X A : Type 0} (P : A → Type 0) (f : X → List A) (xs : List X) → All (λ x. All P (f x)) xs → All P (flat_map f xs)
All-flat_map P f [] h = All-nil P
All-flat_map P f (x ∷ xs) h = All-append P (f x) (flat_map f xs) (All-head (λ y. All P (f y)) x xs h) (All-flat_map P f xs (All-tail (λ y. All P (f y)) x xs h))

pub All-one : {X : Type 0} (P : X → Type 0) (x : X) → P x → All P (x ∷ [])
All-one P x p = All-cons P x [] p (All-nil P)

pub contains-cases : {X : Type 0} (x y : X) (xs : List X) → Contains (x ∷ xs) y → (x ≡ y) ⊎ Contains xs y
contains-cases x y xs (zero, l, e) = inl e
contains-cases x y xs (suc k, l, e) = inr (k, omega arith, e)

pub contains-further : {X : Type 0} (x y : X) (xs : List X) → Contains xs y → Contains (x ∷ xs) y
contains-further x y xs (k, l, e) = (suc k, omega arith, e)

-- numbers that ascend

abbrev pub Ascend : ℕ → List Proc → Type 0
Ascend below [] = ⊤
Ascend below (proc ∷ procs) = (below < proc.number) × Ascend proc.number procs

pub ascend-weaker : (low below : ℕ) (procs : List Proc) → low ≤ below → Ascend below procs → Ascend low procs
ascend-weaker low below [] le h = tt
ascend-weaker low below (proc ∷ procs) le h = let less = h.0 in (omega arith, h.1)

above-by : (below : ℕ) (first : Proc) (procs : List Proc) (proc : Proc) → Ascend below (first ∷ procs) → (Contains procs proc → first.number < proc.number) → (first ≡ proc) ⊎ Contains procs proc → below < proc.number
above-by below first procs proc h more (inl e) = subst (λ (p : Proc). below < p.number) e h.0
above-by below first procs proc h more (inr c) =
    let less = h.0 in
    let much = more c in
    omega arith

pub ascend-above : (below : ℕ) (procs : List Proc) (proc : Proc) → Ascend below procs → Contains procs proc → below < proc.number
ascend-above below [] proc h c = let l = c.1 in absurd (omega arith)
ascend-above below (first ∷ procs) proc h c = above-by below first procs proc h (ascend-above first.number procs proc h.1) (contains-cases first proc procs c)

one-by : (first : Proc) (procs : List Proc) (p q : Proc) → Ascend first.number procs → (Contains procs p → Contains procs q → p ≡ q) → p.number ≡ q.number →
    (first ≡ p) ⊎ Contains procs p → (first ≡ q) ⊎ Contains procs q → p ≡ q
one-by first procs p q h rest e (inl f) (inl g) = sym f ∙ g
one-by first procs p q h rest e (inl f) (inr d) =
    let above = ascend-above first.number procs q h d in
    let same : first.number ≡ p.number = ap (λ (x : Proc). x.number) f in
    absurd (omega arith)
one-by first procs p q h rest e (inr c) (inl g) =
    let above = ascend-above first.number procs p h c in
    let same : first.number ≡ q.number = ap (λ (x : Proc). x.number) g in
    absurd (omega arith)
one-by first procs p q h rest e (inr c) (inr d) = rest c d

-- so a number names one process
pub one-number : (below : ℕ) (procs : List Proc) (p q : Proc) → Ascend below procs → p.number ≡ q.number → Contains procs p → Contains procs q → p ≡ q
one-number below [] p q h e c d = let l = c.1 in absurd (omega arith)
one-number below (first ∷ procs) p q h e c d =
    one-by first procs p q h.1 (one-number first.number procs p q h.1 e) e (contains-cases first p procs c) (contains-cases first q procs d)

-- A bus whose processes stand by their numbers, and are where their bodies may have led them.

-- what is left of a process of this body, which the body may have led there
abbrev pub IsLeft : List Body → ℕ → Option Process → Type 0
IsLeft bodies number None = ⊤
IsLeft bodies number (Some term) = (body : Body) × (slice_get bodies number ≡ Some body) × ((ticks : ℕ) × IsLedTo body.tree ticks term)

abbrev pub IsLed : List Body → Proc → Type 0
IsLed bodies proc = IsLeft bodies proc.body (Some proc.term)

-- And no number is as great as that of the next.
pub record InOrder (bus : Bus) : Type 0 where
  pub ascend : Ascend 0 bus.procs
  pub below : All (λ (proc : Proc). proc.number < bus.next_number) bus.procs
  pub led : All (IsLed bus.program.bodies) bus.procs

-- the opening bus is one

one-opened-ascend : (below number process : ℕ) (actuals : List Term) (body : Option Body) (rest : List Proc) → below < number → ((low : ℕ) → low ≤ number → Ascend low rest) →
    Ascend below (opened_one number process actuals body ++ rest)
one-opened-ascend below number process actuals None rest l h = h below (omega arith)
one-opened-ascend below number process actuals (Some body) rest l h = (l, h number (omega arith))

opened-ascend : (bodies : List Body) (below number : ℕ) (roots : List Root) → below < number → Ascend below (opened bodies number roots)
opened-ascend bodies below number [] l = tt
opened-ascend bodies below number (root ∷ roots) l =
    one-opened-ascend below number root.process root.actuals (slice_get bodies root.process) (opened bodies (number + 1) roots) l
    (λ low le. opened-ascend bodies low (number + 1) roots (omega arith))

-- where a process begins, its body has led it
pub one-opened-led : (bodies : List Body) (number process : ℕ) (actuals : List Term) (body : Option Body) → slice_get bodies process ≡ body → All (IsLed bodies) (opened_one number process actuals body)
one-opened-led bodies number process actuals None e = All-nil (IsLed bodies)
one-opened-led bodies number process actuals (Some body) e =
    All-one (IsLed bodies) (record { number = number; body = process; term = fresh body.tree; store = opening_store body actuals; inbox = nothing }) (body, e, (0, entered))

opened-led : (bodies : List Body) (number : ℕ) (roots : List Root) → All (IsLed bodies) (opened bodies number roots)
opened-led bodies number [] = All-nil (IsLed bodies)
opened-led bodies number (root ∷ roots) =
    All-append (IsLed bodies) (opened_one number root.process root.actuals (slice_get bodies root.process)) (opened bodies (number + 1) roots)
    (one-opened-led bodies number root.process root.actuals (slice_get bodies root.process) refl)
    (opened-led bodies (number + 1) roots)

-- what holds of the number and the body of a process that begins
pub one-opened-keeps : (P : ℕ → ℕ → Type 0) (number process : ℕ) (actuals : List Term) (body : Option Body) → P number process → All (λ (p : Proc). P p.number p.body) (opened_one number process actuals body)
one-opened-keeps P number process actuals None h = All-nil (λ (p : Proc). P p.number p.body)
one-opened-keeps P number process actuals (Some body) h =
    All-one (λ (p : Proc). P p.number p.body) (record { number = number; body = process; term = fresh body.tree; store = opening_store body actuals; inbox = nothing }) h

opened-below : (bodies : List Body) (number bound : ℕ) (roots : List Root) → number + length roots ≤ bound → All (λ (p : Proc). p.number < bound) (opened bodies number roots)
opened-below bodies number bound [] l = All-nil (λ (p : Proc). p.number < bound)
opened-below bodies number bound (root ∷ roots) l =
    All-append (λ (p : Proc). p.number < bound) (opened_one number root.process root.actuals (slice_get bodies root.process)) (opened bodies (number + 1) roots)
    (one-opened-keeps (λ n body. n < bound) number root.process root.actuals (slice_get bodies root.process) (omega arith))
    (opened-below bodies (number + 1) bound roots (omega arith))

pub start-in_order : (origin : Origin) → InOrder (start origin)
start-in_order origin = record {
  ascend = opened-ascend origin.program.bodies 0 1 origin.program.roots (omega arith);
  below = opened-below origin.program.bodies 1 (length origin.program.roots + 1) origin.program.roots (omega arith);
  led = opened-led origin.program.bodies 1 origin.program.roots;
}

-- a process that goes on leaves the others where they are

abbrev on_one : ℕ → Offered → List Bind → Proc → List Proc
on_one number offered binds proc = if proc.number == number then proc_left proc (with_binds offered.store binds) offered.residual else proc ∷ []

left-ascend : (below : ℕ) (proc : Proc) (store : List Slot) (left : Option Process) (rest : List Proc) → below < proc.number → ((low : ℕ) → low ≤ proc.number → Ascend low rest) → Ascend below (proc_left proc store left ++ rest)
left-ascend below proc store None rest l h = h below (omega arith)
left-ascend below proc store (Some term) rest l h = (l, h proc.number (omega arith))

one-ascend : (below : ℕ) (proc : Proc) (offered : Offered) (binds : List Bind) (rest : List Proc) (b : Bool) → below < proc.number →
    ((low : ℕ) → low ≤ proc.number → Ascend low rest) → Ascend below ((if b then proc_left proc (with_binds offered.store binds) offered.residual else proc ∷ []) ++ rest)
one-ascend below proc offered binds rest true l h = left-ascend below proc (with_binds offered.store binds) offered.residual rest l h
one-ascend below proc offered binds rest false l h = (l, h proc.number (omega arith))

pub advance-ascend : (number : ℕ) (offered : Offered) (binds : List Bind) (below : ℕ) (procs : List Proc) → Ascend below procs → Ascend below (advance number offered binds procs)
unfolding advance
advance-ascend number offered binds below [] h = tt
advance-ascend number offered binds below (proc ∷ procs) h =
    let on = advance number offered binds procs in
    let rest : Ascend proc.number on = advance-ascend number offered binds proc.number procs h.1 in
    one-ascend below proc offered binds on (proc.number == number) h.0 (λ low le. ascend-weaker low proc.number on le rest)

-- what holds of the number and the body of each process still does

left-keeps : (P : ℕ → ℕ → Type 0) (proc : Proc) (store : List Slot) (left : Option Process) → P proc.number proc.body → All (λ (p : Proc). P p.number p.body) (proc_left proc store left)
left-keeps P proc store None h = All-nil _
left-keeps P proc store (Some term) h = All-one (λ (p : Proc). P p.number p.body) (record proc { term = term; store = store }) h

one-keeps : (P : ℕ → ℕ → Type 0) (offered : Offered) (binds : List Bind) (proc : Proc) (b : Bool) → P proc.number proc.body →
    All (λ (p : Proc). P p.number p.body) (if b then proc_left proc (with_binds offered.store binds) offered.residual else proc ∷ [])
one-keeps P offered binds proc true h = left-keeps P proc (with_binds offered.store binds) offered.residual h
one-keeps P offered binds proc false h = All-one (λ (p : Proc). P p.number p.body) proc h

pub advance-keeps : (P : ℕ → ℕ → Type 0) (number : ℕ) (offered : Offered) (binds : List Bind) (procs : List Proc) → All (λ (p : Proc). P p.number p.body) procs →
    All (λ (p : Proc). P p.number p.body) (advance number offered binds procs)
unfolding advance
advance-keeps P number offered binds procs h =
    All-flat_map (λ (p : Proc). P p.number p.body) (on_one number offered binds) procs
    (All-weaker (λ (p : Proc). P p.number p.body) (λ proc. All (λ (p : Proc). P p.number p.body) (on_one number offered binds proc))
    (λ proc here. one-keeps P offered binds proc (proc.number == number) here) procs h)

-- the process of this number may go on so, whichever body it has
abbrev pub MayGo : List Body → ℕ → Option Process → ℕ → ℕ → Type 0
MayGo bodies number left n body = n ≡ number → IsLeft bodies body left

pub All-both : {X : Type 0} (P Q : X → Type 0) (xs : List X) → All P xs → All Q xs → All (λ x. P x × Q x) xs
All-both P Q xs h g = All-weaker (Contains xs) (λ x. P x × Q x) (λ x c. (All-contains P xs x h c, All-contains Q xs x g c)) xs (All-contains_itself xs)

left-led : (bodies : List Body) (proc : Proc) (store : List Slot) (left : Option Process) → IsLeft bodies proc.body left → All (IsLed bodies) (proc_left proc store left)
left-led bodies proc store None h = All-nil (IsLed bodies)
left-led bodies proc store (Some term) h = All-one (IsLed bodies) (record proc { term = term; store = store }) h

one-led : (bodies : List Body) (number : ℕ) (offered : Offered) (binds : List Bind) (proc : Proc) (b : Bool) → (proc.number == number) ≡ b → MayGo bodies number offered.residual proc.number proc.body → IsLed bodies proc →
    All (IsLed bodies) (if b then proc_left proc (with_binds offered.store binds) offered.residual else proc ∷ [])
one-led bodies number offered binds proc true e may h = left-led bodies proc (with_binds offered.store binds) offered.residual (may (eqb-true proc.number number e))
one-led bodies number offered binds proc false e may h = All-one (IsLed bodies) proc h

pub advance-led : (bodies : List Body) (number : ℕ) (offered : Offered) (binds : List Bind) (procs : List Proc) → All (λ (p : Proc). MayGo bodies number offered.residual p.number p.body) procs → All (IsLed bodies) procs →
    All (IsLed bodies) (advance number offered binds procs)
unfolding advance
advance-led bodies number offered binds procs may h =
    let May : Proc → Type 0 = λ p. MayGo bodies number offered.residual p.number p.body in
    All-flat_map (IsLed bodies) (on_one number offered binds) procs
    (All-weaker (λ p. May p × IsLed bodies p) (λ proc. All (IsLed bodies) (on_one number offered binds proc))
    (λ proc both. one-led bodies number offered binds proc (proc.number == number) refl both.0 both.1) procs (All-both May (IsLed bodies) procs may h))

-- so a bus of which one process goes on is still in order
pub advance-in_order : (bus : Bus) (number starter : ℕ) (offered : Offered) (binds : List Bind) → InOrder bus → All (λ (p : Proc). MayGo bus.program.bodies number offered.residual p.number p.body) bus.procs →
    InOrder (record bus { procs = advance number offered binds bus.procs; last_starter = starter })
advance-in_order bus number starter offered binds h may = record {
  ascend = advance-ascend number offered binds 0 bus.procs h.ascend;
  below = advance-keeps (λ n body. n < bus.next_number) number offered binds bus.procs h.below;
  led = advance-led bus.program.bodies number offered binds bus.procs may h.led;
}
