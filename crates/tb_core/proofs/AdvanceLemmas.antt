-- A process that advances among the others: it stays in its place, or is removed if it has ended.
use Rattle.std.proofs.Common.{◌≡◌, ℕ, ◌<◌, ◌≤◌, ◌==◌, ◌&&◌, zero, suc, List, [], ◌∷◌, ◌++◌, length, refl, ap, sym, subst, ◌∙◌, arith, Option, Some, None, Bool, true, false, Contains, slice_get, slice_set, remove, get_or, take, drop, nat_lt, if◌then◌else◌, eq-eqb, inr, map, option_map, unwrap_or}
use Rattle.tb_living.proofs.RestLemmas.{rested-kept, rested-stale}
use Rattle.std.proofs.lemmas.Bool.{lt-ltb, eqb-true, false_from_ne_true}
use Rattle.std.proofs.lemmas.Option.{slice_get-map, unwrap_or-slice_get}
use Rattle.std.proofs.lemmas.List.Elements.{All-set, All-append, All-take, All-drop}
use Rattle.std.specs.List.{All}
use Rattle.std.specs.Global.{Vec}
use Rattle.tb_match.specs.declared.bind.Bind.{Bind}
use Rattle.tb_func.specs.declared.slot.Slot.{Slot}
use Rattle.tb_process_steps.specs.Processes.{Process}
use Rattle.tb_process_steps.specs.Binds.{with_binds, takes_binds}
use Rattle.tb_process_steps.specs.Offers.{Offered}
use Rattle.tb_process_steps.specs.Walks.{Walking, is_end, fired, sorts_of}
use Rattle.tb_process_steps.specs.WalkerViews.{View}
use Rattle.tb_process_steps.proofs.Sorts.{sorts-with_binds}
use Rattle.tb_notes.specs.Inboxes.{Contents}
use Rattle.tb_index.specs.Indexes.{IndexState, IsCleared}
use Rattle.tb_bus.specs.Buses.{Bus, Proc, proc_left}
use Rattle.tb_bus.specs.Steps.{advance}
use Rattle.tb_search.specs.Candidates.{row_at, row_of, rows_of, no_row, ascend, Row}
use Rattle.tb_search.specs.Views.{proc_at, no_proc}
use Rattle.tb_search.specs.declared.living.Living.{Living}
use Rattle.tb_search.proofs.TurnLemmas.{ascend-first}
use Rattle.tb_living.specs.Indexes.{IsRightFor, IsRested}
use Rattle.tb_living.specs.Lives.{IsBelow, IsLive, term_in, proc_by, proc_in, procs_of, IsFreshOr}
use Rattle.tb_core.specs.Helpers.LiveBuses.{IsSound, IsAdvanced, AreAdvanced, Leaves, CanAdvance, bus_of, procs_in, settings_in}
use Rattle.tb_core.specs.declared.bus.LiveBus.{LiveBus}
use Rattle.tb_core.proofs.ReadLemmas.{LiveAt, live-at}
use Rattle.tb_living.proofs.ReadLemmas.{above-there, all-there, proc-number, read-is}
use Rattle.tb_core.proofs.SetLemmas.{ascend-set, set-other}
use Rattle.tb_living.proofs.IndexLemmas.{keeps-self, right-removed, right-set, stale-right, each-removed, keeps-cleared}

goes-by : (number : ℕ) (offered : Offered) (binds : List Bind) (proc : Proc) (rest : List Proc) (b : Bool) → b ≡ true →
    (if b then proc_left proc (with_binds offered.store binds) offered.residual else proc ∷ []) ++ rest ≡ proc_left proc (with_binds offered.store binds) offered.residual ++ rest
goes-by number offered binds proc rest true e = refl
goes-by number offered binds proc rest false e = cc

stays-by : (number : ℕ) (offered : Offered) (binds : List Bind) (proc : Proc) (rest : List Proc) (b : Bool) → b ≡ false →
    (if b then proc_left proc (with_binds offered.store binds) offered.residual else proc ∷ []) ++ rest ≡ proc ∷ rest
stays-by number offered binds proc rest true e = cc
stays-by number offered binds proc rest false e = refl

-- the process itself
advance-here : (number : ℕ) (offered : Offered) (binds : List Bind) (proc : Proc) (procs : List Proc) → proc.number ≡ number →
    advance number offered binds (proc ∷ procs) ≡ proc_left proc (with_binds offered.store binds) offered.residual ++ advance number offered binds procs
unfolding advance
advance-here number offered binds proc procs e = goes-by number offered binds proc (advance number offered binds procs) (proc.number == number) (eq-eqb proc.number number e)

-- any other
advance-past : (number : ℕ) (offered : Offered) (binds : List Bind) (proc : Proc) (procs : List Proc) → (proc.number ≡ number → ⊥) →
    advance number offered binds (proc ∷ procs) ≡ proc ∷ advance number offered binds procs
unfolding advance
advance-past number offered binds proc procs h =
    stays-by number offered binds proc (advance number offered binds procs) (proc.number == number) (false_from_ne_true (proc.number == number) (λ p. h (eqb-true proc.number number p)))

-- what one process became isn't touched when another goes on
left-untouched : (number : ℕ) (proc : Proc) (store : List Slot) (term : Option Process) (offered : Offered) (binds : List Bind) (rest : List Proc) → (proc.number ≡ number → ⊥) →
    advance number offered binds (proc_left proc store term ++ rest) ≡ proc_left proc store term ++ advance number offered binds rest
left-untouched number proc store None offered binds rest h = refl
left-untouched number proc store (Some term) offered binds rest h = advance-past number offered binds (record proc { term = term; store = store }) rest h

swap-at : (a b : ℕ) (oa ob : Offered) (ba bb : List Bind) (proc : Proc) (procs : List Proc) → (a ≡ b → ⊥) → advance a oa ba (advance b ob bb procs) ≡ advance b ob bb (advance a oa ba procs) → proc.number ≡ a →
    advance a oa ba (advance b ob bb (proc ∷ procs)) ≡ advance b ob bb (advance a oa ba (proc ∷ procs))
swap-at a b oa ob ba bb proc procs h ih e =
    ap (advance a oa ba) (advance-past b ob bb proc procs (λ q. h (sym e ∙ q)))
    ∙ advance-here a oa ba proc (advance b ob bb procs) e
    ∙ ap (λ ps. proc_left proc (with_binds oa.store ba) oa.residual ++ ps) ih
    ∙ sym (ap (advance b ob bb) (advance-here a oa ba proc procs e) ∙ left-untouched b proc (with_binds oa.store ba) oa.residual ob bb (advance a oa ba procs) (λ q. h (sym e ∙ q)))

swap-by : (a b : ℕ) (oa ob : Offered) (ba bb : List Bind) (proc : Proc) (procs : List Proc) (x y : Bool) → (proc.number == a) ≡ x → (proc.number == b) ≡ y → (a ≡ b → ⊥) →
    advance a oa ba (advance b ob bb procs) ≡ advance b ob bb (advance a oa ba procs) → advance a oa ba (advance b ob bb (proc ∷ procs)) ≡ advance b ob bb (advance a oa ba (proc ∷ procs))
swap-by a b oa ob ba bb proc procs true y e f h ih = swap-at a b oa ob ba bb proc procs h ih (eqb-true proc.number a e)
swap-by a b oa ob ba bb proc procs false true e f h ih = sym (swap-at b a ob oa bb ba proc procs (λ q. h (sym q)) (sym ih) (eqb-true proc.number b f))
swap-by a b oa ob ba bb proc procs false false e f h ih =
    let not_a : proc.number ≡ a → ⊥ = λ q. let t = eq-eqb proc.number a q in cc in
    let not_b : proc.number ≡ b → ⊥ = λ q. let t = eq-eqb proc.number b q in cc in
    ap (advance a oa ba) (advance-past b ob bb proc procs not_b) ∙ advance-past a oa ba proc (advance b ob bb procs) not_a
    ∙ ap (λ ps. proc ∷ ps) ih
    ∙ sym (ap (advance b ob bb) (advance-past a oa ba proc procs not_a) ∙ advance-past b ob bb proc (advance a oa ba procs) not_b)

-- two processes go on in either order
pub advance-swap : (a b : ℕ) (oa ob : Offered) (ba bb : List Bind) (procs : List Proc) → (a ≡ b → ⊥) → advance a oa ba (advance b ob bb procs) ≡ advance b ob bb (advance a oa ba procs)
unfolding advance
advance-swap a b oa ob ba bb [] h = refl
advance-swap a b oa ob ba bb (proc ∷ procs) h = swap-by a b oa ob ba bb proc procs (proc.number == a) (proc.number == b) refl refl h (advance-swap a b oa ob ba bb procs h)

-- those with greater numbers stay
advance-above : {W P T : Type 0} (view : View P W T) (plans : List P) (number below : ℕ) (offered : Offered) (binds : List Bind) (all : List (Living W)) → number ≤ below → ascend below (rows_of all) ≡ true →
    advance number offered binds (procs_of view plans all) ≡ procs_of view plans all
unfolding advance
advance-above view plans number below offered binds [] le h = refl
advance-above view plans number below offered binds (living ∷ all) le h =
    let t = ascend-first below (row_of living) (rows_of all) h in
    let above = t.0 in
    let named = proc-number view (slice_get plans living.body) living in
    advance-past number offered binds (proc_in view plans living) (procs_of view plans all) (λ e. omega arith)
    ∙ ap (λ ps. proc_in view plans living ∷ ps) (advance-above view plans number living.number offered binds all (omega arith) t.1)

left-alive : (proc : Proc) (store : List Slot) (term : Option Process) → is_end term ≡ false → proc_left proc store term ≡ record proc { term = term_in term; store = store } ∷ []
left-alive proc store None e = cc
left-alive proc store (Some term) e = refl

-- what one of the living is after it went on
pub record Went {W P T : Type 0} (view : View P W T) (plan : P) (before : Living W) (offered : Offered) (binds : List Bind) (after : Living W) : Type 0 where
  pub is_on : view.is_on plan after.walker
  pub goes : view.walking plan after.walker ≡ fired binds (view.walking plan before.walker).ticks offered
  pub number : after.number ≡ before.number
  pub body : after.body ≡ before.body
  pub inbox : after.inbox ≡ before.inbox
  pub stale : after.fresh ≡ false
  pub marks : after.marks ≡ before.marks

-- the process that is left after the offer is the one that the advanced running process represents
left-moved : {W P T : Type 0} (view : View P W T) (plans : List P) (plan : P) (before : Living W) (offered : Offered) (binds : List Bind) (after : Living W) →
    Went view plan before offered binds after → slice_get plans before.body ≡ Some plan → is_end (view.walking plan after.walker).term ≡ false →
    proc_left (proc_in view plans before) (with_binds offered.store binds) offered.residual ≡ proc_in view plans after ∷ []
left-moved view plans plan before offered binds after went h alive =
    let term = term_in (view.walking plan after.walker).term in
    let store = (view.walking plan after.walker).store in
    ap (λ (v : Walking). proc_left (proc_in view plans before) v.store v.term) (sym went.goes)
    ∙ left-alive (proc_in view plans before) store (view.walking plan after.walker).term alive
    ∙ ap (λ o. let p : Proc = record (proc_by view o before) { term = term; store = store } in p ∷ []) h
    ∙ ap (λ (n : ℕ). let p : Proc = record { number = n; body = before.body; term = term; store = store; inbox = before.inbox.held } in p ∷ []) (sym went.number)
    ∙ ap (λ (b : ℕ). let p : Proc = record { number = after.number; body = b; term = term; store = store; inbox = before.inbox.held } in p ∷ []) (sym went.body)
    ∙ ap (λ (i : Contents). let p : Proc = record { number = after.number; body = after.body; term = term; store = store; inbox = i.held } in p ∷ []) (sym went.inbox)
    ∙ ap (λ o. proc_by view o after ∷ []) (sym (ap (slice_get plans) went.body ∙ h))

-- A process that goes on is put in its place.
procs-set : {W P T : Type 0} (view : View P W T) (plans : List P) (plan : P) (below : ℕ) (all : List (Living W)) (at : ℕ) (before : Living W) (offered : Offered) (binds : List Bind) (after : Living W) →
    ascend below (rows_of all) ≡ true → slice_get all at ≡ Some before → Went view plan before offered binds after → slice_get plans before.body ≡ Some plan → is_end (view.walking plan after.walker).term ≡ false →
    procs_of view plans (slice_set all at after) ≡ advance before.number offered binds (procs_of view plans all)
procs-set view plans plan below [] at before offered binds after h here went planned alive = cc
procs-set view plans plan below (first ∷ all) zero before offered binds after h here went planned alive =
    let same : first ≡ before = cc in
    let t = ascend-first below (row_of first) (rows_of all) h in
    let proc = proc_in view plans first in
    sym (advance-here before.number offered binds proc (procs_of view plans all) (proc-number view (slice_get plans first.body) first ∙ ap (λ (l : Living _). l.number) same)
    ∙ ap (λ ps. proc_left proc (with_binds offered.store binds) offered.residual ++ ps) (advance-above view plans before.number first.number offered binds all (let e = ap (λ (l : Living _). l.number) same in omega arith) t.1)
    ∙ ap (λ (l : Living _). proc_left (proc_in view plans l) (with_binds offered.store binds) offered.residual ++ procs_of view plans all) same
    ∙ ap (λ ps. ps ++ procs_of view plans all) (left-moved view plans plan before offered binds after went planned alive))
procs-set view plans plan below (first ∷ all) (suc at) before offered binds after h here went planned alive =
    let t = ascend-first below (row_of first) (rows_of all) h in
    let above : first.number < before.number = above-there first.number all at before t.1 here in
    let named = proc-number view (slice_get plans first.body) first in
    ap (λ ps. proc_in view plans first ∷ ps) (procs-set view plans plan first.number all at before offered binds after t.1 here went planned alive)
    ∙ sym (advance-past before.number offered binds (proc_in view plans first) (procs_of view plans all) (λ q. omega arith))

-- A process that has ended is taken away.
procs-removed : {W P T : Type 0} (view : View P W T) (plans : List P) (below : ℕ) (all : List (Living W)) (at : ℕ) (before : Living W) (offered : Offered) (binds : List Bind) →
    ascend below (rows_of all) ≡ true → slice_get all at ≡ Some before → offered.residual ≡ None →
    procs_of view plans (remove all at) ≡ advance before.number offered binds (procs_of view plans all)
procs-removed view plans below [] at before offered binds h here e = cc
procs-removed view plans below (first ∷ all) zero before offered binds h here e =
    let same : first ≡ before = cc in
    let t = ascend-first below (row_of first) (rows_of all) h in
    let proc = proc_in view plans first in
    sym (advance-here before.number offered binds proc (procs_of view plans all) (proc-number view (slice_get plans first.body) first ∙ ap (λ (l : Living _). l.number) same)
    ∙ ap (λ r. proc_left proc (with_binds offered.store binds) r ++ advance before.number offered binds (procs_of view plans all)) e
    ∙ advance-above view plans before.number first.number offered binds all (let e = ap (λ (l : Living _). l.number) same in omega arith) t.1)
procs-removed view plans below (first ∷ all) (suc at) before offered binds h here e =
    let t = ascend-first below (row_of first) (rows_of all) h in
    let above : first.number < before.number = above-there first.number all at before t.1 here in
    let named = proc-number view (slice_get plans first.body) first in
    ap (λ ps. proc_in view plans first ∷ ps) (procs-removed view plans first.number all at before offered binds t.1 here e)
    ∙ sym (advance-past before.number offered binds (proc_in view plans first) (procs_of view plans all) (λ q. omega arith))

-- the numbers still ascend
both-lt : (below number : ℕ) (rest : Bool) → below < number → rest ≡ true → (nat_lt below number && rest) ≡ true
both-lt below number rest l e = rw (lt-ltb below number l) e

ascend-mono : (low high : ℕ) (rows : List Row) → low ≤ high → ascend high rows ≡ true → ascend low rows ≡ true
ascend-mono low high [] le h = refl
ascend-mono low high (row ∷ rows) le h =
    let t = ascend-first high row rows h in
    let above = t.0 in
    both-lt low row.number (ascend row.number rows) (omega arith) t.1

ascend-removed : {W : Type 0} (below : ℕ) (all : List (Living W)) (at : ℕ) → ascend below (rows_of all) ≡ true → ascend below (rows_of (remove all at)) ≡ true
ascend-removed below [] zero h = refl
ascend-removed below [] (suc at) h = refl
ascend-removed below (first ∷ all) zero h =
    let t = ascend-first below (row_of first) (rows_of all) h in
    let above = t.0 in
    ascend-mono below first.number (rows_of all) (omega arith) t.1
ascend-removed below (first ∷ all) (suc at) h =
    let t = ascend-first below (row_of first) (rows_of all) h in
    both-lt below first.number (ascend first.number (rows_of (remove all at))) t.0 (ascend-removed first.number all at t.1)

All-removed : {A : Type 0} (P : A → Type 0) (xs : List A) (at : ℕ) → All P xs → All P (remove xs at)
All-removed P xs at h = All-append P (take at xs) (drop (suc at) xs) (All-take P at xs h) (All-drop P (suc at) xs h)

-- what was put at an index is gone when that is removed
remove-set : {A : Type 0} (xs : List A) (at : ℕ) (x : A) → remove (slice_set xs at x) at ≡ remove xs at
remove-set [] at x = refl
remove-set (y ∷ xs) zero x = refl
remove-set (y ∷ xs) (suc at) x = ap (λ ys. y ∷ ys) (remove-set xs at x)

-- those in front stay
pub set-before : {A : Type 0} (xs : List A) (at : ℕ) (x : A) (other : ℕ) → other < at → slice_get (slice_set xs at x) other ≡ slice_get xs other
set-before xs at x other l = set-other xs at other x (λ e. omega arith)

removed-before : {A : Type 0} (xs : List A) (at other : ℕ) → other < at → slice_get (remove xs at) other ≡ slice_get xs other
removed-before [] zero other l = refl
removed-before [] (suc at) other l = refl
removed-before (y ∷ xs) zero other l = absurd (omega arith)
removed-before (y ∷ xs) (suc at) zero l = refl
removed-before (y ∷ xs) (suc at) (suc other) l = removed-before xs at other (omega arith)

pub gone-before : {A : Type 0} (xs ys : List A) (at : ℕ) (x : A) (other : ℕ) → ys ≡ remove (slice_set xs at x) at → other < at → slice_get ys other ≡ slice_get xs other
gone-before xs ys at x other e l = ap (λ zs. slice_get zs other) (e ∙ remove-set xs at x) ∙ removed-before xs at other l

-- who went on and hasn't ended is alive
went-live : {W P T : Type 0} (view : View P W T) (bus : LiveBus W P T) (at : ℕ) (before : Living W) (offered : Offered) (binds : List Bind) (after : Living W) → (it : LiveAt view bus at before) →
    Went view it.plan before offered binds after → sorts_of (fired binds 0 offered).store ≡ sorts_of (proc_at (procs_in view bus) at).store → is_end (view.walking it.plan after.walker).term ≡ false → IsLive view bus.plans bus.ticks after
went-live view bus at before offered binds after it went sorts alive = (
  it.plan,
  ap (slice_get bus.plans) went.body ∙ it.planned,
  record {
    is_on = went.is_on;
    alive = alive;
    sorts = ap (λ (v : Walking). sorts_of v.store) went.goes ∙ sorts ∙ ap (λ (p : Proc). sorts_of p.store) it.proc ∙ it.live.sorts;
    ticks = let e = ap (λ (v : Walking). v.ticks) went.goes in let l = it.live.ticks in omega arith;
    ready = λ e. absurd (let f = went.stale in cc);
  },
)

named : {W P T : Type 0} (view : View P W T) (bus : LiveBus W P T) (at : ℕ) (before : Living W) → LiveAt view bus at before → Contains bus.stale.items (row_at (rows_of bus.living.items) at).number → Contains bus.stale.items before.number
named view bus at before it h = subst (λ (r : Row). Contains bus.stale.items r.number) it.row h

moved : {W P T : Type 0} (view : View P W T) (bus : LiveBus W P T) (at : ℕ) (before : Living W) (offered : Offered) (binds : List Bind) (procs : List Proc) → LiveAt view bus at before →
    procs ≡ advance before.number offered binds (procs_in view bus) → ◌≡◌ {A = Bus} (record (bus_of view bus) { procs = procs }) (record (bus_of view bus) { procs = advance (row_at (rows_of bus.living.items) at).number offered binds (procs_in view bus) })
moved view bus at before offered binds procs it e =
    ap (λ (ps : List Proc). let b : Bus = record (bus_of view bus) { procs = ps } in b) e
    ∙ ap (λ (r : Row). let b : Bus = record (bus_of view bus) { procs = advance r.number offered binds (procs_in view bus) } in b) (sym it.row)

-- one of the living at an index, and the plan that was read for it
pub record ReadAt {W P T : Type 0} (view : View P W T) (bus : LiveBus W P T) (at : ℕ) (before : Living W) (plan : P) : Type 0 where
  pub it : LiveAt view bus at before
  pub same : plan ≡ it.plan

pub read-at : {W P T : Type 0} (view : View P W T) (bus : LiveBus W P T) (at : ℕ) (before : Living W) (plan : P) (read : List P) → IsSound view bus → at < length bus.living.items → before ≡ get_or bus.living.items at before →
    read ≡ bus.plans → plan ≡ get_or read before.body plan → ReadAt view bus at before plan
read-at view bus at before plan read sound within is plans plan_is =
    let it = live-at view bus at before sound within is in
    record { it = it; same = read-is bus.plans read before.body plan it.plan plans it.planned plan_is }

-- what was taken of one of the living is what its offer leaves
pub leaves-there : {W P T : Type 0} (view : View P W T) (bus : LiveBus W P T) (at : ℕ) (before : Living W) (plan : P) (taken : T) (offered : Offered) → ReadAt view bus at before plan → Leaves view bus at taken offered → view.leaves plan before.walker taken offered
leaves-there view bus at before plan taken offered read leaves =
    let it = read.it in
    let e = read.same in
    let same : leaves.0 ≡ before = let h : Some leaves.0 ≡ Some before = sym leaves.1 ∙ it.here in cc in
    let its : leaves.2.0 ≡ plan = let h : Some leaves.2.0 ≡ Some it.plan = sym leaves.2.1 ∙ ap (λ (l : Living _). slice_get bus.plans l.body) same ∙ it.planned in cc in
    subst (λ (l : Living _). view.leaves plan l.walker taken offered) same (subst (λ p. view.leaves p leaves.0.walker taken offered) its leaves.2.2)

-- The process at an index goes on, where it hasn't ended then.
pub advanced-set : {W P T : Type 0} (view : View P W T) (bus : LiveBus W P T) (at : ℕ) (before : Living W) (plan : P) (offered : Offered) (binds : List Bind) (after : Living W) (over : Bool) (living : Vec (Living W)) → IsSound view bus →
    ReadAt view bus at before plan → Went view plan before offered binds after → sorts_of (fired binds 0 offered).store ≡ sorts_of (proc_at (procs_in view bus) at).store →
    over ≡ is_end (view.walking plan after.walker).term → over ≡ false → Contains bus.stale.items (row_at (rows_of bus.living.items) at).number → living.items ≡ slice_set bus.living.items at after →
    IsAdvanced view bus at offered binds (record bus { living = living })
advanced-set view bus at before plan offered binds after over living sound read went sorts ends alive stale e =
    let it = read.it in
    let goes = subst (λ p. Went view p before offered binds after) read.same went in
    let lives : is_end (view.walking it.plan after.walker).term ≡ false = ap (λ p. is_end (view.walking p after.walker).term) (sym read.same) ∙ sym ends ∙ alive in
    record {
      sound = record {
        in_order = ap (λ (all : List (Living _)). ascend 0 (rows_of all)) e ∙ ascend-set 0 bus.living.items at before after it.here went.number ∙ sound.in_order;
        below = subst (All (IsBelow bus.marks.next_number)) (sym e) (All-set (IsBelow bus.marks.next_number) bus.living.items at after
            (subst (λ n. n < bus.marks.next_number) (sym went.number) (all-there (IsBelow bus.marks.next_number) bus.living.items at before sound.below it.here)) sound.below);
        planned = sound.planned;
        lanes = sound.lanes;
        live = subst (All (IsLive view bus.plans bus.ticks)) (sym e) (All-set (IsLive view bus.plans bus.ticks) bus.living.items at after (went-live view bus at before offered binds after it goes sorts lives) sound.live);
        fresh = λ young. subst (All (IsFreshOr bus.stale.items)) (sym e) (All-set (IsFreshOr bus.stale.items) bus.living.items at after
            (inr (subst (Contains bus.stale.items) (sym went.number) (named view bus at before it stale))) (sound.fresh young));
        indexed = right-set bus.index bus.index bus.living.items living.items at before after e sound.in_order it.here went.number
            (λ other ne. keeps-self bus.index other) (stale-right bus.index before after went.number went.marks went.stale (all-there (IsRightFor bus.index) bus.living.items at before sound.indexed.each it.here)) sound.indexed;
        rested = subst (All (IsRested (settings_in bus) bus.stirred bus.index)) (sym e)
            (All-set (IsRested (settings_in bus) bus.stirred bus.index) bus.living.items at after (rested-stale (settings_in bus) bus.stirred bus.index after went.stale) sound.rested);
      };
      bus = moved view bus at before offered binds (procs_of view bus.plans living.items) it
          (ap (procs_of view bus.plans) e ∙ procs-set view bus.plans it.plan 0 bus.living.items at before offered binds after sound.in_order it.here goes it.planned lives);
      origin = refl;
      plans = refl;
      marks = refl;
    }

ended-none : (term : Option Process) → is_end term ≡ true → term ≡ None
ended-none None e = refl
ended-none (Some term) e = cc

-- The process at an index is gone, where it has ended.
pub advanced-removed : {W P T : Type 0} (view : View P W T) (bus : LiveBus W P T) (at : ℕ) (before : Living W) (plan : P) (offered : Offered) (binds : List Bind) (after : Living W) (over : Bool) (living : Vec (Living W)) (index : IndexState) → IsSound view bus →
    ReadAt view bus at before plan → Went view plan before offered binds after → over ≡ is_end (view.walking plan after.walker).term → over ≡ true → living.items ≡ remove (slice_set bus.living.items at after) at →
    IsCleared bus.index index after.number → IsAdvanced view bus at offered binds (record bus { living = living; index = index })
advanced-removed view bus at before plan offered binds after over living index sound read went ends ended put cleared =
    let e : living.items ≡ remove bus.living.items at = put ∙ remove-set bus.living.items at after in
    let left = ended-none offered.residual (ap (λ (v : Walking). is_end v.term) (sym went.goes) ∙ sym ends ∙ ended) in
    record {
      sound = record {
        in_order = ap (λ (all : List (Living _)). ascend 0 (rows_of all)) e ∙ ascend-removed 0 bus.living.items at sound.in_order;
        below = subst (All (IsBelow bus.marks.next_number)) (sym e) (All-removed (IsBelow bus.marks.next_number) bus.living.items at sound.below);
        planned = sound.planned;
        lanes = sound.lanes;
        live = subst (All (IsLive view bus.plans bus.ticks)) (sym e) (All-removed (IsLive view bus.plans bus.ticks) bus.living.items at sound.live);
        fresh = λ young. subst (All (IsFreshOr bus.stale.items)) (sym e) (All-removed (IsFreshOr bus.stale.items) bus.living.items at (sound.fresh young));
        indexed = right-removed bus.index index bus.living.items living.items at before e sound.in_order read.it.here (subst (IsCleared bus.index index) went.number cleared) sound.indexed;
        rested = subst (All (IsRested (settings_in bus) bus.stirred index)) (sym e)
            (each-removed (IsRested (settings_in bus) bus.stirred) (rested-kept (settings_in bus) bus.stirred) bus.index index 0 bus.living.items at before sound.in_order read.it.here
            (keeps-cleared bus.index index before.number (subst (IsCleared bus.index index) went.number cleared)) sound.rested);
      };
      bus = moved view bus at before offered binds (procs_of view bus.plans living.items) read.it
          (ap (procs_of view bus.plans) e ∙ procs-removed view bus.plans 0 bus.living.items at before offered binds sound.in_order read.it.here left);
      origin = refl;
      plans = refl;
      marks = refl;
    }

-- all that was taken leads to one store
pub sorts-once : (one other : Offered) (binds : List Bind) (ticks : ℕ) (walking : Walking) (store : List Slot) → walking ≡ fired binds ticks one → walking ≡ fired binds ticks other → sorts_of other.store ≡ sorts_of store → sorts_of (fired binds 0 one).store ≡ sorts_of store
sorts-once one other binds ticks walking store e f sorts =
    ap (λ (v : Walking). sorts_of v.store) (sym e ∙ f) ∙ sorts-with_binds other.store binds ∙ sorts

-- where another went on, who stands at an index is as before
kept-at : {A B : Type 0} (f : A → B) (xs ys : List A) (at : ℕ) (d : B) → slice_get xs at ≡ slice_get ys at → get_or (map f xs) at d ≡ get_or (map f ys) at d
kept-at f xs ys at d e =
    sym (unwrap_or-slice_get (map f xs) at d)
    ∙ ap (λ o. unwrap_or o d) (slice_get-map f xs at ∙ ap (option_map f) e ∙ sym (slice_get-map f ys at))
    ∙ unwrap_or-slice_get (map f ys) at d

row-kept : {W : Type 0} (old new : List (Living W)) (at : ℕ) → slice_get new at ≡ slice_get old at → row_at (rows_of new) at ≡ row_at (rows_of old) at
row-kept old new at e = kept-at row_of new old at no_row e

proc-kept : {W P T : Type 0} (view : View P W T) (old new : LiveBus W P T) (at : ℕ) → slice_get new.living.items at ≡ slice_get old.living.items at → new.plans ≡ old.plans → proc_at (procs_in view new) at ≡ proc_at (procs_in view old) at
proc-kept view old new at e f = ap (λ plans. proc_at (procs_of view plans new.living.items) at) f ∙ kept-at (proc_in view old.plans) new.living.items old.living.items at no_proc e

pub number-kept : {W : Type 0} (old new : List (Living W)) (at : ℕ) → slice_get new at ≡ slice_get old at → (row_at (rows_of new) at).number ≡ (row_at (rows_of old) at).number
number-kept old new at e = ap (λ (r : Row). r.number) (row-kept old new at e)

pub named-kept : {W P T : Type 0} (old new : LiveBus W P T) (at : ℕ) → slice_get new.living.items at ≡ slice_get old.living.items at → new.stale ≡ old.stale →
    Contains old.stale.items (row_at (rows_of old.living.items) at).number → Contains new.stale.items (row_at (rows_of new.living.items) at).number
named-kept old new at e f h =
    subst (λ (v : Vec ℕ). Contains v.items (row_at (rows_of new.living.items) at).number) (sym f) (subst (Contains old.stale.items) (sym (number-kept old.living.items new.living.items at e)) h)

pub leaves-kept : {W P T : Type 0} (view : View P W T) (old new : LiveBus W P T) (at : ℕ) (taken : T) (offered : Offered) → slice_get new.living.items at ≡ slice_get old.living.items at → new.plans ≡ old.plans →
    Leaves view old at taken offered → Leaves view new at taken offered
leaves-kept view old new at taken offered e f h = (h.0, e ∙ h.1, (h.2.0, ap (λ plans. slice_get plans h.0.body) f ∙ h.2.1, h.2.2))

pub advance-kept : {W P T : Type 0} (view : View P W T) (old new : LiveBus W P T) (at : ℕ) (taken : T) (binds given : List Bind) → slice_get new.living.items at ≡ slice_get old.living.items at → new.plans ≡ old.plans → given ≡ binds →
    CanAdvance view old at taken binds → CanAdvance view new at taken given
advance-kept view old new at taken binds given e f k h = (
  h.0,
  leaves-kept view old new at taken h.0 e f h.1,
  h.2 ∙ sym (ap (λ (p : Proc). sorts_of p.store) (proc-kept view old new at e f)),
  ap (takes_binds h.0.store) k ∙ h.3,
)

-- one process goes on after another
pub one-after : {W P T : Type 0} (view : View P W T) (old middle new : LiveBus W P T) (first : ℕ) (one : Offered) (its : List Bind) (second : ℕ) (other : Offered) (binds : List Bind) →
    slice_get middle.living.items second ≡ slice_get old.living.items second → IsAdvanced view old first one its middle → IsAdvanced view middle second other binds new →
    bus_of view new ≡ record (bus_of view old) { procs = advance (row_at (rows_of old.living.items) second).number other binds (advance (row_at (rows_of old.living.items) first).number one its (procs_in view old)) }
one-after view old middle new first one its second other binds e f g =
    g.bus
    ∙ ap (λ (r : Row). let b : Bus = record (bus_of view middle) { procs = advance r.number other binds (procs_in view middle) } in b) (row-kept old.living.items middle.living.items second e)
    ∙ ap (λ (b : Bus). let after : Bus = record b { procs = advance (row_at (rows_of old.living.items) second).number other binds b.procs } in after) f.bus

-- indices of two that differ
pub behind-from : (rows : List Row) (one other : ℕ) → ((row_at rows one).number ≡ (row_at rows other).number → ⊥) → other ≤ one → other < one
behind-from rows one other h l =
    let differ : one ≡ other → ⊥ = λ e. h (ap (λ at. (row_at rows at).number) e) in
    omega arith

-- both went on, the one at the second index first
pub both-advanced : {W P T : Type 0} (view : View P W T) (old middle new : LiveBus W P T) (at : ℕ) (offered : Offered) (other : ℕ) (its : Offered) (binds : List Bind) →
    ((row_at (rows_of old.living.items) at).number ≡ (row_at (rows_of old.living.items) other).number → ⊥) → slice_get middle.living.items at ≡ slice_get old.living.items at →
    IsAdvanced view old other its binds middle → IsAdvanced view middle at offered [] new → AreAdvanced view old at offered other its binds new
both-advanced view old middle new at offered other its binds apart e f g = record {
  sound = g.sound;
  bus = one-after view old middle new other its binds at offered [] e f g
      ∙ ap (λ (ps : List Proc). let b : Bus = record (bus_of view old) { procs = ps } in b)
      (advance-swap (row_at (rows_of old.living.items) at).number (row_at (rows_of old.living.items) other).number offered its [] binds (procs_in view old) apart);
  origin = g.origin ∙ f.origin;
}
