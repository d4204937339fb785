-- The initial bus: the arguments go into the store slot by slot, and the processes are in the order of the roots.
use Rattle.std.proofs.Common.{◌≡◌, ℕ, ◌+◌, ◌-◌, ◌<◌, ◌≤◌, ◌==◌, ◌&&◌, add-zero, zero-add, zero, suc, List, [], ◌∷◌, ◌++◌, length, map, drop, get_or, inr, refl, ap, sym, subst, ◌∙◌, arith, append_assoc, append-nil, Option, Some, None, Bool, true, false, slice_get, nat_le, option_map, IsTrue}
use Rattle.std.specs.Bool.{⊤}
use Rattle.std.specs.List.{All, list_all}
use Rattle.std.specs.Option.{ForSome}
use Rattle.std.proofs.lemmas.Bool.{and_from, and_parts, lt-ltb, eqb-true, leb-true, false≢true}
use Rattle.std.proofs.lemmas.Option.{none-some, same_Some, slice_get-get_or, slice_get_within, slice_get_read, slice_get-map}
use Rattle.std.proofs.lemmas.List.{drop_more, drop_all, length-map, length_push, get_or-map, map-append}
use Rattle.std.proofs.lemmas.List.Elements.{All-same, All-push}
use Rattle.tb_terms.specs.declared.term.Term.{Term}
use Rattle.tb_terms.specs.declared.sort.Sort.{Sort}
use Rattle.tb_terms.specs.Sizes.{is_within_limits}
use Rattle.tb_terms.specs.Sorts.{has_sort}
use Rattle.tb_func.specs.declared.slot.Slot.{Slot}
use Rattle.tb_func.specs.Stores.{fresh_slot, sort_at, with_value}
use Rattle.tb_body.specs.declared.body.Body.{Body}
use Rattle.tb_body.specs.declared.program.Root.{Root}
use Rattle.tb_body.specs.declared.program.Tool.{Tool}
use Rattle.tb_body.specs.Programs.{have_sorts, is_body_in_program, starts, is_root_in_range, is_program_in_range}
use Rattle.tb_process_steps.specs.Processes.{fresh}
use Rattle.tb_process_steps.specs.Walks.{Walking, entering, sorts_of, is_end}
use Rattle.tb_process_steps.specs.WalkerViews.{View}
use Rattle.tb_process_steps.proofs.Sorts.{sorts-fresh, sorts-with_value, sort_at-sorts_of}
use Rattle.tb_notes.specs.Inboxes.{Held}
use Rattle.tb_bus.specs.Buses.{Proc, with_values, opening_store, opened_one, opened}
use Rattle.tb_bus.specs.Slots.{fits_formals}
use Rattle.tb_search.specs.Candidates.{ascend, rows_of}
use Rattle.tb_search.specs.declared.living.Living.{Living}
use Rattle.tb_living.specs.Indexes.{IsUnmarked}
use Rattle.tb_living.specs.Lives.{Begins, IsBelow, IsLive, IsLiveOn, proc_of, proc_by, proc_in, procs_of, IsFreshOr}

-- the actuals

pub actuals-many : (body : Body) (terms : List Term) → fits_formals (Some body) terms ≡ true → length terms ≡ body.formals
actuals-many body terms h = eqb-true (length terms) body.formals (and_parts (length terms == body.formals) (have_sorts body.sorts terms) h).0

pub actuals-sorts : (body : Body) (terms : List Term) → fits_formals (Some body) terms ≡ true → have_sorts body.sorts terms ≡ true
actuals-sorts body terms h = (and_parts (length terms == body.formals) (have_sorts body.sorts terms) h).1

-- each has the sort at its position
sort-at : (sorts : List Sort) (terms : List Term) (n : ℕ) (term : Term) → have_sorts sorts terms ≡ true → slice_get terms n ≡ Some term →
    (sort : Sort) × (slice_get sorts n ≡ Some sort) × (has_sort term sort ≡ true)
sort-at sorts [] n term h e = absurd (none-some term e)
sort-at [] (x ∷ terms) n term h e = absurd (false≢true h)
sort-at (sort ∷ sorts) (x ∷ terms) zero term h e =
    let same : x ≡ term = let p : Some x ≡ Some term = e in cc in
    (sort, refl, ap (λ t. has_sort t sort) (sym same) ∙ (and_parts (has_sort x sort) (have_sorts sorts terms) h).0)
sort-at (sort ∷ sorts) (x ∷ terms) (suc n) term h e = sort-at sorts terms n term (and_parts (has_sort x sort) (have_sorts sorts terms) h).1 e

found-at : (store : List Slot) (sorts : List Sort) (n : ℕ) → sorts_of store ≡ sorts → sort_at store n ≡ slice_get sorts n
found-at store sorts n e = sort_at-sorts_of store n ∙ ap (λ (all : List Sort). slice_get all n) e

-- the last of them: its slot is there and takes it, and the others have the sorts at their positions

have-prefix : (sorts : List Sort) (prefix : List Term) (last : Term) → have_sorts sorts (prefix ++ last ∷ []) ≡ true → have_sorts sorts prefix ≡ true
have-prefix sorts [] last h = refl
have-prefix [] (term ∷ prefix) last h = absurd (false≢true h)
have-prefix (sort ∷ sorts) (term ∷ prefix) last h =
    let parts = and_parts (has_sort term sort) (have_sorts sorts (prefix ++ last ∷ [])) h in
    and_from (has_sort term sort) (have_sorts sorts prefix) parts.0 (have-prefix sorts prefix last parts.1)

last-there : {A : Type 0} (prefix : List A) (last : A) → slice_get (prefix ++ last ∷ []) (length prefix) ≡ Some last
last-there [] last = refl
last-there (x ∷ prefix) last = last-there prefix last

-- two slots are set in either order
values-swap : (store : List Slot) (one other : ℕ) (x y : Term) → (one ≡ other → ⊥) → with_value (with_value store one x) other y ≡ with_value (with_value store other y) one x
values-swap [] one other x y ne = refl
values-swap (slot ∷ store) zero zero x y ne = absurd (ne refl)
values-swap (slot ∷ store) zero (suc other) x y ne = refl
values-swap (slot ∷ store) (suc one) zero x y ne = refl
values-swap (slot ∷ store) (suc one) (suc other) x y ne = ap (λ rest. slot ∷ rest) (values-swap store one other x y (λ e. ne (ap suc e)))

-- the last of some values may be set first
values-last : (store : List Slot) (from : ℕ) (prefix : List Term) (last : Term) → with_values store from (prefix ++ last ∷ []) ≡ with_values (with_value store (from + length prefix) last) from prefix
values-last store from [] last = ap (λ n. with_value store n last) (sym (add-zero from))
values-last store from (first ∷ prefix) last =
    let next : from + 1 + length prefix ≡ from + length (first ∷ prefix) = omega arith in
    values-last (with_value store from first) (from + 1) prefix last
    ∙ ap (λ n. with_values (with_value (with_value store from first) n last) (from + 1) prefix) next
    ∙ ap (λ s. with_values s (from + 1) prefix) (values-swap store from (from + length (first ∷ prefix)) first last (λ e. omega arith))

-- the store takes what is left of the actuals, slot by slot from the last
pub record IsBeginning (body : Body) (store : List Slot) (slot : ℕ) (actuals : List Term) (left : List Term) : Type 0 where
  pub sorts : sorts_of store ≡ body.sorts
  pub many : slot ≡ length left
  pub have : have_sorts body.sorts left ≡ true
  pub values : with_values store 0 left ≡ opening_store body actuals

pub beginning : (body : Body) (store : List Slot) (slot : ℕ) (actuals : List Term) → store ≡ map fresh_slot body.sorts → slot ≡ body.formals → fits_formals (Some body) actuals ≡ true → IsBeginning body store slot actuals actuals
beginning body store slot actuals e f h = record {
  sorts = ap sorts_of e ∙ sorts-fresh body.sorts;
  many = f ∙ sym (actuals-many body actuals h);
  have = actuals-sorts body actuals h;
  values = ap (λ s. with_values s 0 actuals) e;
}

module _ (body : Body) (store : List Slot) (slot : ℕ) (actuals left rest : List Term) (last : Term) (h : IsBeginning body store slot actuals left) (e : left ≡ rest ++ last ∷ []) where
  abbrev its : (sort : Sort) × (slice_get body.sorts (length rest) ≡ Some sort) × (has_sort last sort ≡ true)
  its = sort-at body.sorts left (length rest) last h.have (ap (λ (ts : List Term). slice_get ts (length rest)) e ∙ last-there rest last)

  abbrev place : slot ≡ length rest + 1
  place = h.many ∙ ap (λ (ts : List Term). length ts) e ∙ length_push rest last

  pub last-above : 1 ≤ slot
  last-above = let p = place in omega arith

  pub last-within : slot - 1 < length store
  last-within =
      let it = its in
      let p = place in
      let within : length rest < length body.sorts = slice_get_within body.sorts (length rest) it.0 it.1 in
      let long : length (sorts_of store) ≡ length body.sorts = ap (λ (all : List Sort). length all) h.sorts in
      let same : length (sorts_of store) ≡ length store = length-map store (λ (s : Slot). s.sort) in
      omega arith

  pub last-fits : ForSome (sort_at store (slot - 1)) (λ sort. IsTrue (has_sort last sort))
  last-fits sort found =
      let it = its in
      let p = place in
      let at : slot - 1 ≡ length rest = omega arith in
      let same : it.0 ≡ sort = same_Some it.0 sort (sym it.1 ∙ sym (found-at store body.sorts (length rest) h.sorts) ∙ ap (sort_at store) (sym at) ∙ found) in
      ap (has_sort last) (sym same) ∙ it.2

  pub last-set : IsBeginning body (with_value store (slot - 1) last) (slot - 1) actuals rest
  last-set =
      let p = place in
      let at : slot - 1 ≡ length rest = omega arith in
      record {
        sorts = sorts-with_value store (slot - 1) last ∙ h.sorts;
        many = at;
        have = have-prefix body.sorts rest last (ap (have_sorts body.sorts) (sym e) ∙ h.have);
        values = ap (λ n. with_values (with_value store n last) 0 rest) (at ∙ sym (zero-add (length rest)))
            ∙ sym (values-last store 0 rest last) ∙ ap (with_values store 0) (sym e) ∙ h.values;
      }

-- in the end nothing is left
pub begun : (body : Body) (store : List Slot) (slot : ℕ) (actuals left : List Term) → IsBeginning body store slot actuals left → left ≡ [] → store ≡ opening_store body actuals
begun body store slot actuals left h e = sym (ap (with_values store 0) e) ∙ h.values

-- the roots

-- these have the numbers from this one on, one after the other
abbrev pub AreNumbered : {W : Type 0} → ℕ → List (Living W) → Type 0
AreNumbered from [] = ⊤
AreNumbered from (living ∷ all) = (living.number ≡ from) × AreNumbered (from + 1) all

numbered-more : {W : Type 0} (from : ℕ) (all : List (Living W)) (living : Living W) → AreNumbered from all → living.number ≡ from + length all → AreNumbered from (all ++ living ∷ [])
numbered-more from [] living h e = (let n : living.number ≡ from = omega arith in n, tt)
numbered-more from (first ∷ all) living h e = (h.0, numbered-more (from + 1) all living h.1 (omega arith))

pub numbered-ascend : {W : Type 0} (below from : ℕ) (all : List (Living W)) → below < from → AreNumbered from all → ascend below (rows_of all) ≡ true
numbered-ascend below from [] less h = refl
numbered-ascend below from (living ∷ all) less h =
    let above : below < living.number = let e = h.0 in omega arith in
    let next : living.number < from + 1 = let e = h.0 in omega arith in
    rw (lt-ltb below living.number above) (numbered-ascend living.number (from + 1) all next h.1)

-- one root more
opened-more : (bodies : List Body) (at : ℕ) (roots : List Root) (root : Root) (procs one : List Proc) → slice_get roots at ≡ Some root → one ≡ opened_one (at + 1) root.process root.actuals (slice_get bodies root.process) →
    (procs ++ one) ++ opened bodies (at + 1 + 1) (drop (at + 1) roots) ≡ procs ++ opened bodies (at + 1) (drop at roots)
opened-more bodies at roots root procs one here e =
    let within = slice_get_within roots at root here in
    let first : get_or roots at root ≡ root = let p : Some (get_or roots at root) ≡ Some root = sym (slice_get-get_or roots at root within) ∙ here in cc in
    let found : List Proc = opened_one (at + 1) root.process root.actuals (slice_get bodies root.process) in
    let rest : List Proc = opened bodies (at + 1 + 1) (drop (at + 1) roots) in
    let split : drop at roots ≡ root ∷ drop (at + 1) roots = drop_more roots at root within ∙ ap (λ r. r ∷ drop (at + 1) roots) first in
    ap (λ ps. (procs ++ ps) ++ rest) e ∙ append_assoc procs found rest ∙ ap (λ (rs : List Root). procs ++ opened bodies (at + 1) rs) (sym split)

-- what a program's range says of its roots
all-at : {A : Type 0} (p : A → Bool) (xs : List A) (n : ℕ) (x : A) → list_all p xs ≡ true → slice_get xs n ≡ Some x → p x ≡ true
all-at p [] n x h e = absurd (none-some x e)
all-at p (first ∷ xs) zero x h e =
    let same : first ≡ x = let q : Some first ≡ Some x = e in cc in
    ap p (sym same) ∙ (and_parts (p first) (list_all p xs) h).0
all-at p (first ∷ xs) (suc n) x h e = all-at p xs n x (and_parts (p first) (list_all p xs) h).1 e

-- the actuals of a root fit the formals of its body
starts-fits : (found : Option Body) (actuals : List Term) → starts found actuals ≡ true → fits_formals found actuals ≡ true
starts-fits None actuals h = absurd (false≢true h)
starts-fits (Some body) actuals h = (and_parts (length actuals == body.formals && have_sorts body.sorts actuals) (list_all is_within_limits actuals) h).0

pub root-fits : (bodies : List Body) (roots : List Root) (tools : List Tool) (at : ℕ) (root : Root) → is_program_in_range bodies roots tools ≡ true → slice_get roots at ≡ Some root → fits_formals (slice_get bodies root.process) root.actuals ≡ true
unfolding is_program_in_range
root-fits bodies roots tools at root h here =
    let parts = and_parts (list_all (is_body_in_program bodies tools) bodies && nat_le (length roots) 10000) (list_all (is_root_in_range bodies) roots) h in
    starts-fits (slice_get bodies root.process) root.actuals (all-at (is_root_in_range bodies) roots at root parts.1 here)

pub few-roots : (bodies : List Body) (roots : List Root) (tools : List Tool) → is_program_in_range bodies roots tools ≡ true → length roots ≤ 10000
unfolding is_program_in_range
few-roots bodies roots tools h =
    let parts = and_parts (list_all (is_body_in_program bodies tools) bodies && nat_le (length roots) 10000) (list_all (is_root_in_range bodies) roots) h in
    leb-true (length roots) 10000 (and_parts (list_all (is_body_in_program bodies tools) bodies) (nat_le (length roots) 10000) parts.0).1

-- reading

-- what was read at an index, or a copy of it
pub read-at : {A : Type 0} (xs read : List A) (i : ℕ) (x y : A) → read ≡ xs → i < length xs → x ≡ get_or read i x → y ≡ x → slice_get xs i ≡ Some y
read-at xs read i x y e within is f = slice_get_read xs (length xs) i x refl within (is ∙ ap (λ zs. get_or zs i x) e) ∙ ap Some (sym f)

-- a body whose formals are fitted is there, and so is its plan
pub record IsPlanned {P : Type 0} (body_of : P → Body) (bodies : List Body) (plans : List P) (process : ℕ) : Type 0 where
  pub body : Body
  pub plan : P
  pub there : slice_get bodies process ≡ Some body
  pub planned : slice_get plans process ≡ Some plan
  pub same : body_of plan ≡ body

planned-from : {P : Type 0} (body_of : P → Body) (bodies : List Body) (plans : List P) (process : ℕ) (body : Body) (found : Option P) → slice_get bodies process ≡ Some body → option_map body_of found ≡ Some body → slice_get plans process ≡ found → IsPlanned body_of bodies plans process
planned-from body_of bodies plans process body None there e f = cc
planned-from body_of bodies plans process body (Some plan) there e f = record { body = body; plan = plan; there = there; planned = f; same = same_Some (body_of plan) body e }

planned-by : {P : Type 0} (body_of : P → Body) (bodies : List Body) (plans : List P) (process : ℕ) (actuals : List Term) (found : Option Body) → map body_of plans ≡ bodies → slice_get bodies process ≡ found → fits_formals found actuals ≡ true → IsPlanned body_of bodies plans process
planned-by body_of bodies plans process actuals None e there h = absurd (false≢true h)
planned-by body_of bodies plans process actuals (Some body) e there h =
    planned-from body_of bodies plans process body (slice_get plans process) there (sym (slice_get-map body_of plans process) ∙ ap (λ (bs : List Body). slice_get bs process) e ∙ there) refl

pub planned-fits : {P : Type 0} (body_of : P → Body) (bodies : List Body) (plans : List P) (process : ℕ) (actuals : List Term) → map body_of plans ≡ bodies → fits_formals (slice_get bodies process) actuals ≡ true → IsPlanned body_of bodies plans process
planned-fits body_of bodies plans process actuals e h = planned-by body_of bodies plans process actuals (slice_get bodies process) e refl h

-- the process of one root

sorts-values : (store : List Slot) (slot : ℕ) (terms : List Term) → sorts_of (with_values store slot terms) ≡ sorts_of store
sorts-values store slot [] = refl
sorts-values store slot (term ∷ terms) = sorts-values (with_value store slot term) (slot + 1) terms ∙ sorts-with_value store slot term

pub sorts-opening : (body : Body) (terms : List Term) → sorts_of (opening_store body terms) ≡ body.sorts
sorts-opening body terms = sorts-values (map fresh_slot body.sorts) 0 terms ∙ sorts-fresh body.sorts

pub proc-opened : {W P T : Type 0} (view : View P W T) (plans : List P) (bodies : List Body) (plan : P) (body : Body) (number process : ℕ) (actuals : List Term) (living : Living W) →
    slice_get plans process ≡ Some plan → slice_get bodies process ≡ Some body → view.body_of plan ≡ body → Begins view plan number process (opening_store body actuals) living →
    procs_of view plans (living ∷ []) ≡ opened_one number process actuals (slice_get bodies process)
proc-opened view plans bodies plan body number process actuals living planned there same begins =
    let store = opening_store body actuals in
    ap (λ o. proc_by view o living ∷ []) (ap (slice_get plans) begins.body ∙ planned)
    ∙ ap (λ (v : Walking). proc_of living v ∷ []) (begins.walking ∙ ap (λ (b : Body). entering b store) same)
    ∙ ap (λ (n : ℕ). let p : Proc = record { number = n; body = living.body; term = fresh body.tree; store = store; inbox = living.inbox.held } in p ∷ []) begins.number
    ∙ ap (λ (b : ℕ). let p : Proc = record { number = number; body = b; term = fresh body.tree; store = store; inbox = living.inbox.held } in p ∷ []) begins.body
    ∙ ap (λ (i : Held). let p : Proc = record { number = number; body = process; term = fresh body.tree; store = store; inbox = i } in p ∷ []) begins.inbox
    ∙ sym (ap (opened_one number process actuals) there)

-- a process that enters its body lives, and isn't looked at yet
pub entered-live : {W P T : Type 0} (view : View P W T) (plan : P) (store : List Slot) (living : Living W) → view.is_on plan living.walker →
    view.walking plan living.walker ≡ entering (view.body_of plan) store → sorts_of store ≡ (view.body_of plan).sorts → living.fresh ≡ false → (now : ℕ) → IsLiveOn view plan now living
entered-live view plan store living on goes sorts stale now = record {
  is_on = on;
  alive = ap (λ (v : Walking). is_end v.term) goes;
  sorts = ap (λ (v : Walking). sorts_of v.store) goes ∙ sorts;
  ticks = (let e : (view.walking plan living.walker).ticks ≡ 0 = ap (λ (v : Walking). v.ticks) goes in omega arith);
  ready = λ fresh. absurd (false≢true (sym stale ∙ fresh));
}

-- the roots before an index are opened
pub record AreOpened {W P T : Type 0} (view : View P W T) (plans : List P) (bodies : List Body) (roots : List Root) (at : ℕ) (all : List (Living W)) : Type 0 where
  pub long : length all ≡ at
  pub numbered : AreNumbered 1 all
  pub live : All (IsLive view plans 0) all
  pub unmarked : All IsUnmarked all
  pub procs : procs_of view plans all ++ opened bodies (at + 1) (drop at roots) ≡ opened bodies 1 roots

-- and one more
pub opened-next : {W P T : Type 0} (view : View P W T) (plans : List P) (bodies : List Body) (roots : List Root) (at : ℕ) (all pushed : List (Living W)) (living : Living W) →
    AreOpened view plans bodies roots at all → at < length roots → living.number ≡ at + 1 → ((now : ℕ) → IsLive view plans now living) →
    ForSome (slice_get roots at) (λ root. procs_of view plans (living ∷ []) ≡ opened_one (at + 1) root.process root.actuals (slice_get bodies root.process)) → IsUnmarked living → pushed ≡ all ++ living ∷ [] →
    AreOpened view plans bodies roots (at + 1) pushed
opened-next {W = W} view plans bodies roots at all pushed living kept within number live procs unmarked e =
    let nothing : Root = record { process = 0; actuals = [] } in
    let root : Root = get_or roots at nothing in
    let here : slice_get roots at ≡ Some root = slice_get-get_or roots at nothing within in
    let next : living.number ≡ 1 + length all = let long = kept.long in omega arith in
    let rest : List Proc = opened bodies (at + 1 + 1) (drop (at + 1) roots) in
    record {
      long = ap (λ (xs : List (Living W)). length xs) e ∙ length_push all living ∙ ap (λ n. n + 1) kept.long;
      numbered = subst (AreNumbered 1) (sym e) (numbered-more 1 all living kept.numbered next);
      live = All-same (IsLive view plans 0) pushed (all ++ living ∷ []) e (All-push (IsLive view plans 0) all living kept.live (live 0));
      unmarked = All-same IsUnmarked pushed (all ++ living ∷ []) e (All-push IsUnmarked all living kept.unmarked unmarked);
      procs = ap (λ xs. procs_of view plans xs ++ rest) e
          ∙ ap (λ ps. ps ++ rest) (map-append (proc_in view plans) all (living ∷ []))
          ∙ opened-more bodies at roots root (procs_of view plans all) (procs_of view plans (living ∷ [])) here (procs root here)
          ∙ kept.procs;
    }

-- their numbers are below that of the next
numbered-below : {W : Type 0} (from many : ℕ) (all : List (Living W)) → AreNumbered from all → length all ≤ many → All (IsBelow (from + many)) all
numbered-below from many [] h le k d l = absurd (omega arith)
numbered-below from many (living ∷ all) h le zero d l = let e = h.0 in omega arith
numbered-below from many (living ∷ all) h le (suc k) d l =
    let few : length all ≤ many - 1 = omega arith in
    let below : (get_or all k d).number < from + 1 + (many - 1) = numbered-below (from + 1) (many - 1) all h.1 few k d (omega arith) in
    omega arith

pub opened-below : {W P T : Type 0} (view : View P W T) (plans : List P) (bodies : List Body) (roots : List Root) (at : ℕ) (all : List (Living W)) → AreOpened view plans bodies roots at all → at ≤ length roots → All (IsBelow (length roots + 1)) all
opened-below view plans bodies roots at all kept le =
    let long = kept.long in
    let next : 1 + length roots ≡ length roots + 1 = omega arith in
    subst (λ n. All (IsBelow n) all) next (numbered-below 1 (length roots) all kept.numbered (omega arith))

-- in the end all of them
pub opened-whole : {W P T : Type 0} (view : View P W T) (plans : List P) (bodies : List Body) (roots : List Root) (at : ℕ) (all : List (Living W)) →
    AreOpened view plans bodies roots at all → length roots ≤ at → procs_of view plans all ≡ opened bodies 1 roots
opened-whole view plans bodies roots at all kept long =
    sym (ap (λ (rs : List Root). procs_of view plans all ++ opened bodies (at + 1) rs) (drop_all at roots long) ∙ append-nil (procs_of view plans all)) ∙ kept.procs

-- the number of each is among the numbers of all
pub all-named : {W : Type 0} (all seen : List (Living W)) (numbers : List ℕ) → seen ≡ all → numbers ≡ map (λ living. living.number) seen → All (IsFreshOr numbers) all
all-named {W = W} all seen numbers same named k d less =
    let number : Living W → ℕ = λ (living : Living W). living.number in
    let e : numbers ≡ map number all = named ∙ ap (map number) same in
    let long : length numbers ≡ length all = ap (λ (ns : List ℕ). length ns) e ∙ length-map all number in
    let here : get_or numbers k (number (get_or all k d)) ≡ number (get_or all k d) =
    ap (λ (ns : List ℕ). get_or ns k (number (get_or all k d))) e ∙ get_or-map number all k d (number (get_or all k d)) less in
    let within : k < length numbers = omega arith in
    inr (k, within, here)
