-- The element at an index of a list, and the facts about the running process at an index.
use Rattle.std.proofs.Common.{◌≡◌, ℕ, ◌<◌, zero, suc, List, [], ◌∷◌, length, map, refl, ap, sym, subst, ◌∙◌, arith, Option, Some, None, true, slice_get, get_or, option_map, Result, Ok, Err, OnOk, OnErr}
use Rattle.std.proofs.lemmas.Option.{get_or_from_slice_get, slice_get-get_or, slice_get_within, slice_get-map}
use Rattle.tb_body.specs.declared.body.Body.{Body}
use Rattle.tb_process_steps.specs.WalkerViews.{View}
use Rattle.tb_bus.specs.Buses.{atoms_of, atoms_in}
use Rattle.tb_search.specs.Candidates.{ascend, row_of, rows_of}
use Rattle.tb_search.specs.declared.living.Living.{Living}
use Rattle.tb_search.proofs.TurnLemmas.{ascend-first}
use Rattle.tb_living.specs.Lives.{proc_by, AreFresh}

-- what holds of all holds of the one there
pub all-there : {A : Type 0} (Q : A → Type 0) (xs : List A) (at : ℕ) (x : A) → ((k : ℕ) (d : A) → k < length xs → Q (get_or xs k d)) → slice_get xs at ≡ Some x → Q x
all-there Q xs at x h e = subst Q (get_or_from_slice_get xs at x x e) (h at x (slice_get_within xs at x e))

-- what a function gives for the one there stands there
pub map-there : {A B : Type 0} (f : A → B) (xs : List A) (at : ℕ) (x : A) (d : B) → slice_get xs at ≡ Some x → get_or (map f xs) at d ≡ f x
map-there f xs at x d e = get_or_from_slice_get (map f xs) at (f x) d (slice_get-map f xs at ∙ ap (option_map f) e)

-- what was read at an index stands there
pub read-there : {A : Type 0} (xs : List A) (at : ℕ) (x : A) → at < length xs → x ≡ get_or xs at x → slice_get xs at ≡ Some x
read-there xs at x within is = slice_get-get_or xs at x within ∙ ap Some (sym is)

-- and so does what is equal to it
pub read-through : {A : Type 0} (xs : List A) (at : ℕ) (x y : A) → x ≡ y → y ≡ get_or xs at y → x ≡ get_or xs at x
read-through xs at x y same is = subst (λ z. z ≡ get_or xs at z) (sym same) is

pub fresh-there : {W : Type 0} (all : List (Living W)) (at : ℕ) (living : Living W) → AreFresh all → slice_get all at ≡ Some living → living.fresh ≡ true
fresh-there all at living fresh here = all-there (λ living. living.fresh ≡ true) all at living fresh here

-- something stands at an index within
pub some-at : {A : Type 0} (xs : List A) (at : ℕ) → at < length xs → (x : A) × (slice_get xs at ≡ Some x)
some-at [] at l = absurd (omega arith)
some-at (x ∷ xs) zero l = (x, refl)
some-at (x ∷ xs) (suc at) l = some-at xs at (omega arith)

-- what holds whatever is answered
pub on-ok : {T E P : Type 0} (r : Result T E) → P → OnOk r P
on-ok (Ok x) p = p
on-ok (Err e) p = tt

pub on-err : {T E P : Type 0} (r : Result T E) → P → OnErr r P
on-err (Ok x) p = tt
on-err (Err e) p = p

-- an index into the plans, and into the bodies, whose plans they are
pub plan-within : {P : Type 0} (plans read : List P) (at : ℕ) (plan : P) → read ≡ plans → slice_get plans at ≡ Some plan → at < length read
plan-within plans read at plan e h = subst (λ (ps : List _). at < length ps) (sym e) (slice_get_within plans at plan h)

pub body-there : {P : Type 0} (body_of : P → Body) (plans : List P) (bodies : List Body) (at : ℕ) (plan : P) → map body_of plans ≡ bodies → slice_get plans at ≡ Some plan → slice_get bodies at ≡ Some (body_of plan)
body-there body_of plans bodies at plan e h = ap (λ bs. slice_get bs at) (sym e) ∙ slice_get-map body_of plans at ∙ ap (option_map body_of) h

pub body-within : {P : Type 0} (body_of : P → Body) (plans : List P) (bodies read : List Body) (at : ℕ) (plan : P) → map body_of plans ≡ bodies → read ≡ bodies → slice_get plans at ≡ Some plan → at < length read
body-within body_of plans bodies read at plan e f h = plan-within bodies read at (body_of plan) f (body-there body_of plans bodies at plan e h)

-- what is read at an index is what stands there
pub read-is : {A : Type 0} (xs read : List A) (at : ℕ) (x y : A) → read ≡ xs → slice_get xs at ≡ Some y → x ≡ get_or read at x → x ≡ y
read-is xs read at x y e h is = is ∙ ap (λ zs. get_or zs at x) e ∙ get_or_from_slice_get xs at y x h

pub body-is : {P : Type 0} (body_of : P → Body) (plans : List P) (bodies read : List Body) (at : ℕ) (plan : P) (body : Body) → map body_of plans ≡ bodies → read ≡ bodies → slice_get plans at ≡ Some plan →
    body ≡ get_or read at body → body ≡ body_of plan
body-is body_of plans bodies read at plan body e f h is = read-is bodies read at body (body_of plan) f (body-there body_of plans bodies at plan e h) is

-- the atoms of a body are those of its plan
pub plan-atoms : {P : Type 0} (body_of : P → Body) (plans : List P) (bodies : List Body) (at : ℕ) (plan : P) → map body_of plans ≡ bodies → slice_get plans at ≡ Some plan → atoms_of bodies at ≡ (body_of plan).atoms
plan-atoms body_of plans bodies at plan e h = ap atoms_in (body-there body_of plans bodies at plan e h)

-- numbers

pub proc-number : {W P T : Type 0} (view : View P W T) (plan : Option P) (living : Living W) → (proc_by view plan living).number ≡ living.number
proc-number view None living = refl
proc-number view (Some plan) living = refl

-- each number is above the bound
pub above-there : {W : Type 0} (below : ℕ) (all : List (Living W)) (at : ℕ) (living : Living W) → ascend below (rows_of all) ≡ true → slice_get all at ≡ Some living → below < living.number
above-there below [] at living h here = cc
above-there below (first ∷ all) zero living h here =
    let same : first ≡ living = cc in
    let t = ascend-first below (row_of first) (rows_of all) h in
    subst (λ (l : Living _). below < l.number) same t.0
above-there below (first ∷ all) (suc at) living h here =
    let t = ascend-first below (row_of first) (rows_of all) h in
    let above = above-there first.number all at living t.1 here in
    omega arith
