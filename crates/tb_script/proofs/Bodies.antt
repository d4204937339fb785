-- Bodies, one after the other, and the first process whose expansion is too large.
use Rattle.std.proofs.Common.{◌≡◌, ℕ, zero, suc, ◌+◌, ◌<◌, Bool, true, false, List, [], ◌∷◌, ◌++◌, length, get_or, take, drop, Err, Option, Some, None, find, option_map, refl, sym, ap, subst, ◌∙◌, arith}
use Rattle.std.specs.List.{AllZip}
use Rattle.std.specs.Option.{option_or}
use Rattle.std.specs.Prelude.{slice_get, if◌then◌else◌}
use Rattle.std.proofs.lemmas.List.{take_more}
use Rattle.std.proofs.lemmas.List.Folds.{find-append}
use Rattle.std.proofs.lemmas.Option.{none-some, same_Some}
use Rattle.tb_body.specs.declared.body.Body.{Body}
use Rattle.tb_syntax.specs.declared.script.ProcDef.{ProcDef}
use Rattle.tb_syntax.specs.declared.script.Script.{Script}
use Rattle.tb_expand.specs.Expansion.{expansion_of, is_too_large}
use Rattle.tb_expand.specs.declared.fault.ExpandFault.{ExpandFault}
use Rattle.tb_expand.specs.declared.fault.ExpandFault.TheVariants as expand
use Rattle.tb_expand.specs.Faults.{HasNoCycle, IsExpansion, IsBodyOf, IsBodyFault}
use Rattle.tb_script.specs.Programs.{first_too_large}
use Rattle.tb_script.specs.Helpers.Making.{first_large_of, HasBodies, AreExpansions}

-- the element at a position within the list
pub standing : {A : Type 0} (xs : List A) (n : ℕ) → n < length xs → (x : A) × (slice_get xs n ≡ Some x)
standing [] n within = absurd (omega (arith, within))
standing (x ∷ xs) zero within = (x, refl)
standing (x ∷ xs) (suc n) within = standing xs n (omega (arith, within))

one_more : {A : Type 0} (xs : List A) (n : ℕ) (x : A) → slice_get xs n ≡ Some x → take (suc n) xs ≡ take n xs ++ x ∷ []
one_more [] n x e = absurd (none-some x e)
one_more (y ∷ xs) zero x e = let same : y ≡ x = cc in ap (λ z. z ∷ []) same
one_more (y ∷ xs) (suc n) x e = ap (λ ys. y ∷ ys) (one_more xs n x e)

the_rest : {A : Type 0} (xs : List A) (n : ℕ) (x : A) → slice_get xs n ≡ Some x → xs ≡ take n xs ++ x ∷ drop (suc n) xs
the_rest [] n x e = absurd (none-some x e)
the_rest (y ∷ xs) zero x e = let same : y ≡ x = cc in ap (λ z. z ∷ xs) same
the_rest (y ∷ xs) (suc n) x e = ap (λ ys. y ∷ ys) (the_rest xs n x e)

next : {A : Type 0} (xs : List A) (n : ℕ) → take (n + 1) xs ≡ take (suc n) xs
next xs n = let e : n + 1 ≡ suc n = omega arith in ap (λ k. take k xs) e

zip_more : {A B : Type 0} (R : A → B → Type 0) (xs : List A) (ys : List B) (x : A) (y : B) → AllZip R xs ys → R x y → AllZip R (xs ++ x ∷ []) (ys ++ y ∷ [])
zip_more R [] [] x y zip h = (h, tt)
zip_more R [] (b ∷ ys) x y zip h = absurd zip
zip_more R (a ∷ xs) [] x y zip h = absurd zip
zip_more R (a ∷ xs) (b ∷ ys) x y zip h = (zip.0, zip_more R xs ys x y zip.1 h)

-- one more pair, with the element that was read
pub zip_take_more : {A B : Type 0} (R : A → B → Type 0) (xs : List A) (i : ℕ) (x : A) (ys new : List B) (y : B) → i < length xs → x ≡ get_or xs i x → AllZip R (take i xs) ys → R x y → new ≡ ys ++ y ∷ [] → AllZip R (take (i + 1) xs) new
zip_take_more R xs i x ys new y within read all here pushed =
    let longer : take (i + 1) xs ≡ take i xs ++ x ∷ [] = take_more xs i x within ∙ ap (λ z. take i xs ++ z ∷ []) (sym read) in
    subst (λ zs. AllZip R zs new) (sym longer) (subst (AllZip R (take i xs ++ x ∷ [])) (sym pushed) (zip_more R (take i xs) ys x y all here))

abbrev is_large : Script → ProcDef → Bool
is_large script d = is_too_large (expansion_of script d)

abbrev name_of : ProcDef → List ℕ
name_of d = d.name

none_named : (found : Option ProcDef) → option_map name_of found ≡ None → found ≡ None
none_named None e = refl
none_named (Some d) e = absurd cc

found_alone : (script : Script) (d : ProcDef) (large : Bool) → is_large script d ≡ large → find (is_large script) (d ∷ []) ≡ (if large then Some d else None)
found_alone script d large e = ap (λ (b : Bool). if b then Some d else None) e

found_first : (script : Script) (d : ProcDef) (ds : List ProcDef) → is_large script d ≡ true → find (is_large script) (d ∷ ds) ≡ Some d
found_first script d ds e = ap (λ (b : Bool). if b then Some d else find (is_large script) ds) e

small_more : (script : Script) (ds : List ProcDef) (d : ProcDef) → first_large_of script ds ≡ None → is_large script d ≡ false → first_large_of script (ds ++ d ∷ []) ≡ None
small_more script ds d none small =
    ap (option_map name_of)
    (find-append (is_large script) ds (d ∷ [])
    ∙ ap (λ o. option_or o (find (is_large script) (d ∷ []))) (none_named (find (is_large script) ds) none)
    ∙ found_alone script d false small)

-- the first bodies, none of whose expansions is too large
pub record AreFirst (script : Script) (ds : List ProcDef) (bodies : List Body) : Type 0 where
  pub bodies_are : AllZip (IsExpansion script) ds bodies
  pub small : first_large_of script ds ≡ None

pub no_bodies : (script : Script) → AreFirst script [] []
no_bodies script = record { bodies_are = tt; small = refl }

pub more_bodies : (script : Script) (bodies : List Body) (body : Body) (position : ℕ) → position < length script.procs → AreFirst script (take position script.procs) bodies
    → ((d : ProcDef) → slice_get script.procs position ≡ Some d → IsBodyOf script d body)
    → AreFirst script (take (position + 1) script.procs) (bodies ++ body ∷ [])
more_bodies script bodies body position within first is =
    let at = standing script.procs position within in
    let b = is at.0 at.1 in
    let prefix : take (position + 1) script.procs ≡ take position script.procs ++ at.0 ∷ [] = next script.procs position ∙ one_more script.procs position at.0 at.1 in
    subst (λ ds. AreFirst script ds (bodies ++ body ∷ [])) (sym prefix)
    (record {
      bodies_are = zip_more (IsExpansion script) (take position script.procs) bodies at.0 body first.bodies_are b.is;
      small = small_more script (take position script.procs) at.0 first.small b.small;
    })

-- one more process that has a body
pub bodies_further : (script : Script) (position : ℕ) → position < length script.procs → (bodies : List Body) × AreFirst script (take position script.procs) bodies
    → ((d : ProcDef) → slice_get script.procs position ≡ Some d → (body : Body) × IsBodyOf script d body)
    → (bodies : List Body) × AreFirst script (take (position + 1) script.procs) bodies
bodies_further script position within first has =
    let at = standing script.procs position within in
    let made = has at.0 at.1 in
    let is : (d : ProcDef) → slice_get script.procs position ≡ Some d → IsBodyOf script d made.0
    = λ d e. subst (λ (x : ProcDef). IsBodyOf script x made.0) (same_Some at.0 d (sym at.1 ∙ e)) made.1 in
    (first.0 ++ made.0 ∷ [], more_bodies script first.0 made.0 position within first.1 is)

-- this process is the first one whose expansion is too large
pub large_behind : (script : Script) (bodies : List Body) (d : ProcDef) (position : ℕ) → slice_get script.procs position ≡ Some d → AreFirst script (take position script.procs) bodies
    → is_too_large (expansion_of script d) ≡ true → first_too_large script ≡ Some d.name
large_behind script bodies d position at first large =
    let prefix = take position script.procs in
    let behind = drop (suc position) script.procs in
    ap (λ ds. option_map name_of (find (is_large script) ds)) (the_rest script.procs position d at)
    ∙ ap (option_map name_of)
    (find-append (is_large script) prefix (d ∷ behind)
    ∙ ap (λ o. option_or o (find (is_large script) (d ∷ behind))) (none_named (find (is_large script) prefix) first.small)
    ∙ found_first script d behind large)

-- the body at this position has an error
pub body_failed : (script : Script) (bodies : List Body) (position : ℕ) (f : ExpandFault) → HasNoCycle script → position < length script.procs → AreFirst script (take position script.procs) bodies
    → ((d : ProcDef) → slice_get script.procs position ≡ Some d → IsBodyFault script d f) → HasBodies script (Err f)
body_failed script bodies position (expand.Recursion names) no_cycle within first is =
    let at = standing script.procs position within in
    absurd (is at.0 at.1)
body_failed script bodies position (expand.TooLarge name) no_cycle within first is =
    let at = standing script.procs position within in
    let large = is at.0 at.1 in
    record { no_cycle = no_cycle; first = large_behind script bodies at.0 position at.1 first large.large ∙ ap (λ (n : List ℕ). Some n) (sym large.named) }
body_failed script bodies position expand.NoMemory no_cycle within first is = tt

all_taken : {A : Type 0} (xs : List A) → take (length xs) xs ≡ xs
all_taken [] = refl
all_taken (x ∷ xs) = ap (λ ys. x ∷ ys) (all_taken xs)

whole : {A : Type 0} (xs : List A) (n : ℕ) → n ≡ length xs → take n xs ≡ xs
whole xs n e = ap (λ k. take k xs) e ∙ all_taken xs

-- all bodies are made
pub all_made : (script : Script) (bodies : List Body) (position : ℕ) → HasNoCycle script → position ≡ length script.procs → AreFirst script (take position script.procs) bodies → AreExpansions script bodies
all_made script bodies position no_cycle e first =
    let f = subst (λ ds. AreFirst script ds bodies) (whole script.procs position e) first in
    record { no_cycle = no_cycle; small = f.small; bodies_are = f.bodies_are }
