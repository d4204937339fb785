-- A walk starts, is looked at, goes on and ages.
use Rattle.std.proofs.Common.{◌≡◌, ℕ, zero, suc, ◌+◌, ◌-◌, ◌<◌, ◌≤◌, Bool, true, false, if◌then◌else◌, IsTrue, Option, Some, None, List, [], ◌∷◌, ◌++◌, map, length, slice_get, option_map, option_and_then, is_some, ◌↔◌, refl, ap, sym, subst, ◌∙◌, arith, ◌⊎◌, inl, inr}
use Rattle.std.specs.Option.{ForSome}
use Rattle.std.proofs.lemmas.Option.{slice_get-map, slice_get_within}
use Rattle.tb_func.specs.declared.slot.Slot.{Slot}
use Rattle.tb_body.specs.declared.atom.Atom.{Atom}
use Rattle.tb_process_steps.specs.Helpers.Selections.{selected_at}
use Rattle.tb_process_steps.specs.Processes.{Process, Par, Disrupt, fresh, aged}
use Rattle.tb_process_steps.specs.Helpers.Rewritings.{Kept, kept}
use Rattle.tb_process_steps.specs.Helpers.Runnings.{waited}
use Rattle.tb_process_steps.specs.Helpers.OfferViews.{OfferView, offer_view, or_own}
use Rattle.tb_process_steps.specs.Offers.{Offered}
use Rattle.tb_process_steps.specs.Walks.{Walking, offers_of, offers_of_term, entering, ticked, is_end, seen_offers}
use Rattle.tb_process_steps.specs.declared.offer.Offer.{Offer}
use Rattle.tb_process_steps.proofs.Ages.{fresh-new}
use Rattle.tb_process_steps.proofs.RewriterLemmas.{length-map, by_kept, inside}
use Rattle.tb_code.specs.Positions.{size, part}
use Rattle.tb_code.specs.declared.code.Code.{Code}
use Rattle.tb_code.proofs.Parts.{stands_whole}
use Rattle.tb_walk.specs.Helpers.Goings.{counted, row_sights}
use Rattle.tb_walk.specs.Lefts.{beside, left}
use Rattle.tb_walk.specs.Helpers.Reads.{branch, Reads, ended, waits, passes, follows, both, stands_until as until}
use Rattle.tb_walk.specs.Helpers.Partings.{GoesOn, branch_by}
use Rattle.tb_walk.specs.Helpers.Places.{outset_at, root_at}
use Rattle.tb_walk.specs.Helpers.Sights.{Sighting, offer_of, sighted, row_sightings}
use Rattle.tb_walk.specs.Helpers.Takings.{AreThere, IsInRow, Picks}
use Rattle.tb_walk.specs.WalkViews.{walking_of, seen_of, IsOnCode}
use Rattle.tb_walk.specs.declared.branch.Branch.{Branch}
use Rattle.tb_walk.specs.declared.sight.Sight.{Sight}
use Rattle.tb_walk.specs.declared.walk.Walk.{Walk}
use Rattle.tb_walk.proofs.LeftLemmas.{left-read}
use Rattle.tb_walk.proofs.Ranges.{InRange}
use Rattle.tb_walk.proofs.PickLemmas.{goes, seen-row, picks}
use Rattle.tb_walk.proofs.ReadLemmas.{in_range, ends_together, counts, seen_all}
use Rattle.tb_walk.proofs.SightLemmas.{seen_of as seen_of_sighting}

-- what is read is what is left
pub read_left : (ticks : ℕ) (whole : Process) (row : List Branch) (t : Option Process) → Reads ticks 0 whole row t → Reads ticks 0 whole row (left ticks row 0 whole)
read_left ticks whole row t r = subst (λ (o : Option Process). Reads ticks 0 whole row o) (sym (left-read ticks r)) r

-- starting

pub starts : (whole : Process) (row : List Branch) → row ≡ branch 0 0 ∷ [] → Reads 0 0 whole row (Some whole)
starts whole row e = subst (λ (l : List Branch). Reads 0 0 whole l (Some whole)) (sym e) (waits 0 (omega arith))

pub starts-on : (code : Code) (walk : Walk) → walk.row ≡ branch 0 0 ∷ [] → walk.ticks ≡ 0 → walk.fresh ≡ false → IsOnCode code walk
starts-on code walk e t f =
    let whole = fresh code.body.tree in
    record {
      reads = subst (λ (n : ℕ). Reads n 0 whole walk.row (left n walk.row 0 whole)) (sym t) (read_left 0 whole walk.row (Some whole) (starts whole walk.row e));
      found = λ (h : walk.fresh ≡ true). (let no : true ≡ false = sym h ∙ f in cc);
    }

pub starts-as : (code : Code) (row : List Branch) (store : List Slot) → row ≡ branch 0 0 ∷ [] → ◌≡◌ {A = Walking} (record { term = left 0 row 0 (fresh code.body.tree); store = store; ticks = 0 }) (entering code.body store)
starts-as code row store e =
    ap (λ (term : Option Process). let walking : Walking = record { term = term; store = store; ticks = 0 } in walking) (left-read 0 (starts (fresh code.body.tree) row e))

-- the branches of a row that is read are there

pub range_at : (low high : ℕ) (row : List Branch) (i : ℕ) (b : Branch) → InRange low high row → slice_get row i ≡ Some b → (low ≤ b.position) × (b.position < high)
range_at low high [] i b r e = (let t : ◌≡◌ {A = Option Branch} None (Some b) = e in cc)
range_at low high (c ∷ row) zero b r e = (let same : c ≡ b = (let t : ◌≡◌ {A = Option Branch} (Some c) (Some b) = e in cc) in subst (λ (d : Branch). (low ≤ d.position) × (d.position < high)) same r.0)
range_at low high (c ∷ row) (suc i) b r e = range_at low high row i b r.1 e

get_two : (l r : List Branch) (i : ℕ) (b : Branch) (P : Branch → Type 0) → ((j : ℕ) (c : Branch) → slice_get l j ≡ Some c → P c) → ((j : ℕ) (c : Branch) → slice_get r j ≡ Some c → P c) → slice_get (l ++ r) i ≡ Some b → P b
get_two [] r i b P f g e = g i b e
get_two (c ∷ l) r zero b P f g e = f zero b e
get_two (c ∷ l) r (suc i) b P f g e = get_two l r i b P (λ j d h. f (suc j) d h) g e

one_entered : (ticks at entered : ℕ) → entered ≤ ticks → (i : ℕ) (b : Branch) → slice_get (branch at entered ∷ []) i ≡ Some b → b.entered ≤ ticks
one_entered ticks at entered h zero b e = (let same : branch at entered ≡ b = (let t : ◌≡◌ {A = Option Branch} (Some (branch at entered)) (Some b) = e in cc) in subst (λ (d : Branch). d.entered ≤ ticks) same h)
one_entered ticks at entered h (suc i) b e = (let t : ◌≡◌ {A = Option Branch} None (Some b) = e in cc)

pub entered_by : (ticks : ℕ) {at : ℕ} {w : Process} {row : List Branch} {t : Option Process} → Reads ticks at w row t → (i : ℕ) (b : Branch) → slice_get row i ≡ Some b → b.entered ≤ ticks
entered_by ticks ended i b e = (let t : ◌≡◌ {A = Option Branch} None (Some b) = e in cc)
entered_by ticks (waits {at = at} entered h) i b e = one_entered ticks at entered h i b e
entered_by ticks (passes at-x x p r) i b e = entered_by ticks r i b e
entered_by ticks (follows x at-z z p r) i b e = entered_by ticks r i b e
entered_by ticks (both {one = one-row} {other = other-row} r s) i b e = get_two one-row other-row i b (λ c. c.entered ≤ ticks) (λ j c h. entered_by ticks r j c h) (λ j c h. entered_by ticks s j c h) e
entered_by ticks (until {at = at} {x = x} {y = y} {row = row} {r = r} entered h k) i b e =
    get_two row (branch (suc at + size x) entered ∷ []) i b (λ c. c.entered ≤ ticks) (λ j c g. entered_by ticks k j c g)
    (λ j c g. one_entered ticks (suc at + size x) entered h j c g) e

pub are_there : (ticks : ℕ) (whole : Process) (row : List Branch) (t : Option Process) → Reads ticks 0 whole row t → AreThere whole ticks row
are_there ticks whole row t r i b e =
    let range = (range_at 0 (0 + size whole) row i b (in_range ticks r) e).1 in
    (omega arith, entered_by ticks r i b e)

-- what is seen, and how many

pub sees : (atoms : List Atom) (now : ℕ) (code : Code) (walk : Walk) → IsOnCode code walk → row_sights (fresh code.body.tree) atoms now walk.ticks walk.store walk.row ≡ map (offer_view atoms now) (offers_of (walking_of code walk))
unfolding offers_of
sees atoms now code walk on = sym (seen_all walk.ticks (fresh code.body.tree) atoms now walk.store None on.reads (stands_whole (fresh code.body.tree)))

none_spare : (spare : List Sight) → length spare ≡ 0 → spare ≡ []
none_spare [] h = refl
none_spare (one ∷ spare) h = absurd (omega arith)

-- what its branches offer, on a bus that has seen so many ticks
abbrev pub all_of : Code → Walk → ℕ → List Sighting
all_of code walk now = row_sightings (fresh code.body.tree) code.body.atoms now walk.ticks walk.store 0 walk.row

-- what a look found in spare memory that was empty
pub looked : (code : Code) (walk : Walk) (now : ℕ) (row : List Branch) (found kept_now : List Sight) → length walk.spare ≡ 0 → row ≡ walk.row →
    map (sighted walk.store) found ≡ map (sighted walk.store) walk.spare ++ row_sightings (fresh code.body.tree) code.body.atoms now walk.ticks walk.store 0 row →
    kept_now ≡ found → map (sighted walk.store) kept_now ≡ all_of code walk now
looked code walk now row found kept_now none same e is =
    ap (map (sighted walk.store)) is
    ∙ e
    ∙ ap (λ (l : List Sight). map (sighted walk.store) l ++ row_sightings (fresh code.body.tree) code.body.atoms now walk.ticks walk.store 0 row) (none_spare walk.spare none)
    ∙ ap (λ (r : List Branch). row_sightings (fresh code.body.tree) code.body.atoms now walk.ticks walk.store 0 r) same

-- the same in a list of its own
pub looked_anew : (code : Code) (walk : Walk) (now : ℕ) (row : List Branch) (old found : List Sight) → old ≡ [] → row ≡ walk.row →
    map (sighted walk.store) found ≡ map (sighted walk.store) old ++ row_sightings (fresh code.body.tree) code.body.atoms now walk.ticks walk.store 0 row → map (sighted walk.store) found ≡ all_of code walk now
looked_anew code walk now row old found none same e =
    e
    ∙ ap (λ (l : List Sight). map (sighted walk.store) l ++ row_sightings (fresh code.body.tree) code.body.atoms now walk.ticks walk.store 0 row) none
    ∙ ap (λ (r : List Branch). row_sightings (fresh code.body.tree) code.body.atoms now walk.ticks walk.store 0 r) same

-- two lists that are seen alike are seen alike by less

map_twice : {A B C : Type 0} (f : A → B) (g : B → C) (xs : List A) → map g (map f xs) ≡ map (λ x. g (f x)) xs
map_twice f g [] = refl
map_twice f g (x ∷ xs) = ap (λ rest. g (f x) ∷ rest) (map_twice f g xs)

abbrev view_of : List Slot → Sight → OfferView
view_of base sight = seen_of_sighting (sighted base sight)

abbrev offer_in : OfferView → Offer
offer_in view = record { atom = view.atom; age = view.age; ready = view.ready }

abbrev kept_in : OfferView → Kept
kept_in view = record { atom = view.atom; age = view.age; store = view.store }

abbrev pub kept_sight : List Slot → Sight → Kept
kept_sight base sight = record { atom = sight.atom; age = sight.age; store = or_own sight.own base }

module _ (code : Code) (walk : Walk) (on : IsOnCode code walk) (now : ℕ) (found : List Sight) (e : map (sighted walk.store) found ≡ all_of code walk now) where
  abbrev os : List Offered
  os = offers_of (walking_of code walk)

  viewed : map (view_of walk.store) found ≡ map (offer_view code.body.atoms now) os
  viewed =
      sym (map_twice (sighted walk.store) seen_of_sighting found)
      ∙ ap (map seen_of_sighting) e
      ∙ seen-row (fresh code.body.tree) (fresh-new code.body.tree) code.body.atoms now walk.ticks walk.store 0 walk.row
      ∙ sees code.body.atoms now code walk on

  viewed_less : {A : Type 0} (g : OfferView → A) → map (λ (s : Sight). g (view_of walk.store s)) found ≡ map (λ (o : Offered). g (offer_view code.body.atoms now o)) os
  viewed_less g = sym (map_twice (view_of walk.store) g found) ∙ ap (map g) viewed ∙ map_twice (offer_view code.body.atoms now) g os

  pub found_seen : map offer_of found ≡ seen_offers code.body.atoms now (walking_of code walk)
  found_seen = viewed_less offer_in

  found_kept : map (kept_sight walk.store) found ≡ map kept os
  found_kept = viewed_less kept_in

  pub found_length : length found ≡ length os
  found_length = sym (length-map (kept_sight walk.store) found) ∙ ap length found_kept ∙ length-map kept os

  pub kept_at : (k : ℕ) → option_map (kept_sight walk.store) (slice_get found k) ≡ option_map kept (slice_get os k)
  kept_at k = sym (slice_get-map (kept_sight walk.store) found k) ∙ ap (λ (l : List Kept). slice_get l k) found_kept ∙ slice_get-map kept os k

  -- one was found where there is an offer
  pub one_found : (k : ℕ) → k < length os → (one : Sight) × (slice_get found k ≡ Some one)
  one_found k h = by_get (slice_get found k) refl
    where
      by_get : (got : Option Sight) → slice_get found k ≡ got → (one : Sight) × (slice_get found k ≡ Some one)
      by_get (Some one) g = (one, g)
      by_get None g = (let n = found_length in absurd (inside k found (omega arith) g))

  module _ (k : ℕ) (one : Sight) (g : slice_get found k ≡ Some one) where
    seen : slice_get (all_of code walk now) k ≡ Some (sighted walk.store one)
    seen = ap (λ (l : List Sighting). slice_get l k) (sym e) ∙ slice_get-map (sighted walk.store) found k ∙ ap (option_map (sighted walk.store)) g

    pub picked : (b : Branch) × ((slice_get walk.row one.branch ≡ Some b) × Picks (fresh code.body.tree) walk.ticks walk.row walk.store k one.branch (branch_by (fresh code.body.tree) walk.ticks b one.position) (or_own one.own walk.store))
    picked =
        picks (fresh code.body.tree) (fresh-new code.body.tree) code.body.atoms now walk.ticks walk.store walk.row k (sighted walk.store one)
        (are_there walk.ticks (fresh code.body.tree) walk.row (left walk.ticks walk.row 0 (fresh code.body.tree)) on.reads)
        seen

    pub is_in_row : IsInRow (fresh code.body.tree) walk.row one
    is_in_row =
        let whole = fresh code.body.tree in
        let there = are_there walk.ticks whole walk.row (left walk.ticks walk.row 0 whole) on.reads in
        let g = goes whole (fresh-new code.body.tree) code.body.atoms now walk.ticks walk.store walk.row k (sighted walk.store one) seen in (
          slice_get_within walk.row one.branch picked.0 picked.1.0,
          λ b h. (
            (there one.branch b h).0,
            (let same : g.0 ≡ b = (let t : ◌≡◌ {A = Option Branch} (Some g.0) (Some b) = sym g.1.0 ∙ h in cc) in
                subst (λ (c : Branch). GoesOn (root_at whole c.position) (part whole c.position) one.position (outset_at whole c.position) one.behind) same g.1.1),
          ),
        )

pub count_of : (code : Code) (walk : Walk) → IsOnCode code walk → length (offers_of (walking_of code walk)) ≡ counted (fresh code.body.tree) walk.ticks walk.store walk.row
unfolding offers_of
count_of code walk on = counts walk.ticks (fresh code.body.tree) walk.store None on.reads (stands_whole (fresh code.body.tree))

pub hits_of : (code : Code) (walk : Walk) (k : ℕ) → selected_at k (offers_of (walking_of code walk)) ≡ selected_at k (offers_of_term (left walk.ticks walk.row 0 (fresh code.body.tree)) walk.store)
unfolding offers_of
hits_of code walk k = refl

-- ended exactly where the row is empty

ends-so : (row : List Branch) (t : Option Process) (b : Bool) → ((row ≡ []) × (t ≡ None)) ⊎ ((c : Branch) × ((rest : List Branch) × ((row ≡ c ∷ rest) × ((u : Process) × (t ≡ Some u))))) → (b ≡ true → row ≡ []) → (row ≡ [] → b ≡ true) → b ≡ is_end t
ends-so row t b (inl h) f g = g h.0 ∙ sym (ap is_end h.1)
ends-so row t true (inr h) f g = (let e : [] ≡ h.0 ∷ h.1.0 = sym (f refl) ∙ h.1.1.0 in cc)
ends-so row t false (inr h) f g = sym (ap is_end h.1.1.1.1)

pub ends_as : (ticks : ℕ) (whole : Process) (row : List Branch) (t : Option Process) (b : Bool) → Reads ticks 0 whole row t → (b ≡ true → row ≡ []) → (row ≡ [] → b ≡ true) → b ≡ is_end t
ends_as ticks whole row t b r f g = ends-so row t b (ends_together ticks r) f g

pub is_done_as : (code : Code) (walk : Walk) (b : Bool) → IsOnCode code walk → IsTrue b ↔ (walk.row ≡ []) → b ≡ is_end (left walk.ticks walk.row 0 (fresh code.body.tree))
is_done_as code walk b on h = ends_as walk.ticks (fresh code.body.tree) walk.row (left walk.ticks walk.row 0 (fresh code.body.tree)) b on.reads (λ e. h.0 e) (λ e. h.1 e)

empty-iff : (row : List Branch) (t : Option Process) → ((row ≡ []) × (t ≡ None)) ⊎ ((c : Branch) × ((rest : List Branch) × ((row ≡ c ∷ rest) × ((u : Process) × (t ≡ Some u))))) → (row ≡ []) ↔ (t ≡ None)
empty-iff row t (inl h) = (λ e. h.1, λ e. h.0)
empty-iff row t (inr h) = (λ e. (let no : [] ≡ h.0 ∷ h.1.0 = sym e ∙ h.1.1.0 in cc), λ e. (let no : ◌≡◌ {A = Option Process} None (Some h.1.1.1.0) = sym e ∙ h.1.1.1.1 in cc))

pub end_together : (code : Code) (walk : Walk) → IsOnCode code walk → (walk.row ≡ []) ↔ ((walking_of code walk).term ≡ None)
end_together code walk on = empty-iff walk.row (left walk.ticks walk.row 0 (fresh code.body.tree)) (ends_together walk.ticks on.reads)

-- a tick later

aged-beside : (s t : Option Process) → option_map aged (beside s t) ≡ beside (option_map aged s) (option_map aged t)
aged-beside None t = refl
aged-beside (Some x) None = refl
aged-beside (Some x) (Some y) = refl

pub reads_later : (ticks : ℕ) {at : ℕ} {w : Process} {row : List Branch} {t : Option Process} → Reads ticks at w row t → Reads (ticks + 1) at w row (option_map aged t)
reads_later ticks ended = ended
reads_later ticks (waits {at = at} {term = w} entered h) =
    let e : ticks + 1 - entered ≡ suc (ticks - entered) = omega arith in
    subst (λ (n : ℕ). Reads (ticks + 1) at w (branch at entered ∷ []) (Some (waited n w))) e (waits entered (omega arith))
reads_later ticks (passes at-x x p r) = passes at-x x p (reads_later ticks r)
reads_later ticks (follows x at-z z p r) = follows x at-z z p (reads_later ticks r)
reads_later ticks (both {at = at} {x = x} {y = y} {one = one-row} {other = other-row} {s = s} {t = t} r q) =
    subst (λ (o : Option Process). Reads (ticks + 1) at (Par x y) (one-row ++ other-row) o) (sym (aged-beside s t)) (both (reads_later ticks r) (reads_later ticks q))
reads_later ticks (until {at = at} {x = x} {y = y} {row = row} {r = r} entered h k) =
    let e : ticks + 1 - entered ≡ suc (ticks - entered) = omega arith in
    subst (λ (n : ℕ). Reads (ticks + 1) at (Disrupt x y) (row ++ branch (suc at + size x) entered ∷ []) (Some (Disrupt (aged r) (waited n y)))) e (until entered (omega arith) (reads_later ticks k))

pub walking-ticked : (code : Code) (walk : Walk) (fresh_then : Bool) → IsOnCode code walk → walking_of code (record walk { ticks = walk.ticks + 1; fresh = fresh_then }) ≡ ticked (walking_of code walk)
walking-ticked code walk fresh_then on =
    ap (λ (term : Option Process). let walking : Walking = record { term = term; store = walk.store; ticks = walk.ticks + 1 } in walking) (left-read (walk.ticks + 1) (reads_later walk.ticks on.reads))

-- what was found at a position

pub is_fresh : (fresh : Bool) (found : List Sight) → IsTrue (is_some (if fresh then Some (map offer_of found) else None)) → fresh ≡ true
is_fresh true found h = refl
is_fresh false found h = cc

pub by_found : {B : Type 0} (g : Kept → Option B) (code : Code) (walk : Walk) (k : ℕ) (found : Sight) → IsOnCode code walk → IsTrue (is_some (seen_of walk)) → slice_get walk.found k ≡ Some found → option_and_then (λ offered. g (kept offered)) (slice_get (offers_of (walking_of code walk)) k) ≡ g (kept_sight walk.store found)
by_found g code walk k found on fresh h =
    let os = offers_of (walking_of code walk) in
    let all = on.found (is_fresh walk.fresh walk.found fresh) in
    by_kept g (slice_get os k) (kept_sight walk.store found) (sym (ap (option_map (kept_sight walk.store)) h) ∙ kept_at code walk on all.0 walk.found all.1 k)

pub is_found : (walk : Walk) (k : ℕ) → IsTrue (is_some (seen_of walk)) → ForSome (seen_of walk) (λ seen. k < length seen) → slice_get walk.found k ≡ None → ⊥
is_found walk k fresh within e =
    let is = is_fresh walk.fresh walk.found fresh in
    let seen : seen_of walk ≡ Some (map offer_of walk.found) = ap (λ (b : Bool). if b then Some (map offer_of walk.found) else None) is in
    let less = within (map offer_of walk.found) seen in
    let one = length-map offer_of walk.found in
    inside k walk.found (omega arith) e
