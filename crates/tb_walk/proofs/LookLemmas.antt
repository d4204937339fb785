-- What is seen of the part at a position, and where its parts stand, as the code names them.
use Rattle.std.proofs.Common.{◌≡◌, ◌==◌, ℕ, suc, ◌+◌, ◌-◌, ◌<◌, ◌≤◌, Bool, true, false, List, [], ◌∷◌, ◌++◌, Option, Some, None, refl, ap, sym, subst, ◌∙◌, arith, append_assoc, length, All, flat_map, map, drop, get_or}
use Rattle.std.proofs.lemmas.List.{append-nil, drop_more, drop_all}
use Rattle.std.proofs.lemmas.List.Concat.{flat_map-append}
use Rattle.std.proofs.lemmas.List.Elements.{All-append, All-cons, All-map, All-nil, All-weaker}
use Rattle.tb_terms.specs.declared.expr.Expr.{Expr}
use Rattle.tb_func.specs.declared.slot.Slot.{Slot}
use Rattle.tb_body.specs.declared.atom.Atom.{Atom}
use Rattle.tb_body.specs.declared.atom.Time.{Time}
use Rattle.tb_body.specs.declared.tree.Setting.{Setting}
use Rattle.tb_process_steps.specs.Atoms.{is_ready, times_of}
use Rattle.tb_process_steps.specs.Processes.{Process, At, Seq, Alt, Star, Par, Disrupt, If, When, Let}
use Rattle.tb_process_steps.specs.Settings.{tested, with_settings}
use Rattle.tb_code.specs.Entries.{all_led, entries_of, entry, followed, gate, is_timed, led, list_of, outset, what_by}
use Rattle.tb_code.specs.Positions.{size, part, table, op_at, root, is_wait, Begins, IsTwo, IsUntil, IsWait, IsOne}
use Rattle.tb_code.proofs.EntryLemmas.{followed-ended, outset_begins}
use Rattle.tb_code.proofs.Parts.{Stands, stands_first, stands_here, stands_second, stands_until, stands_behind, stands_begins, root_begins, root_at}
use Rattle.tb_code.proofs.Tables.{length-table}
use Rattle.tb_code.specs.declared.behind.Behind.{Behind}
use Rattle.tb_code.specs.declared.behind.Behind.TheVariants as behind
use Rattle.tb_code.specs.declared.entry.Entry.{Entry}
use Rattle.tb_code.specs.declared.node.Op.{Op}
use Rattle.tb_code.specs.declared.node.Op.TheVariants as op
use Rattle.tb_walk.specs.Helpers.Sights.{Sighting, entry_sightings, seen_by, Looking, sightings, sightings_at, sightings_if, sightings_after, sighting_at, branch_sightings, row_sightings}
use Rattle.tb_walk.specs.declared.branch.Branch.{Branch}

-- the part at a position stands behind the whole, and nearer to its end
abbrev pub IsNearer : Process → ℕ → ℕ → Type 0
IsNearer whole at position = (size whole - position < size whole - at) × (position < size whole)

-- where a part begins, what is seen at its position is what is seen of it
pub begun : (whole : Process) (by : Looking) (so_far : Behind) (position : ℕ) (store : List Slot) → Begins whole position → sightings_at whole by so_far position store ≡ sightings by so_far position (part whole position) store
begun whole by so_far position store b =
    ap (λ (o : Behind). sightings by (followed o so_far) (root (op_at whole position) position) (part whole position) store) (outset_begins (op_at whole position) b)
    ∙ ap (λ (n : ℕ). sightings by so_far n (part whole position) store) (root_begins (op_at whole position) position b)

pub begins_with : (whole : Process) (at : ℕ) (o : Op) → op_at whole at ≡ o → is_wait o ≡ false → Begins whole at
begins_with whole at o e f = ap is_wait e ∙ f

module _ (whole : Process) (at first : ℕ) (f : first ≡ suc at) where
  pub two_nearer : (make : Process → Process → Process) (right : ℕ) → IsTwo whole make at right → IsNearer whole at first × IsNearer whole at right
  two_nearer make right two =
      let a = two.first in
      let b = two.second in
      let c = two.behind in
      ((omega arith, omega arith), (omega arith, omega arith))

  pub one_nearer : (make : Process → Process) → IsOne whole make at → IsNearer whole at first
  one_nearer make one = (let a = one.first in (omega arith, omega arith))

  pub until_nearer : (waits : ℕ) → IsUntil whole at waits → IsNearer whole at first × IsNearer whole at (suc waits)
  until_nearer waits two =
      let a = two.first in
      let b = two.second in
      let c = two.behind in
      ((omega arith, omega arith), (omega arith, omega arith))

  pub wait_nearer : (disrupt : ℕ) → IsWait whole at disrupt → IsNearer whole at first
  wait_nearer disrupt one = (let a = one.first in (omega arith, omega arith))

  module _ (by : Looking) where
    abbrev pub seen_at : Behind → ℕ → List Slot → List Sighting
    seen_at so_far position store = sightings_at whole by so_far position store

    abbrev pub plain_at : Behind → ℕ → List Slot → List Sighting
    plain_at so_far position store = sightings by so_far position (part whole position) store

    pub look_atom : (so_far : Behind) (atom age : ℕ) (store : List Slot) → part whole at ≡ At atom age → plain_at so_far at store ≡ sighting_at by so_far at atom store ∷ []
    look_atom so_far atom age store e = ap (λ (p : Process). sightings by so_far at p store) e

    at-first : Begins whole (suc at) → (so_far : Behind) (store : List Slot) → plain_at so_far (suc at) store ≡ seen_at so_far first store
    at-first b so_far store = sym (begun whole by so_far (suc at) store b) ∙ ap (λ (p : ℕ). seen_at so_far p store) (sym f)

    at-right : (so_far : Behind) (make : Process → Process → Process) (right : ℕ) (store : List Slot) → (two : IsTwo whole make at right) → sightings by so_far (suc at + size (part whole (suc at))) (part whole right) store ≡ seen_at so_far right store
    at-right so_far make right store two = ap (λ (p : ℕ). sightings by so_far p (part whole right) store) (sym two.behind) ∙ sym (begun whole by so_far right store two.second_begins)

    in_order : (a b : Behind) (make : Process → Process → Process) (right : ℕ) (store : List Slot) → (two : IsTwo whole make at right) →
        plain_at a (suc at) store ++ sightings by b (suc at + size (part whole (suc at))) (part whole right) store ≡ seen_at a first store ++ seen_at b right store
    in_order a b make right store two = ap (λ (l : List Sighting). plain_at a (suc at) store ++ l) (at-right b make right store two) ∙ ap (λ (l : List Sighting). l ++ seen_at b right store) (at-first two.first_begins a store)

    pub look_seq : (so_far : Behind) (right : ℕ) (store : List Slot) → IsTwo whole Seq at right → plain_at so_far at store ≡ seen_at (followed (behind.Entered right) so_far) first store
    look_seq so_far right store two =
        ap (λ (p : Process). sightings by so_far at p store) two.here
        ∙ ap (λ (n : ℕ). plain_at (followed (behind.Entered n) so_far) (suc at) store) (sym two.behind)
        ∙ at-first two.first_begins (followed (behind.Entered right) so_far) store

    two_alike : (so_far a b : Behind) (make : Process → Process → Process) (right : ℕ) (store : List Slot) →
        ((x y : Process) → sightings by so_far at (make x y) store ≡ sightings by a (suc at) x store ++ sightings by b (suc at + size x) y store) → IsTwo whole make at right → plain_at so_far at store ≡ seen_at a first store ++ seen_at b right store
    two_alike so_far a b make right store each two = ap (λ (p : Process). sightings by so_far at p store) two.here ∙ each (part whole (suc at)) (part whole right) ∙ in_order a b make right store two

    pub look_alt : (so_far : Behind) (right : ℕ) (store : List Slot) → IsTwo whole Alt at right → plain_at so_far at store ≡ seen_at so_far first store ++ seen_at so_far right store
    look_alt so_far right store two = two_alike so_far so_far so_far Alt right store (λ x y. refl) two

    pub look_star : (so_far : Behind) (right : ℕ) (store : List Slot) → IsTwo whole Star at right → plain_at so_far at store ≡ seen_at (followed (behind.Entered at) so_far) first store ++ seen_at so_far right store
    look_star so_far right store two = two_alike so_far (followed (behind.Entered at) so_far) so_far Star right store (λ x y. refl) two

    pub look_par : (so_far : Behind) (right : ℕ) (store : List Slot) → IsTwo whole Par at right → plain_at so_far at store ≡ seen_at behind.Parted first store ++ seen_at behind.Parted right store
    look_par so_far right store two = two_alike so_far behind.Parted behind.Parted Par right store (λ x y. refl) two

    pub look_until : (so_far : Behind) (waits : ℕ) (store : List Slot) → IsUntil whole at waits → plain_at so_far at store ≡ seen_at behind.Parted first store ++ seen_at so_far (suc waits) store
    look_until so_far waits store two =
        ap (λ (p : Process). sightings by so_far at p store) two.here
        ∙ ap (λ (n : ℕ). plain_at behind.Parted (suc at) store ++ sightings by so_far (suc n) (part whole (suc waits)) store) (sym two.behind)
        ∙ ap (λ (l : List Sighting). plain_at behind.Parted (suc at) store ++ l) (sym (begun whole by so_far (suc waits) store two.second_begins))
        ∙ ap (λ (l : List Sighting). l ++ seen_at so_far (suc waits) store) (at-first two.first_begins behind.Parted store)

    pub look_wait : (so_far : Behind) (disrupt : ℕ) (store : List Slot) → op_at whole at ≡ op.Waits disrupt → IsWait whole at disrupt → seen_at so_far at store ≡ seen_at behind.Parted first store
    look_wait so_far disrupt store here one =
        ap (λ (o : Op). sightings by (followed (outset o) so_far) (root o at) (part whole at) store) here
        ∙ ap (λ (p : Process). sightings by behind.Parted (suc at) p store) one.here
        ∙ at-first one.first_begins behind.Parted store

    look_if : (so_far : Behind) (test : Expr) (right : ℕ) (store : List Slot) (says : Option Bool) → IsTwo whole (If test) at right → tested store test ≡ says → plain_at so_far at store ≡ sightings_if says (seen_at so_far first store) (seen_at so_far right store)
    look_if so_far test right store says two t =
        ap (λ (p : Process). sightings by so_far at p store) two.here
        ∙ ap (λ (o : Option Bool). sightings_if o (plain_at so_far (suc at) store) (sightings by so_far (suc at + size (part whole (suc at))) (part whole right) store)) t
        ∙ ap (λ (l : List Sighting). sightings_if says (plain_at so_far (suc at) store) l) (at-right so_far (If test) right store two)
        ∙ ap (λ (l : List Sighting). sightings_if says l (seen_at so_far right store)) (at-first two.first_begins so_far store)

    pub look_true : (so_far : Behind) (test : Expr) (right : ℕ) (store : List Slot) → IsTwo whole (If test) at right → tested store test ≡ Some true → plain_at so_far at store ≡ seen_at so_far first store
    look_true so_far test right store two t = look_if so_far test right store (Some true) two t

    pub look_false : (so_far : Behind) (test : Expr) (right : ℕ) (store : List Slot) → IsTwo whole (If test) at right → tested store test ≡ Some false → plain_at so_far at store ≡ seen_at so_far right store
    look_false so_far test right store two t = look_if so_far test right store (Some false) two t

    pub look_untold : (so_far : Behind) (test : Expr) (right : ℕ) (store : List Slot) → IsTwo whole (If test) at right → tested store test ≡ None → plain_at so_far at store ≡ []
    look_untold so_far test right store two t = look_if so_far test right store None two t

    look_one : (so_far : Behind) (test : Expr) (store : List Slot) (says : Option Bool) → IsOne whole (When test) at → tested store test ≡ says → plain_at so_far at store ≡ sightings_if says (seen_at so_far first store) []
    look_one so_far test store says one t =
        ap (λ (p : Process). sightings by so_far at p store) one.here
        ∙ ap (λ (o : Option Bool). sightings_if o (plain_at so_far (suc at) store) []) t
        ∙ ap (λ (l : List Sighting). sightings_if says l []) (at-first one.first_begins so_far store)

    pub look_when : (so_far : Behind) (test : Expr) (store : List Slot) → IsOne whole (When test) at → tested store test ≡ Some true → plain_at so_far at store ≡ seen_at so_far first store
    look_when so_far test store one t = look_one so_far test store (Some true) one t

    pub look_unless : (so_far : Behind) (test : Expr) (store : List Slot) → IsOne whole (When test) at → tested store test ≡ Some false → plain_at so_far at store ≡ []
    look_unless so_far test store one t = look_one so_far test store (Some false) one t

    pub look_unsaid : (so_far : Behind) (test : Expr) (store : List Slot) → IsOne whole (When test) at → tested store test ≡ None → plain_at so_far at store ≡ []
    look_unsaid so_far test store one t = look_one so_far test store None one t

    look_let : (so_far : Behind) (settings : List Setting) (store : List Slot) (after : Option (List Slot)) → IsOne whole (Let settings) at → with_settings store settings ≡ after → plain_at so_far at store ≡ sightings_after after (plain_at so_far (suc at))
    look_let so_far settings store after one t = ap (λ (p : Process). sightings by so_far at p store) one.here ∙ ap (λ (o : Option (List Slot)). sightings_after o (plain_at so_far (suc at))) t

    pub look_set : (so_far : Behind) (settings : List Setting) (store after : List Slot) → IsOne whole (Let settings) at → with_settings store settings ≡ Some after → plain_at so_far at store ≡ seen_at so_far first after
    look_set so_far settings store after one t = look_let so_far settings store (Some after) one t ∙ at-first one.first_begins so_far after

    pub look_unset : (so_far : Behind) (settings : List Setting) (store : List Slot) → IsOne whole (Let settings) at → with_settings store settings ≡ None → plain_at so_far at store ≡ []
    look_unset so_far settings store one t = look_let so_far settings store None one t

pub nothing_more : (xs ys : List Sighting) → ys ≡ [] → xs ≡ xs ++ ys
nothing_more xs ys e = sym (append-nil xs) ∙ ap (λ (l : List Sighting). xs ++ l) (sym e)

pub both_more : (old first new whole second : List Sighting) → first ≡ old ++ new → whole ≡ new ++ second → first ++ second ≡ old ++ whole
both_more old first new whole second e k =
    ap (λ (l : List Sighting). l ++ second) e ∙ append_assoc old new second ∙ ap (λ (l : List Sighting). old ++ l) (sym k)

-- a branch more

pub row_more : (whole : Process) (atoms : List Atom) (now ticks : ℕ) (store : List Slot) (row : List Branch) (at : ℕ) (d : Branch) (old middle all : List Sighting) → at < length row →
    middle ≡ old ++ branch_sightings whole atoms now ticks store at (get_or row at d) → old ++ row_sightings whole atoms now ticks store at (drop at row) ≡ all →
    middle ++ row_sightings whole atoms now ticks store (at + 1) (drop (at + 1) row) ≡ all
row_more whole atoms now ticks store row at d old middle all h e inv =
    let one : suc at ≡ at + 1 = omega arith in
    let first = branch_sightings whole atoms now ticks store at (get_or row at d) in
    let rest = drop (at + 1) row in
    ap (λ (l : List Sighting). l ++ row_sightings whole atoms now ticks store (at + 1) rest) e
    ∙ append_assoc old first (row_sightings whole atoms now ticks store (at + 1) rest)
    ∙ ap (λ (n : ℕ). old ++ (first ++ row_sightings whole atoms now ticks store n rest)) (sym one)
    ∙ ap (λ (l : List Branch). old ++ row_sightings whole atoms now ticks store at l) (sym (drop_more row at d h))
    ∙ inv

pub row_all : (whole : Process) (atoms : List Atom) (now ticks : ℕ) (store : List Slot) (row : List Branch) (at : ℕ) (found all : List Sighting) → length row ≤ at →
    found ++ row_sightings whole atoms now ticks store at (drop at row) ≡ all → found ≡ all
row_all whole atoms now ticks store row at found all h inv =
    sym (append-nil found) ∙ sym (ap (λ (l : List Branch). found ++ row_sightings whole atoms now ticks store at l) (drop_all at row h)) ∙ inv

-- a list shows what a look sees

pub some_listed : (list : List Entry) → (length list == 0) ≡ false → 0 < length list
some_listed [] h = (let no : true ≡ false = h in cc)
some_listed (entry ∷ list) h = omega arith

followed-twice : (a b c : Behind) → followed a (followed b c) ≡ followed (followed a b) c
followed-twice behind.Ended b c = refl
followed-twice (behind.Entered at) behind.Ended behind.Ended = refl
followed-twice (behind.Entered at) behind.Ended (behind.Entered next) = refl
followed-twice (behind.Entered at) behind.Ended behind.Parted = refl
followed-twice (behind.Entered at) (behind.Entered next) behind.Ended = refl
followed-twice (behind.Entered at) (behind.Entered next) (behind.Entered last) = refl
followed-twice (behind.Entered at) (behind.Entered next) behind.Parted = refl
followed-twice (behind.Entered at) behind.Parted c = refl
followed-twice behind.Parted b c = refl

module _ (whole : Process) (by : Looking) (store : List Slot) where
  abbrev listed_one : Behind → Entry → List Sighting
  listed_one so_far e = entry_sightings whole by store (led so_far e)

  abbrev listed_as : Behind → List Entry → List Sighting
  listed_as so_far list = flat_map (listed_one so_far) list

  led_all : (next so_far : Behind) (list : List Entry) → listed_as (followed next so_far) list ≡ listed_as so_far (map (led next) list)
  led_all next so_far [] = refl
  led_all next so_far (e ∷ list) =
      ap (λ (b : Behind). seen_by whole by store e.position b e.what ++ listed_as (followed next so_far) list) (followed-twice e.behind next so_far)
      ∙ ap (λ (rest : List Sighting). listed_one so_far (led next e) ++ rest) (led_all next so_far list)

  alike : (list : List Entry) → listed_as behind.Ended list ≡ flat_map (entry_sightings whole by store) list
  alike [] = refl
  alike (e ∷ list) =
      ap (λ (b : Behind). seen_by whole by store e.position b e.what ++ listed_as behind.Ended list) (followed-ended e.behind)
      ∙ ap (λ (rest : List Sighting). entry_sightings whole by store e ++ rest) (alike list)

  ready_so : (times : List Time) → is_timed times ≡ false → is_ready store by.age by.now times ≡ true
  ready_so [] e = refl
  ready_so (time ∷ times) e = (let no : true ≡ false = e in cc)

  stands_listed : (so_far : Behind) (at atom : ℕ) (timed : Bool) → is_timed (times_of by.atoms atom) ≡ timed → sighting_at by so_far at atom store ∷ [] ≡ seen_by whole by store at so_far (what_by timed atom)
  stands_listed so_far at atom true e = refl
  stands_listed so_far at atom false e =
      ap (λ (b : Bool). let it : Sighting = record { branch = by.branch; position = at; behind = so_far; seen = record { atom = atom; age = by.age; ready = b; store = store } } in it ∷ []) (ready_so (times_of by.atoms atom) e)

  atom_listed : (so_far : Behind) (at atom : ℕ) → sighting_at by so_far at atom store ∷ [] ≡ listed_as so_far (entry by.atoms at atom ∷ [])
  atom_listed so_far at atom =
      stands_listed so_far at atom (is_timed (times_of by.atoms atom)) refl ∙ sym (append-nil (seen_by whole by store at so_far (what_by (is_timed (times_of by.atoms atom)) atom)))

  gate_listed : (so_far : Behind) (at : ℕ) (w : Process) → Begins whole at → part whole at ≡ w → sightings by so_far at w store ≡ listed_as so_far (gate at ∷ [])
  gate_listed so_far at w b e = ap (λ (p : Process). sightings by so_far at p store) (sym e) ∙ sym (begun whole by so_far at store b) ∙ sym (append-nil (sightings_at whole by so_far at store))

  both_listed : (so_far : Behind) (s t : List Sighting) (l m : List Entry) → s ≡ listed_as so_far l → t ≡ listed_as so_far m → s ++ t ≡ listed_as so_far (l ++ m)
  both_listed so_far s t l m e f = ap (λ (r : List Sighting). r ++ t) e ∙ ap (λ (r : List Sighting). listed_as so_far l ++ r) f ∙ sym (flat_map-append (listed_one so_far) l m)

  listed : (frame : Option ℕ) (so_far : Behind) (at : ℕ) (x : Process) → Stands whole at x (table x at frame) → sightings by so_far at x store ≡ listed_as so_far (entries_of by.atoms at x)
  listed frame so_far at (At atom age) s = atom_listed so_far at atom
  listed frame so_far at (Seq x y) s =
      let next = behind.Entered (suc at + size x) in
      let first = stands_first whole at (Seq x y) x y _ (table x (suc at) (Some at)) (table y (suc at + size x) frame) (refl, λ n. refl) (length-table x (suc at) (Some at)) s in
      listed (Some at) (followed next so_far) (suc at) x first ∙ led_all next so_far (entries_of by.atoms (suc at) x)
  listed frame so_far at (Alt x y) s =
      let first = stands_first whole at (Alt x y) x y _ (table x (suc at) frame) (table y (suc at + size x) frame) (refl, λ n. refl) (length-table x (suc at) frame) s in
      let second = stands_second whole at (Alt x y) x y _ (table x (suc at) frame) (table y (suc at + size x) frame) (refl, λ n. refl) (length-table x (suc at) frame) s in
      both_listed so_far (sightings by so_far (suc at) x store) (sightings by so_far (suc at + size x) y store) (entries_of by.atoms (suc at) x) (entries_of by.atoms (suc at + size x) y)
      (listed frame so_far (suc at) x first) (listed frame so_far (suc at + size x) y second)
  listed frame so_far at (Star x y) s =
      let next = behind.Entered at in
      let first = stands_first whole at (Star x y) x y _ (table x (suc at) (Some at)) (table y (suc at + size x) frame) (refl, λ n. refl) (length-table x (suc at) (Some at)) s in
      let second = stands_second whole at (Star x y) x y _ (table x (suc at) (Some at)) (table y (suc at + size x) frame) (refl, λ n. refl) (length-table x (suc at) (Some at)) s in
      both_listed so_far (sightings by (followed next so_far) (suc at) x store) (sightings by so_far (suc at + size x) y store) (all_led next (entries_of by.atoms (suc at) x)) (entries_of by.atoms (suc at + size x) y)
      (listed (Some at) (followed next so_far) (suc at) x first ∙ led_all next so_far (entries_of by.atoms (suc at) x)) (listed frame so_far (suc at + size x) y second)
  listed frame so_far at (Par x y) s =
      let first = stands_first whole at (Par x y) x y _ (table x (suc at) frame) (table y (suc at + size x) frame) (refl, λ n. refl) (length-table x (suc at) frame) s in
      let second = stands_second whole at (Par x y) x y _ (table x (suc at) frame) (table y (suc at + size x) frame) (refl, λ n. refl) (length-table x (suc at) frame) s in
      both_listed so_far (sightings by behind.Parted (suc at) x store) (sightings by behind.Parted (suc at + size x) y store) (all_led behind.Parted (entries_of by.atoms (suc at) x)) (all_led behind.Parted (entries_of by.atoms (suc at + size x) y))
      (listed frame behind.Parted (suc at) x first ∙ led_all behind.Parted so_far (entries_of by.atoms (suc at) x))
      (listed frame behind.Parted (suc at + size x) y second ∙ led_all behind.Parted so_far (entries_of by.atoms (suc at + size x) y))
  listed frame so_far at (Disrupt x y) s =
      let first = stands_until whole at x y frame s in
      let second = stands_behind whole at x y frame s in
      both_listed so_far (sightings by behind.Parted (suc at) x store) (sightings by so_far (suc (suc at + size x)) y store) (all_led behind.Parted (entries_of by.atoms (suc at) x)) (entries_of by.atoms (suc (suc at + size x)) y)
      (listed (Some at) behind.Parted (suc at) x first ∙ led_all behind.Parted so_far (entries_of by.atoms (suc at) x))
      (listed frame so_far (suc (suc at + size x)) y second)
  listed frame so_far at (If test x y) s = gate_listed so_far at (If test x y) (stands_begins whole at (If test x y) frame s) (stands_here whole at (If test x y) (table (If test x y) at frame) s).1
  listed frame so_far at (When test x) s = gate_listed so_far at (When test x) (stands_begins whole at (When test x) frame s) (stands_here whole at (When test x) (table (When test x) at frame) s).1
  listed frame so_far at (Let settings x) s = gate_listed so_far at (Let settings x) (stands_begins whole at (Let settings x) frame s) (stands_here whole at (Let settings x) (table (Let settings x) at frame) s).1

  pub all_listed : (at : ℕ) (list : List Entry) → at < size whole → list_of by.atoms whole at ≡ list → sightings_at whole by behind.Ended at store ≡ flat_map (entry_sightings whole by store) list
  all_listed at list h e =
      let p = root_at whole at h in
      let o = outset (op_at whole at) in
      let from = root (op_at whole at) at in
      ap (λ (q : Process). sightings by (followed (outset (op_at whole at)) behind.Ended) (root (op_at whole at) at) q store) p.here
      ∙ listed p.frame (followed o behind.Ended) from p.x p.stands
      ∙ led_all o behind.Ended (entries_of by.atoms from p.x)
      ∙ ap (λ (q : Process). listed_as behind.Ended (all_led (outset (op_at whole at)) (entries_of by.atoms (root (op_at whole at) at) q))) (sym p.here)
      ∙ ap (listed_as behind.Ended) e
      ∙ alike list

-- the entries of a list stand within its part

abbrev IsBelow : ℕ → Entry → Type 0
IsBelow bound e = e.position < bound

module _ (atoms : List Atom) where
  below-led : (next : Behind) (low high : ℕ) (list : List Entry) → low ≤ high → All (IsBelow low) list → All (IsBelow high) (all_led next list)
  below-led next low high list le h = All-map (IsBelow high) (led next) list (All-weaker (IsBelow low) (IsBelow high) (λ e k. omega arith) list h)

  below-wider : (low high : ℕ) (list : List Entry) → low ≤ high → All (IsBelow low) list → All (IsBelow high) list
  below-wider low high list le h = All-weaker (IsBelow low) (IsBelow high) (λ e k. omega arith) list h

  below-one : (bound : ℕ) (e : Entry) → e.position < bound → All (IsBelow bound) (e ∷ [])
  below-one bound e h = All-cons (IsBelow bound) e [] h (All-nil (IsBelow bound))

  entries-below : (at : ℕ) (x : Process) → All (IsBelow (at + size x)) (entries_of atoms at x)
  entries-below at (At atom age) = below-one (at + 1) (entry atoms at atom) (omega arith)
  entries-below at (Seq x y) = below-led (behind.Entered (suc at + size x)) (suc at + size x) (at + size (Seq x y)) (entries_of atoms (suc at) x) (omega arith) (entries-below (suc at) x)
  entries-below at (Alt x y) =
      All-append (IsBelow (at + size (Alt x y))) (entries_of atoms (suc at) x) (entries_of atoms (suc at + size x) y)
      (below-wider (suc at + size x) (at + size (Alt x y)) (entries_of atoms (suc at) x) (omega arith) (entries-below (suc at) x))
      (below-wider (suc at + size x + size y) (at + size (Alt x y)) (entries_of atoms (suc at + size x) y) (omega arith) (entries-below (suc at + size x) y))
  entries-below at (Star x y) =
      All-append (IsBelow (at + size (Star x y))) (all_led (behind.Entered at) (entries_of atoms (suc at) x)) (entries_of atoms (suc at + size x) y)
      (below-led (behind.Entered at) (suc at + size x) (at + size (Star x y)) (entries_of atoms (suc at) x) (omega arith) (entries-below (suc at) x))
      (below-wider (suc at + size x + size y) (at + size (Star x y)) (entries_of atoms (suc at + size x) y) (omega arith) (entries-below (suc at + size x) y))
  entries-below at (Par x y) =
      All-append (IsBelow (at + size (Par x y))) (all_led behind.Parted (entries_of atoms (suc at) x)) (all_led behind.Parted (entries_of atoms (suc at + size x) y))
      (below-led behind.Parted (suc at + size x) (at + size (Par x y)) (entries_of atoms (suc at) x) (omega arith) (entries-below (suc at) x))
      (below-led behind.Parted (suc at + size x + size y) (at + size (Par x y)) (entries_of atoms (suc at + size x) y) (omega arith) (entries-below (suc at + size x) y))
  entries-below at (Disrupt x y) =
      All-append (IsBelow (at + size (Disrupt x y))) (all_led behind.Parted (entries_of atoms (suc at) x)) (entries_of atoms (suc (suc at + size x)) y)
      (below-led behind.Parted (suc at + size x) (at + size (Disrupt x y)) (entries_of atoms (suc at) x) (omega arith) (entries-below (suc at) x))
      (below-wider (suc (suc at + size x) + size y) (at + size (Disrupt x y)) (entries_of atoms (suc (suc at + size x)) y) (omega arith) (entries-below (suc (suc at + size x)) y))
  entries-below at (If test x y) = below-one (at + size (If test x y)) (gate at) (omega arith)
  entries-below at (When test x) = below-one (at + size (When test x)) (gate at) (omega arith)
  entries-below at (Let settings x) = below-one (at + size (Let settings x)) (gate at) (omega arith)

pub all_within : (whole : Process) (atoms : List Atom) (at : ℕ) (list : List Entry) → at < size whole → list_of atoms whole at ≡ list → All (λ (e : Entry). e.position < size whole) list
all_within whole atoms at list h e =
    let p = root_at whole at h in
    let o = outset (op_at whole at) in
    let from = root (op_at whole at) at in
    let within = p.stands.within in
    let below = below-led atoms o (from + size p.x) (size whole) (entries_of atoms from p.x) (omega arith) (entries-below atoms from p.x) in
    subst (All (IsBelow (size whole))) (ap (λ (q : Process). all_led (outset (op_at whole at)) (entries_of atoms (root (op_at whole at) at) q)) (sym p.here) ∙ e) below
