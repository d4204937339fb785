-- The entries within the spans of a code, and the lists of the parts of a term.
use Rattle.std.proofs.Common.{◌≡◌, ℕ, true, false, zero, suc, ◌+◌, ◌<◌, ◌≤◌, List, [], ◌∷◌, ◌++◌, length, map, take, drop, slice_get, slice_set, Option, Some, None, option_map, refl, ap, sym, subst, ◌∙◌, arith, ◌⊎◌, inl, inr, append_assoc, length-append}
use Rattle.std.proofs.lemmas.List.{append-nil, drop-append-le, drop_at, length-drop, length-take-le, take-append-le, take_all}
use Rattle.std.proofs.lemmas.Option.{slice_get-map}
use Rattle.tb_terms.specs.declared.expr.Expr.{Expr}
use Rattle.tb_body.specs.declared.atom.Atom.{Atom}
use Rattle.tb_body.specs.declared.tree.Setting.{Setting}
use Rattle.tb_process_steps.specs.Processes.{Process, At, Seq, Alt, Star, Par, Disrupt, If, When, Let}
use Rattle.tb_code.specs.Entries.{AreLists, Grows, HasList, all_led, entries_of, entry, followed, gate, in_span, led, list_of, outset}
use Rattle.tb_code.specs.Helpers.Blanks.{blank}
use Rattle.tb_code.specs.Positions.{Begins, HasParts, IsOne, IsTwo, IsUntil, IsWait, is_wait, op_at, part, positions, root, size}
use Rattle.tb_code.specs.declared.behind.Behind.{Behind}
use Rattle.tb_code.specs.declared.behind.Behind.TheVariants as behind
use Rattle.tb_code.specs.declared.entry.Entry.{Entry}
use Rattle.tb_code.specs.declared.entry.Span.{Span}
use Rattle.tb_code.specs.declared.node.Node.{Node}
use Rattle.tb_code.specs.declared.node.Op.{Op}
use Rattle.tb_code.specs.declared.node.Op.TheVariants as op
use Rattle.tb_code.proofs.Parts.{has_parts, length-positions, op_here, root_begins}

abbrev pub span : ℕ → ℕ → Span
span first count = record { first = first; count = count }

pub none_has : (all : List Entry) (list : List Entry) → HasList all (span 0 0) list
none_has all list = (omega arith, λ h. absurd (omega arith))

same_span : (old more : List Entry) (s : Span) → s.first + s.count ≤ length old → in_span (old ++ more) s ≡ in_span old s
same_span old more s h =
    let l = length-drop s.first old in
    ap (take s.count) (drop-append-le s.first old more (omega arith)) ∙ take-append-le s.count (drop s.first old) more (omega arith)

long_span : (all : List Entry) (s : Span) → s.first + s.count ≤ length all → length (in_span all s) ≡ s.count
long_span all s h = (let l = length-drop s.first all in length-take-le s.count (drop s.first all) (omega arith))

some_taken : (count : ℕ) (l : List Entry) → 0 < length (take count l) → 0 < count
some_taken zero l h = h
some_taken (suc count) l h = omega arith

-- a span with some entries has a count above 0
pub some_count : (all : List Entry) (s : Span) → 0 < length (in_span all s) → 0 < s.count
some_count all s h = some_taken s.count (drop s.first all) h

pub grows_not : (all : List Entry) → Grows all all
grows_not all = ([], sym (append-nil all))

-- a span still has its list after entries are added
pub grown_has : (old new : List Entry) (s : Span) (list : List Entry) → Grows old new → HasList old s list → HasList new s list
grown_has old new s list g h =
    let long = length-append old g.0 in
    let same = ap length g.1 in
    let bound = h.0 in
    (omega arith, λ some. h.1 some ∙ sym (ap (λ (l : List Entry). in_span l s) g.1 ∙ same_span old g.0 s bound))

-- the span of one added entry
pub one_has : (old new : List Entry) (e : Entry) → new ≡ old ++ e ∷ [] → HasList new (span (length old) 1) (e ∷ [])
one_has old new e is =
    let long = length-append old (e ∷ []) in
    let same = ap length is in
    (omega arith, λ some. sym (ap (take 1) (ap (drop (length old)) is ∙ drop_at old (e ∷ []) (length old) refl)))

-- the entries of a part, in the list of the whole

length-led : (next : Behind) (l : List Entry) → length (map (led next) l) ≡ length l
length-led next [] = refl
length-led next (e ∷ l) = ap suc (length-led next l)

pub followed-ended : (b : Behind) → followed b behind.Ended ≡ b
followed-ended behind.Ended = refl
followed-ended (behind.Entered at) = refl
followed-ended behind.Parted = refl

all-alike : (l : List Entry) → map (led behind.Ended) l ≡ l
all-alike [] = refl
all-alike (e ∷ l) =
    let head : led behind.Ended e ≡ e = ap (λ (b : Behind). let one : Entry = record { position = e.position; what = e.what; behind = b } in one) (followed-ended e.behind) in
    ap (λ (one : Entry). one ∷ map (led behind.Ended) l) head ∙ ap (λ (rest : List Entry). e ∷ rest) (all-alike l)

-- if the end of a part ends the whole, the entries of the part are unchanged in the list of the whole
pub led-ended : (list : List Entry) → all_led behind.Ended list ≡ list
led-ended list = all-alike list

-- after a part's entries are added with this effect of the part's end, their span has their list
pub first_has : (old new : List Entry) (x : Span) (next : Behind) (one : List Entry) →
    new ≡ old ++ map (led next) (in_span old x) → 0 < x.count → HasList old x one → HasList new (span (length old) x.count) (all_led next one)
first_has old new x next one en sx hx =
    let xs = map (led next) (in_span old x) in
    let lx = length-led next (in_span old x) ∙ long_span old x hx.0 in
    let long = length-append old xs in
    let same = ap length en in
    let behind_old : drop (length old) new ≡ xs = ap (drop (length old)) en ∙ drop_at old xs (length old) refl in
    let taken : take x.count (drop (length old) new) ≡ xs = ap (take x.count) behind_old ∙ take_all x.count xs (omega arith) in
    (omega arith, λ some. ap (all_led next) (hx.1 sx) ∙ sym taken)

-- after the entries of two parts are added, one part after the other, their span has both lists
pub both_have : (old middle new : List Entry) (x y : Span) (a b : Behind) (count : ℕ) (one other : List Entry) →
    middle ≡ old ++ map (led a) (in_span old x) → new ≡ middle ++ map (led b) (in_span middle y) → count ≡ x.count + y.count → 0 < x.count → 0 < y.count →
    HasList old x one → HasList old y other → HasList new (span (length old) count) (all_led a one ++ all_led b other)
both_have old middle new x y a b count one other em en ec sx sy hx hy =
    let xs = map (led a) (in_span old x) in
    let ys = map (led b) (in_span old y) in
    let second : map (led b) (in_span middle y) ≡ ys = ap (map (led b)) (ap (λ (l : List Entry). in_span l y) em ∙ same_span old xs y hy.0) in
    let all : new ≡ old ++ (xs ++ ys) = en ∙ ap (λ (l : List Entry). l ++ map (led b) (in_span middle y)) em ∙ ap (λ (l : List Entry). (old ++ xs) ++ l) second ∙ append_assoc old xs ys in
    let lx = length-led a (in_span old x) ∙ long_span old x hx.0 in
    let ly = length-led b (in_span old y) ∙ long_span old y hy.0 in
    let joined = length-append xs ys in
    let long = length-append old (xs ++ ys) in
    let same = ap length all in
    let behind_old : drop (length old) new ≡ xs ++ ys = ap (drop (length old)) all ∙ drop_at old (xs ++ ys) (length old) refl in
    let taken : take count (drop (length old) new) ≡ xs ++ ys = ap (take count) behind_old ∙ take_all count (xs ++ ys) (omega arith) in
    let lists : all_led a one ++ all_led b other ≡ xs ++ ys = ap (λ (o : List Entry). all_led a o ++ all_led b other) (hx.1 sx) ∙ ap (λ (o : List Entry). xs ++ all_led b o) (hy.1 sy) in
    (omega arith, λ some. lists ∙ sym taken)

-- the list of a position at which a part begins is the list of the part

pub outset_begins : (o : Op) → is_wait o ≡ false → outset o ≡ behind.Ended
outset_begins (op.At atom) h = refl
outset_begins (op.Seq right) h = refl
outset_begins (op.Alt right) h = refl
outset_begins (op.Star right) h = refl
outset_begins (op.Par right) h = refl
outset_begins (op.Disrupt waits) h = refl
outset_begins (op.Waits disrupt) h = (let t : true ≡ false = h in cc)
outset_begins (op.If test right) h = refl
outset_begins (op.When test) h = refl
outset_begins (op.Let settings) h = refl

pub list_begins : (atoms : List Atom) (whole : Process) (at : ℕ) → Begins whole at → list_of atoms whole at ≡ entries_of atoms at (part whole at)
list_begins atoms whole at h =
    ap (λ (b : Behind). all_led b (entries_of atoms (root (op_at whole at) at) (part whole at))) (outset_begins (op_at whole at) h)
    ∙ ap (λ (n : ℕ). all_led behind.Ended (entries_of atoms n (part whole at))) (root_begins (op_at whole at) at h)
    ∙ led-ended (entries_of atoms at (part whole at))

-- before any list is kept

from_blank : (o : Option Node) (s : Span) → option_map blank o ≡ Some s → span 0 0 ≡ s
from_blank None s h = (let t : ◌≡◌ {A = Option Span} None (Some s) = h in cc)
from_blank (Some node) s h = (let t : ◌≡◌ {A = Option Span} (Some (span 0 0)) (Some s) = h in cc)

length-blank : (nodes : List Node) → length (map blank nodes) ≡ length nodes
length-blank [] = refl
length-blank (node ∷ nodes) = ap suc (length-blank nodes)

pub blank_lists : (atoms : List Atom) (whole : Process) (all : List Entry) (nodes : List Node) (old spans : List Span) → length nodes ≡ size whole → old ≡ [] → spans ≡ old ++ map blank nodes → AreLists atoms whole all spans
blank_lists atoms whole all nodes old spans long none is =
    let blanks : spans ≡ map blank nodes = is ∙ ap (λ (l : List Span). l ++ map blank nodes) none in (
      ap length blanks ∙ length-blank nodes ∙ long,
      λ at s h. subst (λ (t : Span). HasList all t (list_of atoms whole at))
          (from_blank (slice_get nodes at) s (sym (slice_get-map blank nodes at) ∙ ap (λ (l : List Span). slice_get l at) (sym blanks) ∙ h))
          (none_has all (list_of atoms whole at)),
    )

-- after one more list is kept

length-put : (spans : List Span) (at : ℕ) (s : Span) → length (slice_set spans at s) ≡ length spans
length-put [] at s = refl
length-put (t ∷ spans) zero s = refl
length-put (t ∷ spans) (suc at) s = ap suc (length-put spans at s)

get_put : (spans : List Span) (at i : ℕ) (s t : Span) → slice_get (slice_set spans at s) i ≡ Some t → ((i ≡ at) × (s ≡ t)) ⊎ (slice_get spans i ≡ Some t)
get_put [] at i s t h = inr h
get_put (u ∷ spans) zero zero s t h = inl (refl, (let e : ◌≡◌ {A = Option Span} (Some s) (Some t) = h in cc))
get_put (u ∷ spans) zero (suc i) s t h = inr h
get_put (u ∷ spans) (suc at) zero s t h = inr h
get_put (u ∷ spans) (suc at) (suc i) s t h = by_rest (get_put spans at i s t h)
  where
    by_rest : ((i ≡ at) × (s ≡ t)) ⊎ (slice_get spans i ≡ Some t) → ((suc i ≡ suc at) × (s ≡ t)) ⊎ (slice_get spans i ≡ Some t)
    by_rest (inl e) = inl (ap suc e.0, e.1)
    by_rest (inr e) = inr e

pub list_more : (atoms : List Atom) (whole : Process) (old new : List Entry) (spans later : List Span) (at : ℕ) (s : Span) →
    AreLists atoms whole old spans → Grows old new → HasList new s (list_of atoms whole at) → later ≡ slice_set spans at s → AreLists atoms whole new later
list_more atoms whole old new spans later at s lists g has is =
    (ap length is ∙ length-put spans at s ∙ lists.0, λ i t h. by_place i t (get_put spans at i s t (ap (λ (l : List Span). slice_get l i) (sym is) ∙ h)))
  where
    by_place : (i : ℕ) (t : Span) → ((i ≡ at) × (s ≡ t)) ⊎ (slice_get spans i ≡ Some t) → HasList new t (list_of atoms whole i)
    by_place i t (inl e) = subst (λ (u : Span). HasList new u (list_of atoms whole i)) e.1 (subst (λ (n : ℕ). HasList new s (list_of atoms whole n)) (sym e.0) has)
    by_place i t (inr h) = grown_has old new t (list_of atoms whole i) g (lists.1 i t h)

-- the parts of the operator at a position, and their lists

pub parts_at : (whole : Process) (nodes : List Node) (at : ℕ) (n : Node) (o : Op) → nodes ≡ positions whole → at < length nodes → slice_get nodes at ≡ Some n → n.op ≡ o → HasParts whole at o
parts_at whole nodes at n o numbered within here is =
    let same : length nodes ≡ size whole = ap length numbered ∙ length-positions whole in
    subst (HasParts whole at) is (has_parts whole nodes at n numbered (omega arith) here)

pub first_within : (atoms : List Atom) (whole : Process) (all : List Entry) (spans : List Span) (make : Process → Process → Process) (at right : ℕ) → AreLists atoms whole all spans → IsTwo whole make at right → at + 1 < length spans
first_within atoms whole all spans make at right lists two = (let long = lists.0 in let first = two.first in omega arith)

pub second_within : (atoms : List Atom) (whole : Process) (all : List Entry) (spans : List Span) (make : Process → Process → Process) (at right : ℕ) → AreLists atoms whole all spans → IsTwo whole make at right → right < length spans
second_within atoms whole all spans make at right lists two = (let long = lists.0 in let second = two.second in omega arith)

-- the list of a position, by the lists of its parts

pub begins_at : (whole : Process) (nodes : List Node) (at : ℕ) (n : Node) (o : Op) → nodes ≡ positions whole → slice_get nodes at ≡ Some n → n.op ≡ o → is_wait o ≡ false → Begins whole at
begins_at whole nodes at n o numbered here is begins = ap is_wait (op_here whole nodes at n numbered here ∙ is) ∙ begins

-- the list of a position at which a part with this list begins
as_list : (atoms : List Atom) (whole : Process) (at : ℕ) (w : Process) (l : List Entry) → Begins whole at → part whole at ≡ w → l ≡ entries_of atoms at w → l ≡ list_of atoms whole at
as_list atoms whole at w l begins here is = is ∙ sym (ap (entries_of atoms at) here) ∙ sym (list_begins atoms whole at begins)

pub list_of_atom : (atoms : List Atom) (whole : Process) (at atom age : ℕ) (e : Entry) → Begins whole at → part whole at ≡ At atom age → e ≡ entry atoms at atom → e ∷ [] ≡ list_of atoms whole at
list_of_atom atoms whole at atom age e begins here is = as_list atoms whole at (At atom age) (e ∷ []) begins here (ap (λ (one : Entry). one ∷ []) is)

pub list_of_if : (atoms : List Atom) (whole : Process) (test : Expr) (at right : ℕ) (e : Entry) → Begins whole at → IsTwo whole (If test) at right → e ≡ gate at → e ∷ [] ≡ list_of atoms whole at
list_of_if atoms whole test at right e begins two is = as_list atoms whole at (If test (part whole (suc at)) (part whole right)) (e ∷ []) begins two.here (ap (λ (one : Entry). one ∷ []) is)

pub list_of_when : (atoms : List Atom) (whole : Process) (test : Expr) (at : ℕ) (e : Entry) → Begins whole at → IsOne whole (When test) at → e ≡ gate at → e ∷ [] ≡ list_of atoms whole at
list_of_when atoms whole test at e begins one is = as_list atoms whole at (When test (part whole (suc at))) (e ∷ []) begins one.here (ap (λ (o : Entry). o ∷ []) is)

pub list_of_let : (atoms : List Atom) (whole : Process) (settings : List Setting) (at : ℕ) (e : Entry) → Begins whole at → IsOne whole (Let settings) at → e ≡ gate at → e ∷ [] ≡ list_of atoms whole at
list_of_let atoms whole settings at e begins one is = as_list atoms whole at (Let settings (part whole (suc at))) (e ∷ []) begins one.here (ap (λ (o : Entry). o ∷ []) is)

-- the list of a first part
first_list : (atoms : List Atom) (whole : Process) (at first : ℕ) → first ≡ suc at → Begins whole (suc at) → list_of atoms whole first ≡ entries_of atoms (suc at) (part whole (suc at))
first_list atoms whole at first f begins = ap (list_of atoms whole) f ∙ list_begins atoms whole (suc at) begins

-- the list of a second part
second_list : (atoms : List Atom) (whole : Process) (right place : ℕ) → right ≡ place → Begins whole right → list_of atoms whole right ≡ entries_of atoms place (part whole right)
second_list atoms whole right place e begins = list_begins atoms whole right begins ∙ ap (λ (n : ℕ). entries_of atoms n (part whole right)) e

pub list_of_seq : (atoms : List Atom) (whole : Process) (at right first : ℕ) → first ≡ suc at → Begins whole at → IsTwo whole Seq at right → all_led (behind.Entered right) (list_of atoms whole first) ≡ list_of atoms whole at
list_of_seq atoms whole at right first f begins two =
    as_list atoms whole at (Seq (part whole (suc at)) (part whole right)) (all_led (behind.Entered right) (list_of atoms whole first)) begins two.here
    (ap (all_led (behind.Entered right)) (first_list atoms whole at first f two.first_begins)
    ∙ ap (λ (n : ℕ). all_led (behind.Entered n) (entries_of atoms (suc at) (part whole (suc at)))) two.behind)

-- the lists of the two parts of an operator, with these effects of their ends, are together the operator's list
two_lists : (atoms : List Atom) (whole : Process) (make : Process → Process → Process) (a b : Behind) (at right first : ℕ) → first ≡ suc at →
    ((x y : Process) → all_led a (entries_of atoms (suc at) x) ++ all_led b (entries_of atoms (suc at + size x) y) ≡ entries_of atoms at (make x y)) → Begins whole at → IsTwo whole make at right →
    all_led a (list_of atoms whole first) ++ all_led b (list_of atoms whole right) ≡ list_of atoms whole at
two_lists atoms whole make a b at right first f each begins two =
    as_list atoms whole at (make (part whole (suc at)) (part whole right)) (all_led a (list_of atoms whole first) ++ all_led b (list_of atoms whole right)) begins two.here
    (ap (λ (l : List Entry). all_led a l ++ all_led b (list_of atoms whole right)) (first_list atoms whole at first f two.first_begins)
    ∙ ap (λ (l : List Entry). all_led a (entries_of atoms (suc at) (part whole (suc at))) ++ all_led b l) (second_list atoms whole right (suc at + size (part whole (suc at))) two.behind two.second_begins)
    ∙ each (part whole (suc at)) (part whole right))

pub list_of_alt : (atoms : List Atom) (whole : Process) (at right first : ℕ) → first ≡ suc at → Begins whole at → IsTwo whole Alt at right →
    all_led behind.Ended (list_of atoms whole first) ++ all_led behind.Ended (list_of atoms whole right) ≡ list_of atoms whole at
list_of_alt atoms whole at right first f begins two =
    two_lists atoms whole Alt behind.Ended behind.Ended at right first f
    (λ x y. ap (λ (o : List Entry). o ++ all_led behind.Ended (entries_of atoms (suc at + size x) y)) (led-ended (entries_of atoms (suc at) x))
    ∙ ap (λ (o : List Entry). entries_of atoms (suc at) x ++ o) (led-ended (entries_of atoms (suc at + size x) y))) begins two

pub list_of_star : (atoms : List Atom) (whole : Process) (at right first : ℕ) → first ≡ suc at → Begins whole at → IsTwo whole Star at right →
    all_led (behind.Entered at) (list_of atoms whole first) ++ all_led behind.Ended (list_of atoms whole right) ≡ list_of atoms whole at
list_of_star atoms whole at right first f begins two =
    two_lists atoms whole Star (behind.Entered at) behind.Ended at right first f
    (λ x y. ap (λ (o : List Entry). all_led (behind.Entered at) (entries_of atoms (suc at) x) ++ o) (led-ended (entries_of atoms (suc at + size x) y))) begins two

pub list_of_par : (atoms : List Atom) (whole : Process) (at right first : ℕ) → first ≡ suc at → Begins whole at → IsTwo whole Par at right →
    all_led behind.Parted (list_of atoms whole first) ++ all_led behind.Parted (list_of atoms whole right) ≡ list_of atoms whole at
list_of_par atoms whole at right first f begins two = two_lists atoms whole Par behind.Parted behind.Parted at right first f (λ x y. refl) begins two

pub list_of_until : (atoms : List Atom) (whole : Process) (at waits first second : ℕ) → first ≡ suc at → second ≡ suc waits → Begins whole at → IsUntil whole at waits →
    all_led behind.Parted (list_of atoms whole first) ++ all_led behind.Ended (list_of atoms whole second) ≡ list_of atoms whole at
list_of_until atoms whole at waits first second f g begins until =
    as_list atoms whole at (Disrupt (part whole (suc at)) (part whole (suc waits))) (all_led behind.Parted (list_of atoms whole first) ++ all_led behind.Ended (list_of atoms whole second)) begins until.here
    (ap (λ (l : List Entry). all_led behind.Parted l ++ all_led behind.Ended (list_of atoms whole second)) (first_list atoms whole at first f until.first_begins)
    ∙ ap (λ (l : List Entry). all_led behind.Parted (entries_of atoms (suc at) (part whole (suc at))) ++ l)
    (led-ended (list_of atoms whole second) ∙ ap (list_of atoms whole) g ∙ second_list atoms whole (suc waits) (suc (suc at + size (part whole (suc at)))) (ap suc until.behind) until.second_begins))

pub list_of_wait : (atoms : List Atom) (whole : Process) (at disrupt first : ℕ) → first ≡ suc at → op_at whole at ≡ op.Waits disrupt → IsWait whole at disrupt → all_led behind.Parted (list_of atoms whole first) ≡ list_of atoms whole at
list_of_wait atoms whole at disrupt first f here wait =
    ap (all_led behind.Parted) (first_list atoms whole at first f wait.first_begins)
    ∙ ap (λ (p : Process). all_led behind.Parted (entries_of atoms (suc at) p)) (sym wait.here)
    ∙ sym (ap (λ (o : Op). all_led (outset o) (entries_of atoms (root o at) (part whole at))) here)
