-- Which processes have which marks. The pairs are in slots, or in an ordered set if a slot had no capacity.
use Rattle.std.specs.Prelude.{◌≡◌, ℕ, ◌&&◌, ◌||◌, ◌==◌, ◌%◌, ◌⊎◌, not, List, [], slice_index_or, ◌≤◌, ◌<◌, Bool, true, false, Option, Some, None, nat_le, if◌then◌else◌}
use Rattle.std.specs.Ordering.{nat_cmp, ordering_then}
use Rattle.std.specs.declared.cmp.Ordering.{Ordering}
use Rattle.std.specs.BTreeMap.{is_at}
use Rattle.std.specs.List.{list_any}
use Rattle.std.specs.BTreeSet as set
use Rattle.std.specs.BTreeSet.{BTreeSet}
use Rattle.tb_index.specs.declared.mark.Mark.{Mark}
use Rattle.tb_index.specs.declared.slot.Pair.{Pair}
use Rattle.tb_index.specs.declared.pairs.Pairs.{Pairs}
use Rattle.tb_index.specs.Marks.{mixed, is_mark, has_mark, wide, meets, open_head}

-- whether one of the marks has this number of terms
abbrev pub has_count : List Mark → ℕ → Bool
has_count marks count = list_any (λ (mark : Mark). count == mark.count) marks

-- whether one of the marks is open
abbrev pub has_open : List Mark → Bool
has_open marks = list_any (λ (mark : Mark). mark.head == open_head) marks

-- whether a mark and a process are a given pair
abbrev pub is_pair : Mark → ℕ → Mark → ℕ → Bool
is_pair mark proc other its = is_mark other mark && (its == proc)

abbrev pub triple_cmp : (ℕ × ℕ × ℕ) → (ℕ × ℕ × ℕ) → Ordering
triple_cmp x y = ordering_then (ordering_then (nat_cmp x.0 y.0) (nat_cmp x.1 y.1)) (nat_cmp x.2 y.2)

-- whether the ordered set has the process with the mark
abbrev pub in_many : BTreeSet (ℕ × ℕ × ℕ) → Mark → ℕ → Bool
in_many pairs mark proc = set.contains triple_cmp pairs (mark.count, mark.head, proc)

-- whether the pair is this process with this mark
abbrev pub is_of : Mark → ℕ → Pair → Bool
is_of mark proc pair = is_pair pair.mark pair.proc mark proc

-- whether a slot has the process with the mark
abbrev pub is_in : List Pair → Mark → ℕ → Bool
is_in pairs mark proc = list_any (is_of mark proc) pairs

-- the number of slots
abbrev pub slots : ℕ
slots = 1024

-- the slot for the pairs of a mark
abbrev pub slot_of : Mark → ℕ
slot_of mark = mixed mark.head mark.count % slots

-- whether the process is with the mark in the slot of this mark
abbrev pub in_few : List (List Pair) → Mark → ℕ → Bool
in_few few mark proc = is_in (slice_index_or few (slot_of mark) []) mark proc

-- whether the process has the mark
unfoldable pub has : Pairs → Mark → ℕ → Bool
has pairs mark proc = in_few pairs.few.items mark proc || in_many pairs.many mark proc

-- whether the pair is among these triples
abbrev pub is_among : Mark → ℕ → List (ℕ × ℕ × ℕ) → Bool
is_among mark proc triples = list_any (is_at (triple_cmp (mark.count, mark.head, proc))) triples

-- the process has exactly these marks
abbrev pub AreOf : Pairs → List Mark → ℕ → Type 0
AreOf pairs marks proc = (mark : Mark) → has pairs mark proc ≡ has_mark marks mark

abbrev pub SamePairs : Pairs → Pairs → Type 0
SamePairs old new = (mark : Mark) (its : ℕ) → has new mark its ≡ has old mark its

-- the process gets these marks in addition; nothing else changes
abbrev pub AreAdded : Pairs → Pairs → List Mark → ℕ → Type 0
AreAdded old new marks proc = (mark : Mark) (its : ℕ) →
    has new mark its ≡ (has old mark its || (has_mark marks mark && (its == proc)))

-- the process loses each of `marks` that isn't among `others`; nothing else changes
abbrev pub AreRemoved : Pairs → Pairs → List Mark → List Mark → ℕ → Type 0
AreRemoved old new marks others proc = (mark : Mark) (its : ℕ) →
    has new mark its ≡ (has old mark its && not ((has_mark marks mark && not (has_mark others mark)) && (its == proc)))

-- each process that sends under a mark is counted under the open mark with as many terms
abbrev pub AreCounted : Pairs → Pairs → Type 0
AreCounted sending counted = (mark : Mark) (proc : ℕ) → has sending mark proc ≡ true → has counted (wide mark) proc ≡ true

-- each process that sends is counted, if the index counts
abbrev pub AreCountedIf : Bool → Pairs → Pairs → Type 0
AreCountedIf opened sending counted = opened ≡ true → AreCounted sending counted

-- the index counts if one of the marks is open
abbrev pub AreOpened : Bool → List Mark → Type 0
AreOpened opened marks = (mark : Mark) → has_mark marks mark ≡ true → mark.head ≡ open_head → opened ≡ true

-- if some process receives under an open mark, the index counts
abbrev pub AllOpened : Bool → Pairs → Type 0
AllOpened opened receiving = (mark : Mark) (proc : ℕ) → has receiving mark proc ≡ true → mark.head ≡ open_head → opened ≡ true

-- whether the process sends a message that is received under the mark; for an open mark, whether the process is counted under it
abbrev pub is_sender : Pairs → Pairs → Mark → ℕ → Bool
is_sender sending counted mark proc = if mark.head == open_head then has counted mark proc else has sending mark proc

-- Every other process that was counted is still counted. The process itself still is for the number of terms of each of `marks`,
-- if it was.
abbrev pub AreCountedStill : Pairs → Pairs → List Mark → ℕ → Type 0
AreCountedStill old new marks proc = (mark : Mark) (its : ℕ) → has old (wide mark) its ≡ true →
    (its ≡ proc → has_mark marks mark ≡ true) → has new (wide mark) its ≡ true

-- a mark is active if some process receives under it, and some process sends a message that it meets
abbrev pub AreHeard : Pairs → Pairs → List Mark → Type 0
AreHeard sending receiving active = (received sent : Mark) (proc other : ℕ) →
    has sending sent proc ≡ true → has receiving received other ≡ true → meets received sent ≡ true → has_mark active received ≡ true

-- a mark is active if some process receives under it, and it meets a sent mark in `marks` that isn't in `others`
abbrev pub SentAreHeard : List Mark → List Mark → Pairs → List Mark → Type 0
SentAreHeard marks others receiving active = (received sent : Mark) (other : ℕ) → has_mark marks sent ≡ true → has_mark others sent ≡ false →
    has receiving received other ≡ true → meets received sent ≡ true → has_mark active received ≡ true

-- a received mark in `marks` that isn't in `others` is active if some process sends a message that it meets
abbrev pub ReceivedAreHeard : List Mark → List Mark → Pairs → List Mark → Type 0
ReceivedAreHeard marks others sending active = (received sent : Mark) (proc : ℕ) → has_mark marks received ≡ true → has_mark others received ≡ false →
    has sending sent proc ≡ true → meets received sent ≡ true → has_mark active received ≡ true

-- every mark of the old list is in the new one
abbrev pub AreKept : List Mark → List Mark → Type 0
AreKept old new = (mark : Mark) → has_mark old mark ≡ true → has_mark new mark ≡ true

-- a mark of the old list is in the new one if some process sends a message that it meets
abbrev pub SentAreKept : List Mark → List Mark → Pairs → Type 0
SentAreKept old new sending = (received sent : Mark) (proc : ℕ) → has_mark old received ≡ true →
    has sending sent proc ≡ true → meets received sent ≡ true → has_mark new received ≡ true

-- a mark of the old list is in the new one if some process receives under it
abbrev pub ReceivedAreKept : List Mark → List Mark → Pairs → Type 0
ReceivedAreKept old new receiving = (received : Mark) (other : ℕ) → has_mark old received ≡ true →
    has receiving received other ≡ true → has_mark new received ≡ true

-- the first number from `from` on for which `holds` is true, or none
abbrev pub IsFirst : (ℕ → Bool) → ℕ → Option ℕ → Type 0
IsFirst holds from None = (number : ℕ) → from ≤ number → holds number ≡ false
IsFirst holds from (Some found) =
    (from ≤ found) × (holds found ≡ true) × ((number : ℕ) → from ≤ number → number < found → holds number ≡ false)

-- the smaller of two numbers, or the only one, or none
abbrev pub earlier : Option ℕ → Option ℕ → Option ℕ
earlier None other = other
earlier (Some a) None = Some a
earlier (Some a) (Some b) = if nat_le a b then Some a else Some b

-- whether one of these pairs is this process with this mark, and the mark belongs in this slot
abbrev pub in_slot : List Pair → ℕ → Mark → ℕ → Bool
in_slot pairs slot mark proc = (slot_of mark == slot) && is_in pairs mark proc

-- whether a mark meets that of a message; if no message is given, each mark is wanted
abbrev pub is_wanted : Option Mark → Mark → Bool
is_wanted None mark = true
is_wanted (Some sent) mark = meets mark sent

-- all processes with a wanted mark were added to a set, and no others
pub record AreGathered (old new : BTreeSet ℕ) (sent : Option Mark) (having : Mark → ℕ → Bool) : Type 0 where
  pub kept : (proc : ℕ) → set.contains nat_cmp old proc ≡ true → set.contains nat_cmp new proc ≡ true
  pub all : (mark : Mark) (proc : ℕ) → having mark proc ≡ true → is_wanted sent mark ≡ true → set.contains nat_cmp new proc ≡ true
  pub only : (proc : ℕ) → set.contains nat_cmp new proc ≡ true →
      (set.contains nat_cmp old proc ≡ true) ⊎ ((mark : Mark) × (having mark proc ≡ true) × (is_wanted sent mark ≡ true))
