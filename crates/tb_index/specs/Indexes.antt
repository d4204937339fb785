-- The facts of an index: which processes send and receive under which marks, and which are awake. And the effect of each call on them.
use Rattle.std.specs.Prelude.{◌≡◌, ◌≢◌, ◌↔◌, ◌⊎◌, ℕ, ◌<◌, ◌≤◌, ◌/◌, ◌==◌, ◌||◌, Bool, true, false, List, length, Option, Some, None}
use Rattle.std.specs.Ordering.{nat_cmp}
use Rattle.std.specs.BTreeSet as set
use Rattle.std.specs.BTreeSet.{BTreeSet}
use Rattle.tb_index.specs.declared.mark.Mark.{Mark}
use Rattle.tb_index.specs.declared.pairs.Pairs.{Pairs}
use Rattle.tb_index.specs.Marks.{has_mark, wide}
use Rattle.tb_index.specs.Helpers.Pairs.{has}
use Rattle.tb_index.specs.Helpers.Bits.{bit_in}

-- A contract sees three facts of an index: which processes send, which receive, and which are awake. The contracts of the calls
-- determine these facts from a new index on. So a reader needn't know how an index keeps them.
pub record IndexState : Type 0 where
  pub sending : Pairs
  pub receiving : Pairs
  pub awake : List ℕ

-- whether the process sends under the mark
unfoldable pub sends : IndexState → Mark → ℕ → Bool
sends index mark proc = has index.sending mark proc

-- whether the process receives under exactly this mark
unfoldable pub receives : IndexState → Mark → ℕ → Bool
receives index mark proc = has index.receiving mark proc

-- whether the process receives a message with the mark: under this mark, or under the open mark with as many terms
abbrev pub is_receiver : IndexState → Mark → ℕ → Bool
is_receiver index mark proc = receives index mark proc || receives index (wide mark) proc

-- whether the process is awake
unfoldable pub is_awake : IndexState → ℕ → Bool
is_awake index proc = bit_in index.awake proc == 1

-- there is memory for the process to be awake
unfoldable pub HasRoom : IndexState → ℕ → Type 0
HasRoom index proc = proc / 64 < length index.awake

-- the process sends under some mark
abbrev pub IsSender : IndexState → ℕ → Type 0
IsSender index proc = (mark : Mark) × (sends index mark proc ≡ true)

-- the process receives a message with the mark
abbrev pub IsReceiver : IndexState → Mark → ℕ → Type 0
IsReceiver index mark proc = is_receiver index mark proc ≡ true

-- the process sends under some mark, and some process receives a message with this mark
abbrev pub IsHeard : IndexState → ℕ → Type 0
IsHeard index proc = (mark : Mark) × (other : ℕ) × (sends index mark proc ≡ true) × (is_receiver index mark other ≡ true)

-- the process may begin a move, as far as an index knows: it is awake, or some process receives one of its messages
abbrev pub MayBegin : IndexState → ℕ → Type 0
MayBegin index proc = (is_awake index proc ≡ true) ⊎ IsHeard index proc

-- The set has exactly the processes for which `Holds` holds. A set is in the order of its numbers.
abbrev pub AreThose : (ℕ → Type 0) → BTreeSet ℕ → Type 0
AreThose Holds found = (proc : ℕ) → (set.contains nat_cmp found proc ≡ true) ↔ Holds proc

-- the first process from a number on for which `holds` is true, or none; the numbers of processes are below 2 ^ 32
abbrev pub IsNext : (ℕ → Bool) → ℕ → Option ℕ → Type 0
IsNext holds from None = (proc : ℕ) → proc < 4294967296 → from ≤ proc → holds proc ≡ false
IsNext holds from (Some found) =
    (from ≤ found) × (holds found ≡ true) × ((proc : ℕ) → from ≤ proc → proc < found → holds proc ≡ false)

-- No process from the number `from` on and below the found one has the property `Holds`. If none is found, no process from `from` on
-- has it. The found process isn't below `from`, and needn't have it. The numbers of processes are below 2 ^ 32.
abbrev pub NobodyPassed : (ℕ → Type 0) → ℕ → Option ℕ → Type 0
NobodyPassed Holds from None = (proc : ℕ) → proc < 4294967296 → from ≤ proc → Holds proc → ⊥
NobodyPassed Holds from (Some found) = (from ≤ found) × ((proc : ℕ) → from ≤ proc → proc < found → Holds proc → ⊥)

-- no process sends, receives, or is awake
pub record IsEmpty (index : IndexState) : Type 0 where
  pub no_sends : (mark : Mark) (proc : ℕ) → sends index mark proc ≡ false
  pub no_receives : (mark : Mark) (proc : ℕ) → receives index mark proc ≡ false
  pub none_awake : (proc : ℕ) → is_awake index proc ≡ false

-- the three facts are unchanged, and there is no less memory for processes to be awake
pub record SameIndex (old new : IndexState) : Type 0 where
  pub same_sends : (mark : Mark) (proc : ℕ) → sends new mark proc ≡ sends old mark proc
  pub same_receives : (mark : Mark) (proc : ℕ) → receives new mark proc ≡ receives old mark proc
  pub same_awake : (proc : ℕ) → is_awake new proc ≡ is_awake old proc
  pub same_room : (proc : ℕ) → HasRoom old proc → HasRoom new proc

-- The process sends and receives under exactly these marks. Everything else is unchanged, and there is no less memory.
pub record IsSet (old new : IndexState) (proc : ℕ) (sent received : List Mark) : Type 0 where
  pub own_sends : (mark : Mark) → sends new mark proc ≡ has_mark sent mark
  pub own_receives : (mark : Mark) → receives new mark proc ≡ has_mark received mark
  pub other_sends : (mark : Mark) (other : ℕ) → other ≢ proc → sends new mark other ≡ sends old mark other
  pub other_receives : (mark : Mark) (other : ℕ) → other ≢ proc → receives new mark other ≡ receives old mark other
  pub same_awake : (other : ℕ) → is_awake new other ≡ is_awake old other
  pub same_room : (other : ℕ) → HasRoom old other → HasRoom new other

-- The process sends and receives nothing, and isn't awake. Everything else is unchanged, and there is no less memory.
pub record IsCleared (old new : IndexState) (proc : ℕ) : Type 0 where
  pub own_sends : (mark : Mark) → sends new mark proc ≡ false
  pub own_receives : (mark : Mark) → receives new mark proc ≡ false
  pub own_awake : is_awake new proc ≡ false
  pub other_sends : (mark : Mark) (other : ℕ) → other ≢ proc → sends new mark other ≡ sends old mark other
  pub other_receives : (mark : Mark) (other : ℕ) → other ≢ proc → receives new mark other ≡ receives old mark other
  pub other_awake : (other : ℕ) → other ≢ proc → is_awake new other ≡ is_awake old other
  pub same_room : (other : ℕ) → HasRoom old other → HasRoom new other

-- The process is awake if and only if `awake` is true. Everything else is unchanged, and there is no less memory.
pub record IsTurned (old new : IndexState) (proc : ℕ) (awake : Bool) : Type 0 where
  pub same_sends : (mark : Mark) (other : ℕ) → sends new mark other ≡ sends old mark other
  pub same_receives : (mark : Mark) (other : ℕ) → receives new mark other ≡ receives old mark other
  pub own_awake : is_awake new proc ≡ awake
  pub other_awake : (other : ℕ) → other ≢ proc → is_awake new other ≡ is_awake old other
  pub same_room : (other : ℕ) → HasRoom old other → HasRoom new other
