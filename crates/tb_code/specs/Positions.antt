-- The table of a process term: the number of its positions, the operator and the frame at each position, and the part at each position.
use Rattle.std.specs.Prelude.{◌≡◌, ◌<◌, ℕ, zero, suc, ◌+◌, ◌-◌, Bool, true, false, nat_lt, List, [], ◌∷◌, ◌++◌, slice_get, Option, Some, None, if◌then◌else◌}
use Rattle.tb_process_steps.specs.Processes.{Process, At, Seq, Alt, Star, Par, Disrupt, If, When, Let}
use Rattle.tb_code.specs.declared.node.Node.{Node}
use Rattle.tb_code.specs.declared.node.Op.{Op}
use Rattle.tb_code.specs.declared.node.Op.TheVariants as op

-- The number of positions: one for each operator and each atom. Each disrupt has one position more, at which its right side waits.
abbrev pub size : Process → ℕ
size (At atom age) = 1
size (Seq x y) = suc (size x + size y)
size (Alt x y) = suc (size x + size y)
size (Star x y) = suc (size x + size y)
size (Par x y) = suc (size x + size y)
size (Disrupt x y) = suc (size x + suc (size y))
size (If test x y) = suc (size x + size y)
size (When test x) = suc (size x)
size (Let settings x) = suc (size x)

abbrev pub node : Op → Option ℕ → Node
node op frame = record { op = op; frame = frame }

-- The table of a term whose first position and frame are given, in the order of the source: an operator is before its parts. The frame
-- of the first part of a sequence, a star, or a disrupt is this operator. Each other part has the frame of the whole. Between its parts,
-- a disrupt has one position at which its right side waits. This position has the frame of the whole.
abbrev pub table : Process → ℕ → Option ℕ → List Node
table (At atom age) at frame = node (op.At atom) frame ∷ []
table (Seq x y) at frame = node (op.Seq (suc at + size x)) frame ∷ (table x (suc at) (Some at) ++ table y (suc at + size x) frame)
table (Alt x y) at frame = node (op.Alt (suc at + size x)) frame ∷ (table x (suc at) frame ++ table y (suc at + size x) frame)
table (Star x y) at frame = node (op.Star (suc at + size x)) frame ∷ (table x (suc at) (Some at) ++ table y (suc at + size x) frame)
table (Par x y) at frame = node (op.Par (suc at + size x)) frame ∷ (table x (suc at) frame ++ table y (suc at + size x) frame)
table (Disrupt x y) at frame = node (op.Disrupt (suc at + size x)) frame ∷ (table x (suc at) (Some at) ++ (node (op.Waits at) frame ∷ table y (suc (suc at + size x)) frame))
table (If test x y) at frame = node (op.If test (suc at + size x)) frame ∷ (table x (suc at) frame ++ table y (suc at + size x) frame)
table (When test x) at frame = node (op.When test) frame ∷ table x (suc at) frame
table (Let settings x) at frame = node (op.Let settings) frame ∷ table x (suc at) frame

-- the table of a whole body: its first position is 0, without a frame
unfoldable pub positions : Process → List Node
positions term = table term 0 None

-- the first of two parts if the position, counted from the first part's start, is within its size; otherwise the second
abbrev pub of_two : ℕ → ℕ → Process → Process → Process
of_two first at x y = if nat_lt at first then x else y

-- The part at a position, counted from 0. After the last position, the result is an arbitrary part. The right side of a disrupt is the
-- part at its own first position and at the position at which it waits.
abbrev pub part : Process → ℕ → Process
part whole zero = whole
part (At atom age) (suc at) = At atom age
part (Seq x y) (suc at) = of_two (size x) at (part x at) (part y (at - size x))
part (Alt x y) (suc at) = of_two (size x) at (part x at) (part y (at - size x))
part (Star x y) (suc at) = of_two (size x) at (part x at) (part y (at - size x))
part (Par x y) (suc at) = of_two (size x) at (part x at) (part y (at - size x))
part (Disrupt x y) (suc at) = of_two (size x) at (part x at) (part y (at - suc (size x)))
part (If test x y) (suc at) = of_two (size x) at (part x at) (part y (at - size x))
part (When test x) (suc at) = part x at
part (Let settings x) (suc at) = part x at

-- the operator of a position; without a position, an arbitrary operator
abbrev pub op_in : Option Node → Op
op_in None = op.At 0
op_in (Some node) = node.op

-- the operator at a position; after the last position, an arbitrary operator
abbrev pub op_at : Process → ℕ → Op
op_at whole at = op_in (slice_get (positions whole) at)

-- a right side waits at a position with this operator
abbrev pub is_wait : Op → Bool
is_wait (op.Waits disrupt) = true
is_wait _ = false

-- The position at which the part of a position with this operator begins: the next position if a right side waits here, otherwise this
-- position.
abbrev pub root : Op → ℕ → ℕ
root (op.Waits disrupt) at = suc at
root _ at = at

-- no right side waits at this position
abbrev pub Begins : Process → ℕ → Type 0
Begins whole at = is_wait (op_at whole at) ≡ false

-- The part at a position is an operator, applied to the parts at the next position and at the operator's second position (`right`).
pub record IsTwo (whole : Process) (make : Process → Process → Process) (at right : ℕ) : Type 0 where
  pub here : part whole at ≡ make (part whole (suc at)) (part whole right)
  pub first : suc at < size whole
  pub second : right < size whole
  pub behind : right ≡ suc at + size (part whole (suc at))
  pub first_begins : Begins whole (suc at)
  pub second_begins : Begins whole right

-- The part at a position is a disrupt. Its left side is at the next position. Its right side is after the position at which it waits.
pub record IsUntil (whole : Process) (at waits : ℕ) : Type 0 where
  pub here : part whole at ≡ Disrupt (part whole (suc at)) (part whole (suc waits))
  pub first : suc at < size whole
  pub second : suc waits < size whole
  pub behind : waits ≡ suc at + size (part whole (suc at))
  pub first_begins : Begins whole (suc at)
  pub second_begins : Begins whole (suc waits)

-- A right side waits at a position. The part here is the part at the next position. The disrupt is at an earlier position.
pub record IsWait (whole : Process) (at disrupt : ℕ) : Type 0 where
  pub here : part whole at ≡ part whole (suc at)
  pub first : suc at < size whole
  pub before : disrupt < at
  pub first_begins : Begins whole (suc at)

-- The part at a position is an operator, applied to the part at the next position.
pub record IsOne (whole : Process) (make : Process → Process) (at : ℕ) : Type 0 where
  pub here : part whole at ≡ make (part whole (suc at))
  pub first : suc at < size whole
  pub first_begins : Begins whole (suc at)

-- The part at a position is the given operator, applied to the parts at its positions. If the right side of a disrupt waits there, the
-- part is the part at the next position.
abbrev pub HasParts : Process → ℕ → Op → Type 0
HasParts whole at (op.At atom) = (age : ℕ) × (part whole at ≡ At atom age)
HasParts whole at (op.Seq right) = IsTwo whole Seq at right
HasParts whole at (op.Alt right) = IsTwo whole Alt at right
HasParts whole at (op.Star right) = IsTwo whole Star at right
HasParts whole at (op.Par right) = IsTwo whole Par at right
HasParts whole at (op.Disrupt waits) = IsUntil whole at waits
HasParts whole at (op.Waits disrupt) = IsWait whole at disrupt
HasParts whole at (op.If test right) = IsTwo whole (If test) at right
HasParts whole at (op.When test) = IsOne whole (When test) at
HasParts whole at (op.Let settings) = IsOne whole (Let settings) at
