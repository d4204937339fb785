-- The list of the atoms that can be next at a position, and the lists that a code keeps.
use Rattle.std.specs.Prelude.{◌≡◌, ◌<◌, ◌≤◌, ℕ, suc, ◌+◌, Bool, true, false, List, [], ◌∷◌, ◌++◌, length, map, take, drop, slice_get, Some}
use Rattle.tb_body.specs.declared.atom.Atom.{Atom}
use Rattle.tb_body.specs.declared.atom.Time.{Time}
use Rattle.tb_process_steps.specs.Atoms.{times_of}
use Rattle.tb_process_steps.specs.Processes.{Process, At, Seq, Alt, Star, Par, Disrupt, If, When, Let}
use Rattle.tb_code.specs.Positions.{size, part, op_at, root}
use Rattle.tb_code.specs.declared.behind.Behind.{Behind}
use Rattle.tb_code.specs.declared.behind.Behind.TheVariants as behind
use Rattle.tb_code.specs.declared.entry.Entry.{Entry}
use Rattle.tb_code.specs.declared.entry.What.{What}
use Rattle.tb_code.specs.declared.entry.What.TheVariants as what
use Rattle.tb_code.specs.declared.entry.Span.{Span}
use Rattle.tb_code.specs.declared.node.Op.{Op}
use Rattle.tb_code.specs.declared.node.Op.TheVariants as op

-- an atom with these times has times
abbrev pub is_timed : List Time → Bool
is_timed [] = false
is_timed (time ∷ times) = true

-- the entry's kind for an atom, by whether the atom has times
abbrev pub what_by : Bool → ℕ → What
what_by false atom = what.Atom atom
what_by true atom = what.Timed atom

-- the entry of an atom in the list of its own part: if the atom happens, this part has ended
abbrev pub entry : List Atom → ℕ → ℕ → Entry
entry atoms position atom = record { position = position; what = what_by (is_timed (times_of atoms atom)) atom; behind = behind.Ended }

-- the entry of a test or settings in the list of its own part
abbrev pub gate : ℕ → Entry
gate position = record { position = position; what = what.Gate; behind = behind.Ended }

-- The combined effect on a whole: the first effect is on a part of the whole, and the second is the effect of the part's end. If a merge
-- or a disrupt is parted, the effect doesn't state the branches.
abbrev pub followed : Behind → Behind → Behind
followed behind.Ended next = next
followed (behind.Entered at) behind.Ended = behind.Entered at
followed (behind.Entered at) (behind.Entered next) = behind.Entered at
followed (behind.Entered at) behind.Parted = behind.Parted
followed behind.Parted next = behind.Parted

-- an entry of a part, in the list of the whole; the first argument is the effect of the part's end
abbrev pub led : Behind → Entry → Entry
led next one = record { position = one.position; what = one.what; behind = followed one.behind next }

-- all entries of a part, in the list of the whole
abbrev pub all_led : Behind → List Entry → List Entry
all_led next list = map (led next) list

-- The list of a part whose positions begin here: the atoms that can be next, in the order of the source. If a test or settings determine
-- which atoms can be next, the list has their gate in place of these atoms. The effect of an atom is the effect on the part when the atom
-- happens. The effect of a gate applies when an atom of the gate happens and the gate's own part has ended.
abbrev pub entries_of : List Atom → ℕ → Process → List Entry
entries_of atoms at (At atom age) = entry atoms at atom ∷ []
entries_of atoms at (Seq x y) = all_led (behind.Entered (suc at + size x)) (entries_of atoms (suc at) x)
entries_of atoms at (Alt x y) = entries_of atoms (suc at) x ++ entries_of atoms (suc at + size x) y
entries_of atoms at (Star x y) = all_led (behind.Entered at) (entries_of atoms (suc at) x) ++ entries_of atoms (suc at + size x) y
entries_of atoms at (Par x y) = all_led behind.Parted (entries_of atoms (suc at) x) ++ all_led behind.Parted (entries_of atoms (suc at + size x) y)
entries_of atoms at (Disrupt x y) = all_led behind.Parted (entries_of atoms (suc at) x) ++ entries_of atoms (suc (suc at + size x)) y
entries_of atoms at (If test x y) = gate at ∷ []
entries_of atoms at (When test x) = gate at ∷ []
entries_of atoms at (Let settings x) = gate at ∷ []

-- The effect of the end of the part at a position with this operator. If a right side waits there, the effect is `Parted`, since each of
-- its steps makes a new row.
abbrev pub outset : Op → Behind
outset (op.Waits disrupt) = behind.Parted
outset _ = behind.Ended

-- the list of a position: the list of its part; if a right side waits there, each effect is `Parted`
abbrev pub list_of : List Atom → Process → ℕ → List Entry
list_of atoms whole at = all_led (outset (op_at whole at)) (entries_of atoms (root (op_at whole at) at) (part whole at))

-- the entries within a span
abbrev pub in_span : List Entry → Span → List Entry
in_span all span = take span.count (drop span.first all)

-- The span is within the entries. If it isn't empty, its entries are the list.
abbrev pub HasList : List Entry → Span → List Entry → Type 0
HasList all span list = (span.first + span.count ≤ length all) × (0 < span.count → list ≡ in_span all span)

-- Each position has a span within the entries. If the span isn't empty, its entries are the list of the position.
abbrev pub AreLists : List Atom → Process → List Entry → List Span → Type 0
AreLists atoms whole all spans =
    (length spans ≡ size whole) × ((at : ℕ) (span : Span) → slice_get spans at ≡ Some span → HasList all span (list_of atoms whole at))

-- the new entries are the old entries, then more entries
abbrev pub Grows : List Entry → List Entry → Type 0
Grows old new = (more : List Entry) × (new ≡ old ++ more)
