-- Worked bodies: their positions, and the parts that stand there, computed from the definitions alone.
use Rattle.std.proofs.Common.{◌≡◌, List, [], ◌∷◌, map, Some, None, refl}
use Rattle.tb_terms.specs.declared.expr.Expr.{Expr}
use Rattle.tb_body.specs.declared.tree.Setting.{Setting}
use Rattle.tb_process_steps.specs.Processes.{Process, At, Seq, Alt, Star, Par, Disrupt, If, When, Let}
use Rattle.tb_code.specs.Entries.{entries_of, entry, gate, led, list_of}
use Rattle.tb_code.specs.Positions.{size, positions, part, node}
use Rattle.tb_code.specs.declared.behind.Behind.TheVariants as behind
use Rattle.tb_code.specs.declared.node.Op.TheVariants as op

-- `a * b`: the star follows where `a` has ended, and nothing where `b` has
abbrev pub turn : Process
turn = Star (At 1 0) (At 2 0)

pub turn_positions : positions turn ≡ node (op.Star 2) None ∷ node (op.At 1) (Some 0) ∷ node (op.At 2) None ∷ []
unfolding positions
turn_positions = refl

-- `a . b . c`
abbrev pub in_a_row : Process
in_a_row = Seq (At 1 0) (Seq (At 2 0) (At 3 0))

pub in_a_row_positions : positions in_a_row ≡
    node (op.Seq 2) None ∷ node (op.At 1) (Some 0) ∷ node (op.Seq 4) None ∷ node (op.At 2) (Some 2) ∷ node (op.At 3) None ∷ []
unfolding positions
in_a_row_positions = refl

pub in_a_row_parts : map (part in_a_row) (0 ∷ 1 ∷ 2 ∷ 3 ∷ 4 ∷ []) ≡ in_a_row ∷ At 1 0 ∷ Seq (At 2 0) (At 3 0) ∷ At 2 0 ∷ At 3 0 ∷ []
in_a_row_parts = refl

-- `a . b + c`: a choice has no frame of its own
abbrev pub choice : Process
choice = Alt (Seq (At 1 0) (At 2 0)) (At 3 0)

pub choice_positions : positions choice ≡
    node (op.Alt 4) None ∷ node (op.Seq 3) None ∷ node (op.At 1) (Some 1) ∷ node (op.At 2) None ∷ node (op.At 3) None ∷ []
unfolding positions
choice_positions = refl

-- `(a || b) . c`: both sides have the frame of the merge
abbrev pub merge : Process
merge = Seq (Par (At 1 0) (At 2 0)) (At 3 0)

pub merge_positions : positions merge ≡
    node (op.Seq 4) None ∷ node (op.Par 3) (Some 0) ∷ node (op.At 1) (Some 0) ∷ node (op.At 2) (Some 0) ∷ node (op.At 3) None ∷ []
unfolding positions
merge_positions = refl

-- a choice within two stars: its atoms have the frame of the inner one, whose own frame is the outer one
abbrev pub within_stars : Process
within_stars = Star (Star (Alt (At 1 0) (At 2 0)) (At 3 0)) (At 4 0)

pub within_stars_positions : positions within_stars ≡
    node (op.Star 6) None ∷ node (op.Star 5) (Some 0) ∷ node (op.Alt 4) (Some 1) ∷ node (op.At 1) (Some 1) ∷ node (op.At 2) (Some 1)
    ∷ node (op.At 3) (Some 0) ∷ node (op.At 4) None ∷ []
unfolding positions
within_stars_positions = refl

-- settings, and in them a star with a test on each side
abbrev pub tested_turns : List Setting → Expr → Expr → Process
tested_turns settings first second = Let settings (Star (When first (At 1 0)) (When second (At 2 0)))

pub tested_turns_positions : (settings : List Setting) (first second : Expr) → positions (tested_turns settings first second) ≡
    node (op.Let settings) None ∷ node (op.Star 4) None ∷ node (op.When first) (Some 1) ∷ node (op.At 1) (Some 1) ∷ node (op.When second) None
    ∷ node (op.At 2) None ∷ []
unfolding positions
tested_turns_positions settings first second = refl

pub tested_turns_parts : (settings : List Setting) (first second : Expr) → map (part (tested_turns settings first second)) (1 ∷ 2 ∷ 4 ∷ []) ≡
    Star (When first (At 1 0)) (When second (At 2 0)) ∷ When first (At 1 0) ∷ When second (At 2 0) ∷ []
tested_turns_parts settings first second = refl

-- a conditional with another side, and what follows it
abbrev pub either : Expr → Process
either test = Seq (If test (At 1 0) (At 2 0)) (At 3 0)

pub either_positions : (test : Expr) → positions (either test) ≡
    node (op.Seq 4) None ∷ node (op.If test 3) (Some 0) ∷ node (op.At 1) (Some 0) ∷ node (op.At 2) (Some 0) ∷ node (op.At 3) None ∷ []
unfolding positions
either_positions test = refl

-- `a . b >> c . d`: the left side has the disrupt as its frame, and the right side waits at 4
abbrev pub transfer : Process
transfer = Disrupt (Seq (At 1 0) (At 2 0)) (Seq (At 3 0) (At 4 0))

pub transfer_positions : positions transfer ≡
    node (op.Disrupt 4) None ∷ node (op.Seq 3) (Some 0) ∷ node (op.At 1) (Some 1) ∷ node (op.At 2) (Some 0) ∷ node (op.Waits 0) None
    ∷ node (op.Seq 7) None ∷ node (op.At 3) (Some 5) ∷ node (op.At 4) None ∷ []
unfolding positions
transfer_positions = refl

pub transfer_parts : map (part transfer) (1 ∷ 3 ∷ 4 ∷ 5 ∷ 7 ∷ []) ≡ Seq (At 1 0) (At 2 0) ∷ At 2 0 ∷ Seq (At 3 0) (At 4 0) ∷ Seq (At 3 0) (At 4 0) ∷ At 4 0 ∷ []
transfer_parts = refl

-- `(a >> b) * c`: a right side in wait has the frame of its disrupt
abbrev pub transfer_turns : Process
transfer_turns = Star (Disrupt (At 1 0) (At 2 0)) (At 3 0)

pub transfer_turns_positions : positions transfer_turns ≡
    node (op.Star 5) None ∷ node (op.Disrupt 3) (Some 0) ∷ node (op.At 1) (Some 1) ∷ node (op.Waits 1) (Some 0) ∷ node (op.At 2) (Some 0) ∷ node (op.At 3) None ∷ []
unfolding positions
transfer_turns_positions = refl

pub sizes : map size (turn ∷ in_a_row ∷ choice ∷ merge ∷ within_stars ∷ transfer ∷ transfer_turns ∷ []) ≡ 3 ∷ 5 ∷ 5 ∷ 5 ∷ 7 ∷ 8 ∷ 6 ∷ []
sizes = refl

-- the atoms that may come next, of a body in which none has times, and what comes where each happens: both sides of a star, of
-- a choice and of a merge, and the first part of a sequence

pub turn_entries : entries_of [] 0 turn ≡ led (behind.Entered 0) (entry [] 1 1) ∷ entry [] 2 2 ∷ []
turn_entries = refl

pub in_a_row_entries : entries_of [] 2 (part in_a_row 2) ≡ led (behind.Entered 4) (entry [] 3 2) ∷ []
in_a_row_entries = refl

pub choice_entries : entries_of [] 0 choice ≡ led (behind.Entered 3) (entry [] 2 1) ∷ entry [] 4 3 ∷ []
choice_entries = refl

pub merge_entries : entries_of [] 0 merge ≡ led behind.Parted (entry [] 2 1) ∷ led behind.Parted (entry [] 3 2) ∷ []
merge_entries = refl

pub within_stars_entries : entries_of [] 0 within_stars ≡
    led (behind.Entered 1) (entry [] 3 1) ∷ led (behind.Entered 1) (entry [] 4 2) ∷ led (behind.Entered 0) (entry [] 5 3) ∷ entry [] 6 4 ∷ []
within_stars_entries = refl

-- of a disrupt, whose first side each atom parts; and of its right side in wait, which each atom parts
pub transfer_entries : entries_of [] 0 transfer ≡ led behind.Parted (led (behind.Entered 3) (entry [] 2 1)) ∷ led (behind.Entered 7) (entry [] 6 3) ∷ []
transfer_entries = refl

pub transfer_list : list_of [] transfer 0 ≡ led behind.Parted (led (behind.Entered 3) (entry [] 2 1)) ∷ led (behind.Entered 7) (entry [] 6 3) ∷ []
unfolding positions
transfer_list = refl

pub transfer_wait_list : list_of [] transfer 4 ≡ led behind.Parted (led (behind.Entered 7) (entry [] 6 3)) ∷ []
unfolding positions
transfer_wait_list = refl

-- tests before both
pub tested_turns_entries : (settings : List Setting) (first second : Expr) → entries_of [] 1 (part (tested_turns settings first second) 1) ≡ led (behind.Entered 1) (gate 2) ∷ gate 4 ∷ []
tested_turns_entries settings first second = refl
