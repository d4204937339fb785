-- Worked terms, computed from the definitions alone.
use Rattle.std.proofs.Common.{◌≡◌, ℕ, pos, negsuc, Bool, true, false, ◌&&◌, List, [], ◌∷◌, map, Option, Some, None, option_map, option_and_then, slice_get, refl}
use Rattle.tb_body.specs.declared.atom.TimeKind.TheVariants.{Delay, Timeout, AbsDelay, AbsTimeout}
use Rattle.tb_process_steps.specs.Processes.{Process, At, Seq, Alt, Star, Par, Disrupt, aged}
use Rattle.tb_process_steps.specs.Offers.{Offered, offers}
use Rattle.tb_process_steps.specs.Atoms.{holds_for}
use Rattle.tb_process_steps.specs.Walks.{Walking, ticked}

abbrev pub turn : Process
turn = Star (At 1 0) (At 2 0)

-- a star that has waited two ticks has not chosen yet, and its next turn is new
pub star_waits : aged (aged turn) ≡ Alt (Seq (At 1 2) turn) (At 2 2)
star_waits = refl

pub star_continues : offers (aged (aged turn)) [] ≡
    record { atom = 1; age = 2; store = []; residual = Some turn } ∷ record { atom = 2; age = 2; store = []; residual = None } ∷ []
star_continues = refl

-- the side of a merge that waits keeps its age
pub merge_waits : offers (aged (Par (At 1 0) (At 2 0))) [] ≡
    record { atom = 1; age = 1; store = []; residual = Some (At 2 1) } ∷ record { atom = 2; age = 1; store = []; residual = Some (At 1 1) } ∷ []
merge_waits = refl

-- what comes later in a sequence is new when it is entered
pub sequence_enters : offers (aged (Seq (At 1 0) (Seq (At 2 0) (At 3 0)))) [] ≡
    record { atom = 1; age = 1; store = []; residual = Some (Seq (At 2 0) (At 3 0)) } ∷ []
sequence_enters = refl

-- a choice within a merge drops its other side, and a star there goes on beside the other
pub nested : offers (Par (Alt (At 1 0) (At 2 0)) (Star (Seq (At 3 0) (At 4 0)) (At 5 0))) [] ≡
    record { atom = 1; age = 0; store = []; residual = Some (Star (Seq (At 3 0) (At 4 0)) (At 5 0)) }
    ∷ record { atom = 2; age = 0; store = []; residual = Some (Star (Seq (At 3 0) (At 4 0)) (At 5 0)) }
    ∷ record { atom = 3; age = 0; store = []; residual = Some (Par (Alt (At 1 0) (At 2 0)) (Seq (At 4 0) (Star (Seq (At 3 0) (At 4 0)) (At 5 0)))) }
    ∷ record { atom = 5; age = 0; store = []; residual = Some (Alt (At 1 0) (At 2 0)) } ∷ []
nested = refl

-- the right side of a disrupt stays where its left side makes a step, as old as it is, and a step of its own drops the left
pub disrupt_waits : offers (aged (Disrupt (Seq (At 1 0) (At 2 0)) (Seq (At 3 0) (At 4 0)))) [] ≡
    record { atom = 1; age = 1; store = []; residual = Some (Disrupt (At 2 0) (Seq (At 3 1) (At 4 0))) }
    ∷ record { atom = 3; age = 1; store = []; residual = Some (At 4 0) } ∷ []
disrupt_waits = refl

-- with its left side the disrupt has ended
pub disrupt_ends : offers (Disrupt (At 1 0) (At 2 0)) [] ≡
    record { atom = 1; age = 0; store = []; residual = None } ∷ record { atom = 2; age = 0; store = []; residual = None } ∷ []
disrupt_ends = refl

-- a disrupt on the left of another
pub disrupts_within : offers (Disrupt (Disrupt (Seq (At 1 0) (At 2 0)) (Seq (At 3 0) (At 4 0))) (At 5 0)) [] ≡
    record { atom = 1; age = 0; store = []; residual = Some (Disrupt (Disrupt (At 2 0) (Seq (At 3 0) (At 4 0))) (At 5 0)) }
    ∷ record { atom = 3; age = 0; store = []; residual = Some (Disrupt (At 4 0) (At 5 0)) }
    ∷ record { atom = 5; age = 0; store = []; residual = None } ∷ []
disrupts_within = refl

-- what is left where the offer at a position is taken
abbrev pub left_at : ℕ → Process → Option Process
left_at k term = option_and_then (λ (offered : Offered). offered.residual) (slice_get (offers term []) k)

-- the ages of its offers
abbrev pub ages_of : Process → List ℕ
ages_of term = map (λ (offered : Offered). offered.age) (offers term [])

-- `delay(2) timeout(2)` at this age
abbrev pub at_two : ℕ → Bool
at_two age = holds_for Delay (pos 2) age 9 && holds_for Timeout (pos 2) age 9

pub holds_at_two : map at_two (0 ∷ 1 ∷ 2 ∷ 3 ∷ []) ≡ false ∷ false ∷ true ∷ false ∷ []
holds_at_two = refl

-- A star over five ticks, whose first side is taken at the second and at the fourth: at age 2 in both turns. The next
-- turn has age 0.
pub first_turn : map at_two (ages_of turn) ≡ false ∷ false ∷ []
first_turn = refl

pub first_turn_waits : map at_two (ages_of (aged turn)) ≡ false ∷ false ∷ []
first_turn_waits = refl

pub first_turn_ready : map at_two (ages_of (aged (aged turn))) ≡ true ∷ true ∷ []
first_turn_ready = refl

pub second_turn : option_map ages_of (left_at 0 (aged (aged turn))) ≡ Some (0 ∷ 0 ∷ [])
second_turn = refl

pub second_turn_ready : option_map (λ left. ages_of (aged (aged left))) (left_at 0 (aged (aged turn))) ≡ Some (2 ∷ 2 ∷ [])
second_turn_ready = refl

pub third_turn : option_map (λ left. option_map (λ (last : Process). ages_of (aged last)) (left_at 0 (aged (aged left)))) (left_at 0 (aged (aged turn))) ≡ Some (Some (1 ∷ 1 ∷ []))
third_turn = refl

-- a merge over two ticks, whose first side is taken between them: the other side has waited for both
pub merge_continues : option_map (λ left. aged left) (left_at 0 (aged (Par (At 1 0) (At 2 0)))) ≡ Some (At 2 2)
merge_continues = refl

pub merge_ready : map (λ age. holds_for Delay (pos 2) age 9) (0 ∷ 1 ∷ 2 ∷ []) ≡ false ∷ false ∷ true ∷ []
merge_ready = refl

-- the right side of a sequence has age 0 as it is entered, however long the left has waited, and ages from then on
pub right_side_enters : left_at 0 (aged (aged (Seq (At 1 0) (At 2 0)))) ≡ Some (At 2 0)
right_side_enters = refl

pub right_side_ages : option_map aged (left_at 0 (aged (aged (Seq (At 1 0) (At 2 0))))) ≡ Some (At 2 1)
right_side_ages = refl

-- `timeout(2)` and then `delay(3)`, in a choice over three ticks
pub choice_waits : ages_of (aged (aged (aged (Alt (At 1 0) (At 2 0))))) ≡ 3 ∷ 3 ∷ []
choice_waits = refl

pub choice_turns : map (λ age. holds_for Timeout (pos 2) age 9) (0 ∷ 2 ∷ 3 ∷ []) ≡ true ∷ true ∷ false ∷ []
choice_turns = refl

pub choice_opens : map (λ age. holds_for Delay (pos 3) age 9) (0 ∷ 2 ∷ 3 ∷ []) ≡ false ∷ false ∷ true ∷ []
choice_opens = refl

-- by the ticks of the bus, whatever the age
pub opens_late : map (holds_for AbsDelay (pos 5) 9) (4 ∷ 5 ∷ 6 ∷ []) ≡ false ∷ true ∷ true ∷ []
opens_late = refl

pub closes_late : map (holds_for AbsTimeout (pos 5) 9) (4 ∷ 5 ∷ 6 ∷ []) ≡ true ∷ true ∷ false ∷ []
closes_late = refl

-- below 0: what is waited for has come, and what may be waited for is over
pub before_all : holds_for Delay (negsuc 0) 0 0 ≡ true
before_all = refl

pub after_all : holds_for Timeout (negsuc 0) 0 0 ≡ false
after_all = refl

-- at the end of 64 bits
pub greatest_delay : map (λ age. holds_for Delay (pos 9223372036854775807) age 0) (9223372036854775806 ∷ 9223372036854775807 ∷ 18446744073709551615 ∷ []) ≡ false ∷ true ∷ true ∷ []
greatest_delay = refl

pub greatest_timeout : map (λ age. holds_for Timeout (pos 9223372036854775807) age 0) (9223372036854775807 ∷ 9223372036854775808 ∷ 18446744073709551615 ∷ []) ≡ true ∷ false ∷ false ∷ []
greatest_timeout = refl

-- a process that has ended sees ticks too
pub end_waits : ◌≡◌ {A = Walking} (ticked (record { term = None; store = []; ticks = 3 })) (record { term = None; store = []; ticks = 4 })
end_waits = refl

-- a disrupt over three ticks, whose left side makes a step after the first: the right side has waited for all three
pub disrupt_continues : option_map (λ left. ages_of (aged (aged left))) (left_at 0 (aged (Disrupt (Seq (At 1 0) (At 2 0)) (At 3 0)))) ≡ Some (2 ∷ 3 ∷ [])
disrupt_continues = refl

-- where a disrupt ends, what follows it in a sequence or a star is entered
pub disrupt_then : left_at 0 (Seq (Disrupt (At 1 0) (At 2 0)) (At 3 0)) ≡ Some (At 3 0)
disrupt_then = refl

pub disrupt_turns : left_at 1 (aged (Star (Disrupt (At 1 0) (At 2 0)) (At 3 0))) ≡ Some (Star (Disrupt (At 1 0) (At 2 0)) (At 3 0))
disrupt_turns = refl
