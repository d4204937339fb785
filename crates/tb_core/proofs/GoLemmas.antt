-- The first of the moves of a bus, and the entry that a step logs for it.
use Rattle.std.proofs.Common.{◌≡◌, ◌≤◌, ◌+◌, ℕ, List, [], ◌∷◌, length, refl, ap, sym, ◌∙◌, arith, Option, Some, None, Bool, true, false, not, is_some, option_map, option_to_list, if◌then◌else◌}
use Rattle.tb_bus.specs.Buses.{Bus}
use Rattle.tb_bus.specs.Steps.{Move, moves, moves_while_up, steps, step_of, label_of, apply, first}
use Rattle.tb_bus.specs.Traces.{IsTrace, replay}
use Rattle.tb_core.specs.Cores.{CoreState, has_any, lacks_room, step_entry}
use Rattle.tb_log.specs.Limits.{has_room}
use Rattle.tb_log.specs.declared.entry.Entry.{Entry}
use Rattle.tb_log.specs.declared.entry.Entry.TheVariants.{Did, Quiet}
use Rattle.tb_bus.proofs.TraceLemmas.{steps-first, steps-none, after-first, legal-first, legal-quiet}
use Rattle.tb_core.proofs.CoreLemmas.{room-long}

-- a bus that is down makes no move
down-nothing : (down : Bool) (ms : List Move) → down ≡ true → (if down then [] else ms) ≡ []
down-nothing true ms e = refl
down-nothing false ms e = cc

pub moves-down : (bus : Bus) → bus.down ≡ true → first (moves bus) ≡ None
unfolding moves
moves-down bus e = ap first (down-nothing bus.down (moves_while_up bus bus.procs) e)

-- so one that makes a move is up
up-by : (bus : Bus) (move : Move) (down : Bool) → bus.down ≡ down → first (moves bus) ≡ Some move → down ≡ false
up-by bus move true e f = absurd (let none = moves-down bus e in let t : None ≡ Some move = sym none ∙ f in cc)
up-by bus move false e f = refl

up : (bus : Bus) (move : Move) → first (moves bus) ≡ Some move → bus.down ≡ false
up bus move f = up-by bus move bus.down refl f

-- a step is possible where a candidate is found
pub any-found : {C : Type 0} (bus : Bus) (move : C → Move) (found : Option C) → first (moves bus) ≡ option_map move found → is_some found ≡ has_any (steps bus)
any-found bus move None e = sym (ap has_any (steps-none bus e))
any-found bus move (Some found) e = sym (ap has_any (steps-first bus (move found) e).1)

-- what is logged is the first of the steps
pub did-entry : (bus : Bus) (said : Bool) (move : Move) → first (moves bus) ≡ Some move → step_entry bus.down said (steps bus) ≡ Some (Did (label_of move))
did-entry bus said move e =
    ap (λ down. step_entry down said (steps bus)) (up bus move e) ∙ ap (λ ss. step_entry false said ss) (steps-first bus move e).1

-- or that there is none, unless that was said last
abbrev pub quiet_if : Bool → Option Entry
quiet_if said = if said then None else Some Quiet

said-by : (said : Bool) → step_entry false said [] ≡ quiet_if said
said-by true = refl
said-by false = refl

pub quiet-entry : (bus : Bus) (said : Bool) → steps bus ≡ [] → bus.down ≡ false → step_entry bus.down said (steps bus) ≡ quiet_if said
quiet-entry bus said e f =
    ap (λ down. step_entry down said (steps bus)) f ∙ ap (λ ss. step_entry false said ss) e ∙ said-by said

pub quiet-listed : (said : Bool) → option_to_list (quiet_if said) ≡ (if said then [] else Quiet ∷ [])
quiet-listed true = refl
quiet-listed false = refl

-- it takes room only where it is said
pub quiet-room : (core : CoreState) (said : Bool) → (said ≡ false → has_room core.origin.limit core.log Quiet ≡ true) → lacks_room core (quiet_if said) ≡ false
quiet-room core true room = refl
quiet-room core false room = ap not (room refl)

-- or nothing on a bus that is down
pub down-entry : (bus : Bus) (said : Bool) → bus.down ≡ true → step_entry bus.down said (steps bus) ≡ None
down-entry bus said f = ap (λ down. step_entry down said (steps bus)) f

pub did-trace : (bus : Bus) (move : Move) → first (moves bus) ≡ Some move → IsTrace bus (Did (label_of move) ∷ [])
did-trace bus move e = legal-first bus (step_of bus move) (steps-first bus move e).0 (steps-first bus move e).1

pub did-replay : (bus : Bus) (move : Move) → first (moves bus) ≡ Some move → apply bus move ≡ replay bus (Did (label_of move) ∷ [])
did-replay bus move e = sym (after-first bus (step_of bus move) (steps-first bus move e).0 (steps-first bus move e).1)

-- nothing is logged where the log says quiet already
pub quiet-trace : (bus : Bus) (said : Bool) → steps bus ≡ [] → bus.down ≡ false → IsTrace bus (if said then [] else Quiet ∷ [])
quiet-trace bus true e f = tt
quiet-trace bus false e f = legal-quiet bus e f

pub quiet-replay : (bus : Bus) (said : Bool) → bus ≡ replay bus (if said then [] else Quiet ∷ [])
quiet-replay bus true = refl
quiet-replay bus false = refl

-- what says quiet where it is to be said is within the limit, where there is room for it
pub quiet-long : (limit : ℕ) (log : List Entry) (quiet : Bool) → length log ≤ limit → (quiet ≡ false → has_room limit log Quiet ≡ true) → length log + length (let said : List Entry = if quiet then [] else Quiet ∷ [] in said) ≤ limit
quiet-long limit log true within room = omega arith
quiet-long limit log false within room = room-long limit log Quiet (room refl)
