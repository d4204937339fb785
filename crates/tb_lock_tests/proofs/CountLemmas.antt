-- The number of a seat's own entries after a call.
use Rattle.std.proofs.Common.{◌≡◌, ◌+◌, ℕ, suc, List, [], ◌∷◌, map, length, Bool, true, false, if◌then◌else◌, Result, Ok, option_to_list, refl, sym, ap, ◌∙◌, length-append}
use Rattle.tb_log.specs.declared.entry.Entry.{Entry}
use Rattle.tb_log.specs.declared.entry.Input.{Input}
use Rattle.tb_log.specs.declared.entry.Reply.{Reply}
use Rattle.tb_bus.specs.Buses.{Bus}
use Rattle.tb_bus.specs.Steps.{steps, step_of, moves, moves_while_up}
use Rattle.tb_core.specs.declared.answers.CoreFault.{CoreFault}
use Rattle.tb_core.specs.declared.answers.Stepped.{Stepped}
use Rattle.tb_core.specs.declared.answers.Stepped.TheVariants.{Did}
use Rattle.tb_core.specs.Cores.{CoreState, Call, HandIn, MakeStep, bus_now, ends_quiet, step_entry, entries_of, IsStep}
use Rattle.tb_lock.specs.Histories.{indexed}
use Rattle.tb_lock.specs.Seats.{SeatView}
use Rattle.tb_lock.specs.Calls.{added, Called, IsReply}

-- a bus that has shut down has no step
down_stuck : (bus : Bus) → bus.down ≡ true → steps bus ≡ []
unfolding steps moves
down_stuck bus down = ap (λ (b : Bool). map (step_of bus) (if b then [] else moves_while_up bus bus.procs)) down

-- a step with the answer `Did` adds exactly one entry
pub one_step : (core : CoreState) → IsStep core Did → length (entries_of core MakeStep) ≡ 1
one_step core finds = by (bus_now core).down refl
  where
    by : (down : Bool) → (bus_now core).down ≡ down → length (entries_of core MakeStep) ≡ 1
    by true e = let none : finds.0 ∷ finds.1 ≡ [] = sym finds.2 ∙ down_stuck (bus_now core) e in absurd (cc)
    by false e = λ i. length (option_to_list (step_entry (e i) (ends_quiet core.log) (finds.2 i)))

length-indexed : (index : ℕ) (entries : List Entry) → length (indexed index entries) ≡ length entries
length-indexed index [] = refl
length-indexed index (entry ∷ entries) = ap (λ (n : ℕ). suc n) (length-indexed (index + 1) entries)

-- a call makes the number of a seat's own entries grow by the number of entries that it adds
pub mine_grows : {A : Type 0} (Finds : CoreState → A → Type 0) (call : Call) (old new : SeatView) (result : Result A CoreFault) (called : Called Finds call old new result) → length new.mine ≡ length old.mine + length (added result (entries_of called.core call))
mine_grows Finds call old new result called =
    let entries = added result (entries_of called.core call) in
    ap (λ (s : SeatView). length s.mine) called.seat
    ∙ length-append old.mine (indexed (length called.core.log) entries)
    ∙ ap (λ (n : ℕ). length old.mine + n) (length-indexed (length called.core.log) entries)

-- after a step with the answer `Did`, the seat has one more entry of its own
pub step_grows : (old new : SeatView) → Called IsStep MakeStep old new (Ok Did) → length new.mine ≡ length old.mine + 1
step_grows old new called = mine_grows IsStep MakeStep old new (Ok Did) called ∙ ap (λ (n : ℕ). length old.mine + n) (one_step called.core called.finds)

-- after an input was delivered, the seat has one more entry of its own
pub hand_grows : (input : Input) (old new : SeatView) (reply : Reply) → Called (IsReply input) (HandIn input) old new (Ok reply) → length new.mine ≡ length old.mine + 1
hand_grows input old new reply called = mine_grows (IsReply input) (HandIn input) old new (Ok reply) called

-- a call keeps the seat's bus, rights, and quota
pub called_keeps : {A : Type 0} (Finds : CoreState → A → Type 0) (call : Call) (old new : SeatView) (result : Result A CoreFault) → Called Finds call old new result → (new.bus ≡ old.bus) × (new.rights ≡ old.rights) × (new.room ≡ old.room)
called_keeps Finds call old new result called = (ap (λ (s : SeatView). s.bus) called.seat, ap (λ (s : SeatView). s.rights) called.seat, ap (λ (s : SeatView). s.room) called.seat)
