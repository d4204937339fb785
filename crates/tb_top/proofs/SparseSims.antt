-- The log of a simulation never has two successive `quiet` entries.
use Rattle.std.proofs.Common.{◌≡◌, ◌+◌, zero, suc, List, [], ◌∷◌, ◌++◌, Bool, true, false, if◌then◌else◌, Option, Some, None, refl, sym, ◌∙◌, subst}
use Rattle.std.specs.Prelude.{nat_le, slice_get}
use Rattle.std.proofs.lemmas.Bool.{false≢true}
use Rattle.tb_bus.specs.Steps.{Step, steps}
use Rattle.tb_bus.specs.Traces.{fed, taken_out}
use Rattle.tb_core.specs.Cores.{says_quiet}
use Rattle.tb_lock.specs.Histories.{IsSparse}
use Rattle.tb_log.specs.Limits.{has_room}
use Rattle.tb_log.specs.declared.entry.Input.{Input}
use Rattle.tb_log.specs.declared.entry.Input.TheVariants.{NoTicks}
use Rattle.tb_log.specs.declared.entry.Entry.{Entry}
use Rattle.tb_log.specs.declared.entry.Entry.TheVariants.{Did, Quiet, Fed, Gave}
use Rattle.tb_sim.specs.Simulation.{Handing, IsSim, Limits, Sim, Ends, Makes, first_handing, input_turn, makes, outside_turn, step_turn, turn_by}
use Rattle.tb_sim.specs.declared.ends.SimEnd.{SimEnd}
use Rattle.tb_sim.specs.declared.ends.SimEnd.TheVariants.{Down, Steps, Events}

-- a `quiet` entry follows none, and the simulation then knows it
record Says (sim : Sim) (entry : Entry) (next : Sim) : Type 0 where
  before : says_quiet (Some entry) ≡ true → sim.quiet ≡ false
  after : says_quiet (Some entry) ≡ true → next.quiet ≡ true

other-says : (sim : Sim) (entry : Entry) (next : Sim) → says_quiet (Some entry) ≡ false → Says sim entry next
other-says sim entry next other = record { before = λ e. absurd (false≢true (sym other ∙ e)); after = λ e. absurd (false≢true (sym other ∙ e)) }

made-says : (sim : Sim) (entry other : Entry) (next last : Sim) → Makes entry next ≡ Makes other last → Says sim entry next → Says sim other last
made-says sim entry other next last e h =
    let same : entry ≡ other = cc in
    let on : next ≡ last = cc in
    subst (λ (s : Sim). Says sim other s) on (subst (λ (x : Entry). Says sim x next) same h)

-- also where it is made only if the log has room
room-says : (sim : Sim) (entry other : Entry) (next last : Sim) (room : Bool) → (if room then Makes entry (record next { log = sim.log ++ entry ∷ [] }) else Ends Events) ≡ Makes other last → Says sim entry (record next { log = sim.log ++ entry ∷ [] }) →
    Says sim other last
room-says sim entry other next last true e h = made-says sim entry other (record next { log = sim.log ++ entry ∷ [] }) last e h
room-says sim entry other next last false e h = absurd cc

input-says : (limits : Limits) (sim : Sim) (input : Input) (left : List Input) (entry : Entry) (next : Sim) → input_turn limits sim input left ≡ Makes entry next → Says sim entry next
input-says limits sim input left entry next e =
    let said : Entry = Fed input (fed sim.bus input).reply in
    let then_so : Sim = record sim { bus = (fed sim.bus input).bus; quiet = false; left = left } in
    room-says sim said entry then_so next (has_room limits.entries sim.log said) e (other-says sim said (record then_so { log = sim.log ++ said ∷ [] }) refl)

outside-says : (limits : Limits) (sim : Sim) (left : List Input) (entry : Entry) (next : Sim) → outside_turn limits sim left ≡ Makes entry next → Says sim entry next
outside-says limits sim [] entry next e = input-says limits sim NoTicks [] entry next e
outside-says limits sim (input ∷ left) entry next e = input-says limits sim input left entry next e

quiet-says : (limits : Limits) (sim : Sim) (quiet : Bool) → sim.quiet ≡ quiet → (entry : Entry) (next : Sim) →
    (if quiet
    then outside_turn limits sim sim.left
    else makes limits sim Quiet (record sim { quiet = true })) ≡ Makes entry next → Says sim entry next
quiet-says limits sim true is entry next e = outside-says limits sim sim.left entry next e
quiet-says limits sim false is entry next e = room-says sim Quiet entry (record sim { quiet = true }) next (has_room limits.entries sim.log Quiet) e (record { before = λ said. is; after = λ said. refl })

step-says : (limits : Limits) (sim : Sim) (step : Step) (limit : Bool) (entry : Entry) (next : Sim) →
    (if limit then Ends Steps else makes limits sim (Did step.label) (record sim { bus = step.bus; steps_made = sim.steps_made + 1; quiet = false })) ≡ Makes entry next → Says sim entry next
step-says limits sim step true entry next e = absurd cc
step-says limits sim step false entry next e =
    let then_so : Sim = record sim { bus = step.bus; steps_made = sim.steps_made + 1; quiet = false } in
    room-says sim (Did step.label) entry then_so next (has_room limits.entries sim.log (Did step.label)) e (other-says sim (Did step.label) (record then_so { log = sim.log ++ Did step.label ∷ [] }) refl)

steps-say : (limits : Limits) (sim : Sim) (ss : List Step) (entry : Entry) (next : Sim) → step_turn limits sim ss ≡ Makes entry next → Says sim entry next
steps-say limits sim [] entry next e = quiet-says limits sim sim.quiet refl entry next e
steps-say limits sim (step ∷ rest) entry next e = step-says limits sim step (nat_le limits.steps sim.steps_made) entry next e

up-says : (limits : Limits) (sim : Sim) (down : Bool) (entry : Entry) (next : Sim) → (if down then Ends Down else step_turn limits sim (steps sim.bus)) ≡ Makes entry next → Says sim entry next
up-says limits sim true entry next e = absurd cc
up-says limits sim false entry next e = steps-say limits sim (steps sim.bus) entry next e

turn-says : (limits : Limits) (sim : Sim) (found : Option Handing) (entry : Entry) (next : Sim) → turn_by limits sim found ≡ Makes entry next → Says sim entry next
turn-says limits sim None entry next e = up-says limits sim sim.bus.down entry next e
turn-says limits sim (Some handing) entry next e =
    let said : Entry = Gave handing.lane handing.out in
    let then_so : Sim = record sim { bus = taken_out handing.lane sim.bus; quiet = false } in
    room-says sim said entry then_so next (has_room limits.entries sim.log said) e (other-says sim said (record then_so { log = sim.log ++ said ∷ [] }) refl)

not-said : (b : Bool) → (b ≡ true → ⊥) → b ≡ false
not-said true never = absurd (never refl)
not-said false never = refl

sparse-cons : (sim next : Sim) (entry : Entry) (log : List Entry) → Says sim entry next → IsSparse log → (next.quiet ≡ true → says_quiet (slice_get log 0) ≡ false) → IsSparse (entry ∷ log)
sparse-cons sim next entry log says rest first zero said = first (says.after said)
sparse-cons sim next entry log says rest first (suc index) said = rest index said

sparse-from : (limits : Limits) (sim : Sim) (log : List Entry) (end : SimEnd) → IsSim limits sim log end → IsSparse log × (sim.quiet ≡ true → says_quiet (slice_get log 0) ≡ false)
sparse-from limits sim [] end h = (λ index e. refl, λ quiet. refl)
sparse-from limits sim (entry ∷ log) end h =
    let says = turn-says limits sim (first_handing sim.bus.bench) entry h.0 h.1 in
    let rest = sparse-from limits h.0 log end h.2 in
    (sparse-cons sim h.0 entry log says rest.0 rest.1, λ quiet. not-said (says_quiet (Some entry)) (λ said. false≢true (sym (says.before said) ∙ quiet)))

pub sparse-sim : (limits : Limits) (sim : Sim) (log : List Entry) (end : SimEnd) → IsSim limits sim log end → IsSparse log
sparse-sim limits sim log end h = (sparse-from limits sim log end h).0
