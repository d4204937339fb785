-- What a simulation logs is a trace.
use Rattle.std.proofs.Common.{◌≡◌, ℕ, ◌+◌, ap, length, Option, Some, None, option_map, option_and_then, List, [], ◌∷◌, ◌++◌, refl, sym, ◌∙◌, subst, Bool, true, false, nat_le, if◌then◌else◌}
use Rattle.std.specs.List.{All}
use Rattle.std.proofs.lemmas.List.Elements.{All-head, All-tail}
use Rattle.tb_bus.specs.Buses.{Bus}
use Rattle.tb_bus.specs.Steps.{Step, steps}
use Rattle.tb_log.specs.Shapes.{IsInputInShape, IsLane}
use Rattle.tb_log.specs.declared.entry.Out.{Out}
use Rattle.tb_tools.specs.Lanes.{BenchState, HasLanes}
use Rattle.tb_tools.specs.Finding.{first_out, next_out}
use Rattle.tb_bus.specs.Traces.{IsLegal, IsTrace, after, fed, taken_out}
use Rattle.tb_bus.proofs.LaneLemmas.{legal-lanes, first_out-lane}
use Rattle.tb_sim.specs.Simulation.{Limits, Sim, Ends, Makes, Handing, makes, input_turn, outside_turn, step_turn, turn_by, handing_on, first_handing, IsSim, IsSimPrefix}
use Rattle.tb_log.specs.Limits.{has_room}
use Rattle.tb_log.specs.declared.entry.Input.{Input}
use Rattle.tb_log.specs.declared.entry.Input.TheVariants.{NoTicks}
use Rattle.tb_log.specs.declared.entry.Entry.{Entry}
use Rattle.tb_log.specs.declared.entry.Entry.TheVariants.{Did, Quiet, Fed, Gave}
use Rattle.tb_sim.specs.declared.ends.SimEnd.{SimEnd}
use Rattle.tb_sim.specs.declared.ends.SimEnd.TheVariants.{Down, Steps, Events}
use Rattle.tb_bus.proofs.TraceLemmas.{after-first, legal-first}

-- the entry is legal, and leads to where the simulation goes on
abbrev Leads : Sim → Entry → Sim → Type 0
Leads sim entry next = IsLegal sim.bus entry (after sim.bus entry) × (after sim.bus entry ≡ next.bus)

makes-leads : (sim : Sim) (entry other : Entry) (next last : Sim) → Makes entry next ≡ Makes other last → Leads sim entry next → Leads sim other last
makes-leads sim entry other next last e h =
    let same : entry ≡ other = cc in
    let on : next ≡ last = cc in
    subst (λ (s : Sim). Leads sim other s) on (subst (λ (x : Entry). Leads sim x next) same h)

-- also where it is made only if the log has room
room-leads : (sim : Sim) (entry other : Entry) (next last : Sim) (room : Bool) → (if room then Makes entry (record next { log = sim.log ++ entry ∷ [] }) else Ends Events) ≡ Makes other last → Leads sim entry next → Leads sim other last
room-leads sim entry other next last true e h = makes-leads sim entry other (record next { log = sim.log ++ entry ∷ [] }) last e h
room-leads sim entry other next last false e h = absurd cc

input-leads : (limits : Limits) (sim : Sim) (input : Input) (left : List Input) → IsInputInShape input → (entry : Entry) (next : Sim) → input_turn limits sim input left ≡ Makes entry next → Leads sim entry next
input-leads limits sim input left form entry next e =
    let said : Entry = Fed input (fed sim.bus input).reply in
    room-leads sim said entry (record sim { bus = (fed sim.bus input).bus; quiet = false; left = left }) next (has_room limits.entries sim.log said) e ((form, refl), refl)

outside-leads : (limits : Limits) (sim : Sim) (left : List Input) → All IsInputInShape left → (entry : Entry) (next : Sim) → outside_turn limits sim left ≡ Makes entry next → Leads sim entry next
outside-leads limits sim [] forms entry next e = input-leads limits sim NoTicks [] tt entry next e
outside-leads limits sim (input ∷ left) forms entry next e = input-leads limits sim input left (All-head IsInputInShape input left forms) entry next e

quiet-leads : (limits : Limits) (sim : Sim) → steps sim.bus ≡ [] → sim.bus.down ≡ false → All IsInputInShape sim.left → (quiet : Bool) (entry : Entry) (next : Sim) →
    (if quiet
    then outside_turn limits sim sim.left
    else makes limits sim Quiet (record sim { quiet = true })) ≡ Makes entry next → Leads sim entry next
quiet-leads limits sim none up forms true entry next e = outside-leads limits sim sim.left forms entry next e
quiet-leads limits sim none up forms false entry next e = room-leads sim Quiet entry (record sim { quiet = true }) next (has_room limits.entries sim.log Quiet) e ((none, up, refl), refl)

step-leads : (limits : Limits) (sim : Sim) (step : Step) (rest : List Step) → steps sim.bus ≡ step ∷ rest → (limit : Bool) (entry : Entry) (next : Sim) →
    (if limit then Ends Steps else makes limits sim (Did step.label) (record sim { bus = step.bus; steps_made = sim.steps_made + 1; quiet = false })) ≡ Makes entry next → Leads sim entry next
step-leads limits sim step rest h true entry next e = absurd cc
step-leads limits sim step rest h false entry next e =
    room-leads sim (Did step.label) entry (record sim { bus = step.bus; steps_made = sim.steps_made + 1; quiet = false }) next (has_room limits.entries sim.log (Did step.label)) e
    ((legal-first sim.bus step rest h).0, after-first sim.bus step rest h)

steps-lead : (limits : Limits) (sim : Sim) (ss : List Step) → steps sim.bus ≡ ss → sim.bus.down ≡ false → All IsInputInShape sim.left → (entry : Entry) (next : Sim) → step_turn limits sim ss ≡ Makes entry next → Leads sim entry next
steps-lead limits sim [] h up forms entry next e = quiet-leads limits sim h up forms sim.quiet entry next e
steps-lead limits sim (step ∷ rest) h up forms entry next e = step-leads limits sim step rest h (nat_le limits.steps sim.steps_made) entry next e

up-leads : (limits : Limits) (sim : Sim) (down : Bool) → sim.bus.down ≡ down → All IsInputInShape sim.left → (entry : Entry) (next : Sim) → (if down then Ends Down else step_turn limits sim (steps sim.bus)) ≡ Makes entry next → Leads sim entry next
up-leads limits sim true d forms entry next e = absurd cc
up-leads limits sim false d forms entry next e = steps-lead limits sim (steps sim.bus) refl d forms entry next e

-- the item that is sent first is the next one of an existing lane
pub record IsHanding (bench : BenchState) (handing : Handing) : Type 0 where
  pub lane : IsLane handing.lane
  pub next : next_out handing.lane bench ≡ Some handing.out

handing-by : (bench : BenchState) (lane : ℕ) (found : Option Out) (handing : Handing) → IsLane lane → next_out lane bench ≡ found → option_map (λ (out : Out). let h : Handing = record { lane = lane; out = out } in h) found ≡ Some handing → IsHanding bench handing
handing-by bench lane None handing is next e = cc
handing-by bench lane (Some out) handing is next e =
    let same : (let h : Handing = record { lane = lane; out = out } in h) ≡ handing = cc in
    subst (IsHanding bench) same (record { lane = is; next = next })

lane-by : (bench : BenchState) (first : Option ℕ) (handing : Handing) → length bench.lanes ≡ 16 → first_out bench ≡ first → option_and_then (handing_on bench) first ≡ Some handing → IsHanding bench handing
lane-by bench None handing lanes e h = cc
lane-by bench (Some lane) handing lanes e h = handing-by bench lane (next_out lane bench) handing (first_out-lane bench lane lanes e) refl h

turn-leads : (limits : Limits) (sim : Sim) (found : Option Handing) → HasLanes sim.bus.bench → first_handing sim.bus.bench ≡ found → All IsInputInShape sim.left → (entry : Entry) (next : Sim) → turn_by limits sim found ≡ Makes entry next → Leads sim entry next
turn-leads limits sim None lanes f forms entry next e = up-leads limits sim sim.bus.down refl forms entry next e
turn-leads limits sim (Some handing) lanes f forms entry next e =
    let is = lane-by sim.bus.bench (first_out sim.bus.bench) handing lanes refl f in
    room-leads sim (Gave handing.lane handing.out) entry (record sim { bus = taken_out handing.lane sim.bus; quiet = false }) next
    (has_room limits.entries sim.log (Gave handing.lane handing.out)) e ((is.lane, is.next, refl), refl)

-- What is left of the feed after a turn is in shape, as all of it was.

makes-forms : (entry other : Entry) (next last : Sim) → Makes entry next ≡ Makes other last → All IsInputInShape next.left → All IsInputInShape last.left
makes-forms entry other next last e forms = let on : next ≡ last = cc in subst (λ (s : Sim). All IsInputInShape s.left) on forms

room-forms : (sim : Sim) (entry other : Entry) (next last : Sim) (room : Bool) → (if room then Makes entry (record next { log = sim.log ++ entry ∷ [] }) else Ends Events) ≡ Makes other last → All IsInputInShape next.left → All IsInputInShape last.left
room-forms sim entry other next last true e forms = makes-forms entry other (record next { log = sim.log ++ entry ∷ [] }) last e forms
room-forms sim entry other next last false e forms = absurd cc

input-forms : (limits : Limits) (sim : Sim) (input : Input) (left : List Input) → All IsInputInShape left → (entry : Entry) (next : Sim) → input_turn limits sim input left ≡ Makes entry next → All IsInputInShape next.left
input-forms limits sim input left forms entry next e =
    let said : Entry = Fed input (fed sim.bus input).reply in
    room-forms sim said entry (record sim { bus = (fed sim.bus input).bus; quiet = false; left = left }) next (has_room limits.entries sim.log said) e forms

outside-forms : (limits : Limits) (sim : Sim) (left : List Input) → All IsInputInShape left → (entry : Entry) (next : Sim) → outside_turn limits sim left ≡ Makes entry next → All IsInputInShape next.left
outside-forms limits sim [] forms entry next e = input-forms limits sim NoTicks [] forms entry next e
outside-forms limits sim (input ∷ left) forms entry next e = input-forms limits sim input left (All-tail IsInputInShape input left forms) entry next e

quiet-forms : (limits : Limits) (sim : Sim) (quiet : Bool) → All IsInputInShape sim.left → (entry : Entry) (next : Sim) →
    (if quiet then outside_turn limits sim sim.left else makes limits sim Quiet (record sim { quiet = true })) ≡ Makes entry next → All IsInputInShape next.left
quiet-forms limits sim true forms entry next e = outside-forms limits sim sim.left forms entry next e
quiet-forms limits sim false forms entry next e = room-forms sim Quiet entry (record sim { quiet = true }) next (has_room limits.entries sim.log Quiet) e forms

step-forms : (limits : Limits) (sim : Sim) (step : Step) (limit : Bool) → All IsInputInShape sim.left → (entry : Entry) (next : Sim) →
    (if limit then Ends Steps else makes limits sim (Did step.label) (record sim { bus = step.bus; steps_made = sim.steps_made + 1; quiet = false })) ≡ Makes entry next → All IsInputInShape next.left
step-forms limits sim step true forms entry next e = absurd cc
step-forms limits sim step false forms entry next e =
    room-forms sim (Did step.label) entry (record sim { bus = step.bus; steps_made = sim.steps_made + 1; quiet = false }) next (has_room limits.entries sim.log (Did step.label)) e forms

steps-forms : (limits : Limits) (sim : Sim) (ss : List Step) → All IsInputInShape sim.left → (entry : Entry) (next : Sim) → step_turn limits sim ss ≡ Makes entry next → All IsInputInShape next.left
steps-forms limits sim [] forms entry next e = quiet-forms limits sim sim.quiet forms entry next e
steps-forms limits sim (step ∷ rest) forms entry next e = step-forms limits sim step (nat_le limits.steps sim.steps_made) forms entry next e

up-forms : (limits : Limits) (sim : Sim) (down : Bool) → All IsInputInShape sim.left → (entry : Entry) (next : Sim) → (if down then Ends Down else step_turn limits sim (steps sim.bus)) ≡ Makes entry next → All IsInputInShape next.left
up-forms limits sim true forms entry next e = absurd cc
up-forms limits sim false forms entry next e = steps-forms limits sim (steps sim.bus) forms entry next e

turn-forms : (limits : Limits) (sim : Sim) (found : Option Handing) → All IsInputInShape sim.left → (entry : Entry) (next : Sim) → turn_by limits sim found ≡ Makes entry next → All IsInputInShape next.left
turn-forms limits sim None forms entry next e = up-forms limits sim sim.bus.down forms entry next e
turn-forms limits sim (Some handing) forms entry next e =
    room-forms sim (Gave handing.lane handing.out) entry (record sim { bus = taken_out handing.lane sim.bus; quiet = false }) next (has_room limits.entries sim.log (Gave handing.lane handing.out)) e forms

-- so far
pub prefix-trace : (limits : Limits) (sim : Sim) (log : List Entry) → HasLanes sim.bus.bench → All IsInputInShape sim.left → IsSimPrefix limits sim log → IsTrace sim.bus log
prefix-trace limits sim [] lanes forms h = tt
prefix-trace limits sim (entry ∷ log) lanes forms h =
    let t = turn-leads limits sim (first_handing sim.bus.bench) lanes refl forms entry h.0 h.1 in
    let left = turn-forms limits sim (first_handing sim.bus.bench) forms entry h.0 h.1 in
    let still : HasLanes h.0.bus.bench = ap (λ (b : Bus). length b.bench.lanes) (sym t.1) ∙ legal-lanes sim.bus entry t.0 ∙ lanes in
    (t.0, subst (λ (b : Bus). IsTrace b log) (sym t.1) (prefix-trace limits h.0 log still left h.2))

-- and to the end
whole-prefix : (limits : Limits) (sim : Sim) (log : List Entry) (end : SimEnd) → IsSim limits sim log end → IsSimPrefix limits sim log
whole-prefix limits sim [] end h = tt
whole-prefix limits sim (entry ∷ log) end h = (h.0, h.1, whole-prefix limits h.0 log end h.2)

pub sim-trace : (limits : Limits) (sim : Sim) (log : List Entry) (end : SimEnd) → HasLanes sim.bus.bench → All IsInputInShape sim.left → IsSim limits sim log end → IsTrace sim.bus log
sim-trace limits sim log end lanes forms h = prefix-trace limits sim log lanes forms (whole-prefix limits sim log end h)

-- There is one such log, and one end.

same-turn : (entry other : Entry) (next last : Sim) → Makes entry next ≡ Makes other last → (entry ≡ other) × (next ≡ last)
same-turn entry other next last e = let same : entry ≡ other = cc in let on : next ≡ last = cc in (same, on)

pub one-sim : (limits : Limits) (sim : Sim) (log more : List Entry) (end last : SimEnd) → IsSim limits sim log end → IsSim limits sim more last → (log ≡ more) × (end ≡ last)
one-sim limits sim [] [] end last h g = let both : Ends end ≡ Ends last = sym h ∙ g in let same : end ≡ last = cc in (refl, same)
one-sim limits sim [] (other ∷ more) end last h g = let both : Ends end ≡ Makes other g.0 = sym h ∙ g.1 in absurd cc
one-sim limits sim (entry ∷ log) [] end last h g = let both : Ends last ≡ Makes entry h.0 = sym g ∙ h.1 in absurd cc
one-sim limits sim (entry ∷ log) (other ∷ more) end last h g =
    let both = same-turn entry other h.0 g.0 (sym h.1 ∙ g.1) in
    let rest = one-sim limits h.0 log more end last h.2 (subst (λ (s : Sim). IsSim limits s more last) (sym both.1) g.2) in
    (λ i. both.0 i ∷ rest.0 i, rest.1)
