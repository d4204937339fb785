-- The turns of a simulation, by what each call of a core logged.
use Rattle.std.proofs.Common.{◌≡◌, ℕ, zero, suc, ◌+◌, ◌-◌, ◌<◌, ◌≤◌, ◌==◌, ◌&&◌, List, [], ◌∷◌, ◌++◌, length, drop, slice_get, refl, ap, sym, ◌∙◌, subst, arith, Option, Some, None, IsSome, Bool, true, false, nat_le, append-nil, append_assoc, eq-eqb, length-append}
use Rattle.std.specs.Prelude.{option_to_list}
use Rattle.std.proofs.lemmas.Bool.{eqb-true, not-true, not-false, leb-true}
use Rattle.tb_bus.specs.declared.origin.Origin.{Origin}
use Rattle.tb_bus.specs.Buses.{Bus, start}
use Rattle.tb_bus.specs.Steps.{Step, steps}
use Rattle.tb_bus.specs.Traces.{replay, fed, taken_out}
use Rattle.tb_tools.specs.Finding.{first_out, next_out}
use Rattle.tb_sim.specs.Simulation.{Limits, Sim, Ends, turn, input_turn, outside_turn, limits_of, IsSim, IsSimPrefix, sim_start}
use Rattle.tb_sim.specs.Helpers.Turns.{SimLeads, sim_of, entries_left, IsLonger, IsWithin, LedOn, LeftWithin, HandsIn, HandsInNext, HandsOut, Goes}
use Rattle.tb_core.specs.Cores.{CoreState, HandIn, HandOut, MakeStep, bus_now, Logs, Stays, entries_of, would_log, lacks_room, is_full, step_entry, out_entry, IsStep, has_any, ends_quiet, says_quiet}
use Rattle.tb_core.specs.declared.answers.Stepped.TheVariants as stepped
use Rattle.tb_log.specs.Limits.{has_room, log_size, entry_size, most_size}
use Rattle.tb_log.specs.declared.entry.Out.{Out}
use Rattle.tb_log.specs.declared.entry.Input.{Input}
use Rattle.tb_log.specs.declared.entry.Input.TheVariants.{NoTicks}
use Rattle.tb_log.specs.declared.entry.Entry.{Entry}
use Rattle.tb_log.specs.declared.entry.Entry.TheVariants.{Did, Quiet, Fed, Gave}
use Rattle.tb_sim.specs.declared.ends.Progress.{Progress}
use Rattle.tb_sim.specs.declared.ends.SimEnd.{SimEnd}
use Rattle.tb_sim.specs.declared.ends.SimEnd.TheVariants as end
use Rattle.tb_sim.specs.declared.ends.Turned.{Turned}
use Rattle.tb_sim.specs.declared.ends.Turned.TheVariants as turned
use Rattle.tb_terms.proofs.SameLemmas.{both-true}
use Rattle.tb_bus.proofs.TraceLemmas.{replay-append, after-first}
use Rattle.tb_sim.proofs.SimTurns.{IsIdle, steps-up, turn-hands, turn-limit, turn-made, turn-down, turn-says-quiet, turn-outside, makes-room, makes-full}

-- where a core's log leads after a call
logs-bus : (old new : CoreState) (entries : List Entry) → Logs old new entries → bus_now new ≡ replay (bus_now old) entries
unfolding bus_now
logs-bus old new entries l = ap (λ (log : List Entry). replay (start new.origin) log) l.log ∙ ap (λ (o : Origin). replay (start o) (old.log ++ entries)) l.origin ∙ replay-append (start old.origin) old.log entries

-- a call that logged nothing changed nothing
logs-nothing : (old new : CoreState) → Logs old new [] → Stays old new
logs-nothing old new l =
    let spare : old.spare ≤ new.spare + 0 = l.spare in
    record { origin = l.origin; log = l.log ∙ append-nil old.log; stopped = l.stopped; spare = omega arith }

-- nor did one that left the core as it was
stays-same : (old new : CoreState) → new ≡ old → Stays old new
stays-same old new same = let spare : new.spare ≡ old.spare = ap (λ (c : CoreState). c.spare) same in record {
  origin = ap (λ (c : CoreState). c.origin) same;
  log = ap (λ (c : CoreState). c.log) same;
  stopped = ap (λ (c : CoreState). c.stopped) same;
  spare = omega arith;
}

-- the state of the simulation remains unchanged
stays-sim : (feed : List Input) (old new : CoreState) (so_far : Progress) → Stays old new → sim_of feed new so_far ≡ sim_of feed old so_far
unfolding sim_of bus_now
stays-sim feed old new so_far stays =
    ap (λ (o : Origin). let s : Sim = record { bus = replay (start o) new.log; log = new.log; steps_made = so_far.steps; quiet = ends_quiet new.log; left = drop so_far.inputs feed } in s) stays.origin
    ∙ ap (λ (log : List Entry). let s : Sim = record { bus = replay (start old.origin) log; log = log; steps_made = so_far.steps; quiet = ends_quiet log; left = drop so_far.inputs feed } in s) stays.log

-- what a step logs: the first of the steps, that nothing is possible, or nothing on a bus that has shut down
did-by : (down quiet : Bool) (step : Step) (rest : List Step) → down ≡ false → step_entry down quiet (step ∷ rest) ≡ Some (Did step.label)
did-by true quiet step rest e = cc
did-by false true step rest e = refl
did-by false false step rest e = refl

would-did : (core : CoreState) (step : Step) (rest : List Step) → steps (bus_now core) ≡ step ∷ rest → would_log core MakeStep ≡ Some (Did step.label)
would-did core step rest e =
    ap (λ (ss : List Step). step_entry (bus_now core).down (ends_quiet core.log) ss) e
    ∙ did-by (bus_now core).down (ends_quiet core.log) step rest (steps-up (bus_now core) step rest e)

quiet-by : (down quiet : Bool) → down ≡ false → quiet ≡ false → step_entry down quiet [] ≡ Some Quiet
quiet-by true quiet e f = cc
quiet-by false true e f = cc
quiet-by false false e f = refl

would-quiet : (core : CoreState) → steps (bus_now core) ≡ [] → (bus_now core).down ≡ false → ends_quiet core.log ≡ false → would_log core MakeStep ≡ Some Quiet
would-quiet core e f said =
    ap (λ (ss : List Step). step_entry (bus_now core).down (ends_quiet core.log) ss) e
    ∙ quiet-by (bus_now core).down (ends_quiet core.log) f said

-- what would be logged is what was
would-logs : (old new : CoreState) (o : Option Entry) (entry : Entry) → o ≡ Some entry → Logs old new (option_to_list o) → Logs old new (entry ∷ [])
would-logs old new o entry e l = subst (Logs old new) (ap (λ (x : Option Entry). option_to_list x) e) l

-- the log had capacity for it, or it had none
would-room : (core : CoreState) (o : Option Entry) (entry : Entry) → o ≡ Some entry → lacks_room core o ≡ false → has_room core.origin.limit core.log entry ≡ true
would-room core o entry e r = not-false (has_room core.origin.limit core.log entry) (sym (ap (λ (x : Option Entry). lacks_room core x) e) ∙ r)

would-full : (core : CoreState) (o : Option Entry) (entry : Entry) → o ≡ Some entry → lacks_room core o ≡ true → has_room core.origin.limit core.log entry ≡ false
would-full core o entry e r = not-true (has_room core.origin.limit core.log entry) (sym (ap (λ (x : Option Entry). lacks_room core x) e) ∙ r)

down-by : (down quiet : Bool) (ss : List Step) → down ≡ true → option_to_list (step_entry down quiet ss) ≡ []
down-by true quiet ss e = refl
down-by false quiet ss e = cc

-- a step on a bus that has shut down changed nothing
pub down-nothing : (old new : CoreState) → (bus_now old).down ≡ true → Logs old new (entries_of old MakeStep) → Stays old new
down-nothing old new e l = logs-nothing old new (subst (Logs old new) (down-by (bus_now old).down (ends_quiet old.log) (steps (bus_now old)) e) l)

down-room : (core : CoreState) (down quiet : Bool) (ss : List Step) → down ≡ true → lacks_room core (step_entry down quiet ss) ≡ false
down-room core true quiet ss e = refl
down-room core false quiet ss e = cc

any-first : (ss : List Step) → has_any ss ≡ true → (step : Step) × (rest : List Step) × (ss ≡ step ∷ rest)
any-first [] e = absurd cc
any-first (step ∷ rest) e = (step, rest, refl)

-- at the limit of steps, with a step possible, the simulation ends
limit-ends : (feed : List Input) (so_far : Progress) (limits : Limits) (core : CoreState) (at : Bool) → IsIdle (bus_now core) → at ≡ (so_far.steps == limits.steps && has_any (steps (bus_now core))) → at ≡ true → turn limits (sim_of feed core so_far) ≡ Ends end.Steps
unfolding sim_of
limit-ends feed so_far limits core at idle is h =
    let t = both-true (so_far.steps == limits.steps) (has_any (steps (bus_now core))) (sym is ∙ h) in
    let e : so_far.steps ≡ limits.steps = eqb-true so_far.steps limits.steps t.0 in
    let s = any-first (steps (bus_now core)) t.1 in
    turn-limit limits (sim_of feed core so_far) s.0 s.1 idle (omega arith) s.2

slice_get-push : (log : List Entry) (entry : Entry) → slice_get (log ++ entry ∷ []) (length log) ≡ Some entry
slice_get-push [] entry = refl
slice_get-push (x ∷ log) entry = slice_get-push log entry

-- the last entry decides whether a log ends by quiet
ends_quiet-push : (log : List Entry) (entry : Entry) → ends_quiet (log ++ entry ∷ []) ≡ says_quiet (Some entry)
ends_quiet-push log entry =
    let long : length (log ++ entry ∷ []) - 1 ≡ length log = omega (arith, length-append log (entry ∷ [])) in
    ap (λ k. says_quiet (slice_get (log ++ entry ∷ []) k)) long ∙ ap says_quiet (slice_get-push log entry)

below-by : (made limit : ℕ) (at any : Bool) → (made == limit) ≡ at → made ≤ limit → any ≡ true → (at && any) ≡ false → made < limit
below-by made limit true true e le f g = cc
below-by made limit true false e le f g = cc
below-by made limit false any e le f g = let apart : made ≡ limit → ⊥ = λ q. let t = eq-eqb made limit q in cc in omega arith

-- where a step is possible and the simulation isn't at its limit, it is below it
below-limit : (made limit : ℕ) (any : Bool) → made ≤ limit → any ≡ true → (made == limit && any) ≡ false → made < limit
below-limit made limit any le f g = below-by made limit (made == limit) any refl le f g

-- no turn yet
pub led-nothing : (most : ℕ) (feed : List Input) (so_far : Progress) (core : CoreState) → LedOn most feed core so_far core so_far
led-nothing most feed so_far core = record { origin = refl; running = refl; entries = []; log = sym (append-nil core.log); turns = refl }

led-stays : (most : ℕ) (feed : List Input) (so_far : Progress) (old new : CoreState) → Stays old new → LedOn most feed old so_far new so_far
led-stays most feed so_far old new stays = record { origin = stays.origin; running = stays.stopped; entries = []; log = stays.log ∙ sym (append-nil old.log); turns = stays-sim feed old new so_far stays }

-- turns after turns
leads-append : (limits : Limits) (a b c : Sim) (xs ys : List Entry) → SimLeads limits a xs b → SimLeads limits b ys c → SimLeads limits a (xs ++ ys) c
leads-append limits a b c [] ys p q = subst (λ (s : Sim). SimLeads limits s ys c) p q
leads-append limits a b c (x ∷ xs) ys p q = (p.0, p.1, leads-append limits p.0 b c xs ys p.2 q)

leads-ends : (limits : Limits) (a b : Sim) (xs : List Entry) (last : SimEnd) → SimLeads limits a xs b → turn limits b ≡ Ends last → IsSim limits a xs last
leads-ends limits a b [] last p e = subst (λ (s : Sim). turn limits s ≡ Ends last) p e
leads-ends limits a b (x ∷ xs) last p e = (p.0, p.1, leads-ends limits p.0 b xs last p.2 e)

leads-so_far : (limits : Limits) (a b : Sim) (xs : List Entry) → SimLeads limits a xs b → IsSimPrefix limits a xs
leads-so_far limits a b [] p = tt
leads-so_far limits a b (x ∷ xs) p = (p.0, p.1, leads-so_far limits p.0 b xs p.2)

leads-prefix : (limits : Limits) (a b : Sim) (xs ys : List Entry) → SimLeads limits a xs b → IsSimPrefix limits b ys → IsSimPrefix limits a (xs ++ ys)
leads-prefix limits a b [] ys p q = subst (λ (s : Sim). IsSimPrefix limits s ys) p q
leads-prefix limits a b (x ∷ xs) ys p q = (p.0, p.1, leads-prefix limits p.0 b xs ys p.2 q)

-- one go after others
pub led-on : (most : ℕ) (feed : List Input) (a b c : CoreState) (m n k : Progress) → LedOn most feed a m b n → LedOn most feed b n c k → LedOn most feed a m c k
led-on most feed a b c m n k p q = record {
  origin = q.origin ∙ p.origin;
  running = q.running ∙ p.running;
  entries = p.entries ++ q.entries;
  log = q.log ∙ ap (λ (log : List Entry). log ++ q.entries) p.log ∙ append_assoc a.log p.entries q.entries;
  turns = leads-append (limits_of most a.origin) (sim_of feed a m) (sim_of feed b n) (sim_of feed c k) p.entries q.entries p.turns
      (subst (λ (o : Origin). SimLeads (limits_of most o) (sim_of feed b n) q.entries (sim_of feed c k)) p.origin q.turns);
}

-- what was logged makes the log longer, within its limit
logs-longer : (old new : CoreState) (entry : Entry) → Logs old new (entry ∷ []) → has_room old.origin.limit old.log entry ≡ true → IsLonger old new
logs-longer old new entry l room =
    let long : length new.log ≡ length (old.log ++ entry ∷ []) = ap (λ (log : List Entry). length log) l.log in
    let one = length-append old.log (entry ∷ []) in
    let within : length old.log + 1 ≤ old.origin.limit = leb-true (length old.log + 1) old.origin.limit (both-true (nat_le (length old.log + 1) old.origin.limit) (nat_le (log_size old.log + entry_size entry) most_size) room).0 in
    record { more = omega (arith, long, one); within = omega (arith, long, one, within) }

longer-then : (old mid new : CoreState) → mid.origin ≡ old.origin → IsLonger old mid → IsLonger mid new → IsLonger old new
longer-then old mid new origin p q =
    let limit : mid.origin.limit ≡ old.origin.limit = ap (λ (o : Origin). o.limit) origin in
    let one = p.more in
    let two = q.more in
    let within = q.within in
    record { more = omega (arith, one, two); within = omega (arith, within, limit) }

-- fewer entries are left then
pub left-fewer : (old new : CoreState) → new.origin ≡ old.origin → IsLonger old new → entries_left new < entries_left old
left-fewer old new origin longer =
    let limit : new.origin.limit ≡ old.origin.limit = ap (λ (o : Origin). o.limit) origin in
    let more = longer.more in
    let within = longer.within in
    omega (arith, limit, more, within)

-- One iteration: the next item of a lane was sent.
handed-on : (most : ℕ) (feed : List Input) (so_far : Progress) (old new : CoreState) (lane : ℕ) (out : Out) → IsWithin most feed so_far → first_out (bus_now old).bench ≡ Some lane → next_out lane (bus_now old).bench ≡ Some out →
    Logs old new (Gave lane out ∷ []) → has_room old.origin.limit old.log (Gave lane out) ≡ true → Goes most feed old so_far new (turned.On so_far)
unfolding sim_of
handed-on most feed so_far old new lane out within first next l room =
    let limits : Limits = limits_of most old.origin in
    let left : List Input = drop so_far.inputs feed in
    let after : Sim = record { bus = taken_out lane (bus_now old); log = old.log; steps_made = so_far.steps; quiet = false; left = left } in
    let bus : bus_now new ≡ taken_out lane (bus_now old) = logs-bus old new (Gave lane out ∷ []) l in
    let said : ends_quiet new.log ≡ false = ap ends_quiet l.log ∙ ends_quiet-push old.log (Gave lane out) in (
      record {
        origin = l.origin;
        running = l.stopped;
        entries = Gave lane out ∷ [];
        log = l.log;
        turns = (
          record after { log = old.log ++ Gave lane out ∷ [] },
          turn-hands limits (sim_of feed old so_far) lane out first next ∙ makes-room limits (sim_of feed old so_far) (Gave lane out) after room,
          λ i. record { bus = bus i; log = l.log i; steps_made = so_far.steps; quiet = said i; left = left },
        );
      },
      within,
      said,
      logs-longer old new (Gave lane out) l room,
    )

-- or the log had no capacity for it
handed-full : (most : ℕ) (feed : List Input) (so_far : Progress) (old : CoreState) (lane : ℕ) (out : Out) → first_out (bus_now old).bench ≡ Some lane → next_out lane (bus_now old).bench ≡ Some out →
    has_room old.origin.limit old.log (Gave lane out) ≡ false → turn (limits_of most old.origin) (sim_of feed old so_far) ≡ Ends end.Events
unfolding sim_of
handed-full most feed so_far old lane out first next room =
    let limits : Limits = limits_of most old.origin in
    let after : Sim = record { bus = taken_out lane (bus_now old); log = old.log; steps_made = so_far.steps; quiet = false; left = drop so_far.inputs feed } in
    turn-hands limits (sim_of feed old so_far) lane out first next ∙ makes-full limits (sim_of feed old so_far) (Gave lane out) after room

-- One go: the first step was made.
pub goes-did : (most : ℕ) (feed : List Input) (so_far : Progress) (old new : CoreState) (at : Bool) → IsIdle (bus_now old) → IsWithin most feed so_far → at ≡ (so_far.steps == most && has_any (steps (bus_now old))) → at ≡ false →
    IsStep old stepped.Did → Logs old new (entries_of old MakeStep) → is_full old MakeStep ≡ false →
    Goes most feed old so_far new (turned.On (record so_far { steps = so_far.steps + 1 }))
unfolding sim_of
goes-did most feed so_far old new at idle within is below found logs room =
    let step : Step = found.0 in
    let rest : List Step = found.1 in
    let e : steps (bus_now old) ≡ step ∷ rest = found.2 in
    let limits : Limits = limits_of most old.origin in
    let left : List Input = drop so_far.inputs feed in
    let next : Sim = record { bus = step.bus; log = old.log; steps_made = so_far.steps + 1; quiet = false; left = left } in
    let would = would-did old step rest e in
    let l : Logs old new (Did step.label ∷ []) = would-logs old new (would_log old MakeStep) (Did step.label) would logs in
    let less = below-limit so_far.steps most (has_any (steps (bus_now old))) within.steps_made (ap has_any e) (sym is ∙ below) in
    let bus : bus_now new ≡ step.bus = logs-bus old new (Did step.label ∷ []) l ∙ after-first (bus_now old) step rest e in
    let said : ends_quiet new.log ≡ false = ap ends_quiet l.log ∙ ends_quiet-push old.log (Did step.label) in
    let has : has_room old.origin.limit old.log (Did step.label) ≡ true = would-room old (would_log old MakeStep) (Did step.label) would room in (
      record {
        origin = l.origin;
        running = l.stopped;
        entries = Did step.label ∷ [];
        log = l.log;
        turns = (
          record next { log = old.log ++ Did step.label ∷ [] },
          turn-made limits (sim_of feed old so_far) step rest idle less e ∙ makes-room limits (sim_of feed old so_far) (Did step.label) next has,
          λ i. record { bus = bus i; log = l.log i; steps_made = so_far.steps + 1; quiet = said i; left = left },
        );
      },
      record { steps_made = omega (arith, less); inputs_fed = within.inputs_fed },
      said,
      logs-longer old new (Did step.label) l has,
    )

-- nothing was possible, and it said so
led-said : (most : ℕ) (feed : List Input) (so_far : Progress) (old mid : CoreState) → IsIdle (bus_now old) → ends_quiet old.log ≡ false → IsStep old stepped.Quiet → Logs old mid (entries_of old MakeStep) → is_full old MakeStep ≡ false →
    LedOn most feed old so_far mid so_far × (ends_quiet mid.log ≡ true) × (bus_now mid ≡ bus_now old) × IsLonger old mid
unfolding sim_of
led-said most feed so_far old mid idle said found logs room =
    let e : steps (bus_now old) ≡ [] = found.0 in
    let f : (bus_now old).down ≡ false = found.1 in
    let limits : Limits = limits_of most old.origin in
    let left : List Input = drop so_far.inputs feed in
    let next : Sim = record { bus = bus_now old; log = old.log; steps_made = so_far.steps; quiet = true; left = left } in
    let would = would-quiet old e f said in
    let l : Logs old mid (Quiet ∷ []) = would-logs old mid (would_log old MakeStep) Quiet would logs in
    let bus : bus_now mid ≡ bus_now old = logs-bus old mid (Quiet ∷ []) l in
    let has : has_room old.origin.limit old.log Quiet ≡ true = would-room old (would_log old MakeStep) Quiet would room in
    let quiet : ends_quiet mid.log ≡ true = ap ends_quiet l.log ∙ ends_quiet-push old.log Quiet in (
      record {
        origin = l.origin;
        running = l.stopped;
        entries = Quiet ∷ [];
        log = l.log;
        turns = (
          record next { log = old.log ++ Quiet ∷ [] },
          turn-says-quiet limits (sim_of feed old so_far) idle e f said ∙ makes-room limits (sim_of feed old so_far) Quiet next has,
          λ i. record { bus = bus i; log = l.log i; steps_made = so_far.steps; quiet = quiet i; left = left },
        );
      },
      quiet,
      bus,
      logs-longer old mid Quiet l has,
    )

-- The next input is this one: the turn that delivers it leaves the rest of the feed.
abbrev IsNextTurn : ℕ → List Input → CoreState → Progress → Input → Progress → Type 0
IsNextTurn most feed mid so_far input next =
    outside_turn (limits_of most mid.origin) (sim_of feed mid so_far) (drop so_far.inputs feed) ≡ input_turn (limits_of most mid.origin) (sim_of feed mid so_far) input (drop next.inputs feed)

-- then the input was delivered
led-fed : (most : ℕ) (feed : List Input) (so_far next : Progress) (mid new : CoreState) (input : Input) → IsNextTurn most feed mid so_far input next → next.steps ≡ so_far.steps →
    IsIdle (bus_now mid) → ends_quiet mid.log ≡ true → steps (bus_now mid) ≡ [] → (bus_now mid).down ≡ false → Logs mid new (entries_of mid (HandIn input)) → is_full mid (HandIn input) ≡ false →
    LedOn most feed mid so_far new next × (ends_quiet new.log ≡ false) × IsLonger mid new
unfolding sim_of
led-fed most feed so_far next mid new input is same idle quiet e f l room =
    let limits : Limits = limits_of most mid.origin in
    let left : List Input = drop next.inputs feed in
    let entry : Entry = Fed input (fed (bus_now mid) input).reply in
    let after : Sim = record { bus = (fed (bus_now mid) input).bus; log = mid.log; steps_made = so_far.steps; quiet = false; left = left } in
    let bus : bus_now new ≡ (fed (bus_now mid) input).bus = logs-bus mid new (entry ∷ []) l in
    let has : has_room mid.origin.limit mid.log entry ≡ true = would-room mid (Some entry) entry refl room in
    let said : ends_quiet new.log ≡ false = ap ends_quiet l.log ∙ ends_quiet-push mid.log entry in (
      record {
        origin = l.origin;
        running = l.stopped;
        entries = entry ∷ [];
        log = l.log;
        turns = (
          record after { log = mid.log ++ entry ∷ [] },
          turn-outside limits (sim_of feed mid so_far) idle e f quiet ∙ is ∙ makes-room limits (sim_of feed mid so_far) entry after has,
          λ i. record { bus = bus i; log = l.log i; steps_made = same i; quiet = said i; left = left },
        );
      },
      said,
      logs-longer mid new entry l has,
    )

-- or the log had no capacity for it
fed-full : (most : ℕ) (feed : List Input) (so_far next : Progress) (mid : CoreState) (input : Input) → IsNextTurn most feed mid so_far input next →
    IsIdle (bus_now mid) → ends_quiet mid.log ≡ true → steps (bus_now mid) ≡ [] → (bus_now mid).down ≡ false → is_full mid (HandIn input) ≡ true → turn (limits_of most mid.origin) (sim_of feed mid so_far) ≡ Ends end.Events
unfolding sim_of
fed-full most feed so_far next mid input is idle quiet e f full =
    let limits : Limits = limits_of most mid.origin in
    let entry : Entry = Fed input (fed (bus_now mid) input).reply in
    let after : Sim = record { bus = (fed (bus_now mid) input).bus; log = mid.log; steps_made = so_far.steps; quiet = false; left = drop next.inputs feed } in
    turn-outside limits (sim_of feed mid so_far) idle e f quiet ∙ is ∙ makes-full limits (sim_of feed mid so_far) entry after (would-full mid (Some entry) entry refl full)

-- One go: nothing was possible, and then what became of the input that comes next.
next-goes : (most : ℕ) (feed : List Input) (so_far next : Progress) (old mid new : CoreState) (input : Input) → IsIdle (bus_now old) → ends_quiet old.log ≡ false → IsStep old stepped.Quiet → Logs old mid (entries_of old MakeStep) → is_full old MakeStep ≡ false →
    IsNextTurn most feed mid so_far input next → next.steps ≡ so_far.steps → IsWithin most feed next → (t : Turned) → HandsIn input next mid new t → Goes most feed old so_far new t
next-goes most feed so_far next old mid new input idle said found logs room is same within (turned.On progress) h =
    let p = led-said most feed so_far old mid idle said found logs room in
    let e : steps (bus_now mid) ≡ [] = ap steps p.2 ∙ found.0 in
    let f : (bus_now mid).down ≡ false = ap (λ (b : Bus). b.down) p.2 ∙ found.1 in
    let still : IsIdle (bus_now mid) = ap (λ (b : Bus). first_out b.bench) p.2 ∙ idle in
    let q = led-fed most feed so_far next mid new input is same still p.1 e f h.1 h.2 in
    subst (λ (n : Progress). Goes most feed old so_far new (turned.On n)) (sym h.0)
    (led-on most feed old mid new so_far so_far next p.0 q.0, within, q.1, longer-then old mid new p.0.origin p.3 q.2)
next-goes most feed so_far next old mid new input idle said found logs room is same within (turned.End end.Events) h =
    let p = led-said most feed so_far old mid idle said found logs room in
    let e : steps (bus_now mid) ≡ [] = ap steps p.2 ∙ found.0 in
    let f : (bus_now mid).down ≡ false = ap (λ (b : Bus). b.down) p.2 ∙ found.1 in
    let still : IsIdle (bus_now mid) = ap (λ (b : Bus). first_out b.bench) p.2 ∙ idle in
    let full = fed-full most feed so_far next mid input is still p.1 e f h.1 in
    let here : turn (limits_of most old.origin) (sim_of feed mid so_far) ≡ Ends end.Events = subst (λ (o : Origin). turn (limits_of most o) (sim_of feed mid so_far) ≡ Ends end.Events) p.0.origin full in (
      led-on most feed old mid new so_far so_far so_far p.0 (led-stays most feed so_far mid new h.0),
      ap (turn (limits_of most old.origin)) (stays-sim feed mid new so_far h.0) ∙ here,
    )
next-goes most feed so_far next old mid new input idle said found logs room is same within (turned.End end.Down) h = absurd h
next-goes most feed so_far next old mid new input idle said found logs room is same within (turned.End end.Steps) h = absurd h

-- an input that is found comes next
pub drop-at : (feed : List Input) (i : ℕ) (input : Input) → slice_get feed i ≡ Some input → (left : List Input) × (drop i feed ≡ input ∷ left)
drop-at [] zero input e = absurd cc
drop-at [] (suc i) input e = absurd cc
drop-at (x ∷ feed) zero input e = let same : x ≡ input = cc in (feed, ap (λ (y : Input). y ∷ feed) same)
drop-at (x ∷ feed) (suc i) input e = drop-at feed i input e

-- what is left of a feed after the input that comes next
drop-next : (feed : List Input) (i : ℕ) (input : Input) (left : List Input) → drop i feed ≡ input ∷ left → (drop (i + 1) feed ≡ left) × (i < length feed)
drop-next [] zero input left e = cc
drop-next [] (suc i) input left e = cc
drop-next (x ∷ feed) zero input left e = let same : feed ≡ left = cc in (same, omega arith)
drop-next (x ∷ feed) (suc i) input left e =
    let rest = drop-next feed i input left e in
    let next : suc i + 1 ≡ suc (i + 1) = omega arith in
    (ap (λ (n : ℕ). drop n (x ∷ feed)) next ∙ rest.0, omega (arith, rest.1))

goes-by : (most : ℕ) (feed : List Input) (so_far : Progress) (old mid new : CoreState) (left : List Input) → drop so_far.inputs feed ≡ left → IsIdle (bus_now old) → IsWithin most feed so_far →
    ends_quiet old.log ≡ false → IsStep old stepped.Quiet → Logs old mid (entries_of old MakeStep) → is_full old MakeStep ≡ false →
    (t : Turned) → HandsInNext left so_far mid new t → Goes most feed old so_far new t
goes-by most feed so_far old mid new [] e idle within said found logs room t h =
    let sim : Sim = sim_of feed mid so_far in
    let limits : Limits = limits_of most mid.origin in
    next-goes most feed so_far so_far old mid new NoTicks idle said found logs room
    (ap (outside_turn limits sim) e ∙ ap (input_turn limits sim NoTicks) (sym e)) refl within t h
goes-by most feed so_far old mid new (input ∷ left) e idle within said found logs room t h =
    let sim : Sim = sim_of feed mid so_far in
    let limits : Limits = limits_of most mid.origin in
    let rest = drop-next feed so_far.inputs input left e in
    next-goes most feed so_far (record so_far { inputs = so_far.inputs + 1 }) old mid new input idle said found logs room
    (ap (outside_turn limits sim) e ∙ ap (input_turn limits sim input) (sym rest.0)) refl
    (let less = rest.1 in record { steps_made = within.steps_made; inputs_fed = omega arith }) t h

pub goes-quiet : (most : ℕ) (feed : List Input) (so_far : Progress) (old mid new : CoreState) → IsIdle (bus_now old) → IsWithin most feed so_far → ends_quiet old.log ≡ false → IsStep old stepped.Quiet → Logs old mid (entries_of old MakeStep) → is_full old MakeStep ≡ false →
    (t : Turned) → HandsInNext (drop so_far.inputs feed) so_far mid new t → Goes most feed old so_far new t
goes-quiet most feed so_far old mid new idle within said found logs room t h = goes-by most feed so_far old mid new (drop so_far.inputs feed) refl idle within said found logs room t h

-- One go: it is the end, and nothing was logged.
pub goes-end : (most : ℕ) (feed : List Input) (so_far : Progress) (old new : CoreState) (last : SimEnd) → Stays old new → turn (limits_of most old.origin) (sim_of feed old so_far) ≡ Ends last → Goes most feed old so_far new (turned.End last)
goes-end most feed so_far old new last stays e = (led-stays most feed so_far old new stays, ap (turn (limits_of most old.origin)) (stays-sim feed old new so_far stays) ∙ e)

pub goes-limit : (most : ℕ) (feed : List Input) (so_far : Progress) (old new : CoreState) (at : Bool) → IsIdle (bus_now old) → new ≡ old → at ≡ (so_far.steps == most && has_any (steps (bus_now old))) → at ≡ true → Goes most feed old so_far new (turned.End end.Steps)
goes-limit most feed so_far old new at idle same is h = goes-end most feed so_far old new end.Steps (stays-same old new same) (limit-ends feed so_far (limits_of most old.origin) old at idle is h)

pub goes-down : (most : ℕ) (feed : List Input) (so_far : Progress) (old new : CoreState) → IsIdle (bus_now old) → (bus_now old).down ≡ true → Logs old new (entries_of old MakeStep) → Goes most feed old so_far new (turned.End end.Down)
unfolding sim_of
goes-down most feed so_far old new idle e logs = goes-end most feed so_far old new end.Down (down-nothing old new e logs) (turn-down (limits_of most old.origin) (sim_of feed old so_far) idle e)

-- where the log has no capacity for what the step would log
full-up : (most : ℕ) (feed : List Input) (so_far : Progress) (core : CoreState) (at : Bool) (ss : List Step) → IsIdle (bus_now core) → ends_quiet core.log ≡ false → so_far.steps ≤ most → at ≡ (so_far.steps == most && has_any (steps (bus_now core))) → at ≡ false →
    steps (bus_now core) ≡ ss → (bus_now core).down ≡ false → is_full core MakeStep ≡ true → turn (limits_of most core.origin) (sim_of feed core so_far) ≡ Ends end.Events
unfolding sim_of
full-up most feed so_far core at [] idle said within is below e f full =
    let limits : Limits = limits_of most core.origin in
    let next : Sim = record { bus = bus_now core; log = core.log; steps_made = so_far.steps; quiet = true; left = drop so_far.inputs feed } in
    turn-says-quiet limits (sim_of feed core so_far) idle e f said
    ∙ makes-full limits (sim_of feed core so_far) Quiet next (would-full core (would_log core MakeStep) Quiet (would-quiet core e f said) full)
full-up most feed so_far core at (step ∷ rest) idle said within is below e f full =
    let limits : Limits = limits_of most core.origin in
    let next : Sim = record { bus = step.bus; log = core.log; steps_made = so_far.steps + 1; quiet = false; left = drop so_far.inputs feed } in
    let less = below-limit so_far.steps most (has_any (steps (bus_now core))) within (ap has_any e) (sym is ∙ below) in
    turn-made limits (sim_of feed core so_far) step rest idle less e
    ∙ makes-full limits (sim_of feed core so_far) (Did step.label) next (would-full core (would_log core MakeStep) (Did step.label) (would-did core step rest e) full)

full-by : (most : ℕ) (feed : List Input) (so_far : Progress) (core : CoreState) (at down : Bool) → IsIdle (bus_now core) → ends_quiet core.log ≡ false → so_far.steps ≤ most → at ≡ (so_far.steps == most && has_any (steps (bus_now core))) → at ≡ false →
    (bus_now core).down ≡ down → is_full core MakeStep ≡ true → turn (limits_of most core.origin) (sim_of feed core so_far) ≡ Ends end.Events
full-by most feed so_far core at true idle said within is below f full =
    let room : is_full core MakeStep ≡ false = down-room core (bus_now core).down (ends_quiet core.log) (steps (bus_now core)) f in
    absurd (let both : true ≡ false = sym full ∙ room in cc)
full-by most feed so_far core at false idle said within is below f full = full-up most feed so_far core at (steps (bus_now core)) idle said within is below refl f full

pub goes-full : (most : ℕ) (feed : List Input) (so_far : Progress) (old new : CoreState) (at : Bool) → IsIdle (bus_now old) → ends_quiet old.log ≡ false → IsWithin most feed so_far → at ≡ (so_far.steps == most && has_any (steps (bus_now old))) → at ≡ false →
    Stays old new → is_full old MakeStep ≡ true → Goes most feed old so_far new (turned.End end.Events)
goes-full most feed so_far old new at idle said within is below stays full =
    goes-end most feed so_far old new end.Events stays (full-by most feed so_far old at (bus_now old).down idle said within.steps_made is below refl full)

-- what was logged before memory ran out is a prefix of what the turns log
left-after : (most : ℕ) (feed : List Input) (so_far : Progress) (old mid new : CoreState) → LedOn most feed old so_far mid so_far → Stays mid new → LeftWithin most feed old so_far new
left-after most feed so_far old mid new p stays = record {
  origin = stays.origin ∙ p.origin;
  stopped = stays.stopped ∙ p.running;
  entries = p.entries;
  log = stays.log ∙ p.log;
  prefix = leads-so_far (limits_of most old.origin) (sim_of feed old so_far) (sim_of feed mid so_far) p.entries p.turns;
}

pub left-quiet : (most : ℕ) (feed : List Input) (so_far : Progress) (old mid new : CoreState) → IsIdle (bus_now old) → ends_quiet old.log ≡ false → IsStep old stepped.Quiet → Logs old mid (entries_of old MakeStep) → is_full old MakeStep ≡ false → Stays mid new → LeftWithin most feed old so_far new
left-quiet most feed so_far old mid new idle said found logs room stays = left-after most feed so_far old mid new (led-said most feed so_far old mid idle said found logs room).0 stays

-- One iteration: the next item of a lane was sent, or the log had no capacity for it.
hands-by : (most : ℕ) (feed : List Input) (so_far : Progress) (old new : CoreState) (lane : ℕ) (found : Option Out) → IsWithin most feed so_far → first_out (bus_now old).bench ≡ Some lane → next_out lane (bus_now old).bench ≡ found → IsSome found →
    (t : Turned) → HandsOut lane so_far old new t → Goes most feed old so_far new t
hands-by most feed so_far old new lane None within first next some t h = absurd (let same : false ≡ true = some in cc)
hands-by most feed so_far old new lane (Some out) within first next some (turned.On progress) h =
    let would : would_log old (HandOut lane) ≡ Some (Gave lane out) = ap (out_entry lane) next in
    subst (λ (n : Progress). Goes most feed old so_far new (turned.On n)) (sym h.0)
    (handed-on most feed so_far old new lane out within first next (would-logs old new (would_log old (HandOut lane)) (Gave lane out) would h.1) (would-room old (would_log old (HandOut lane)) (Gave lane out) would h.2))
hands-by most feed so_far old new lane (Some out) within first next some (turned.End end.Events) h =
    let would : would_log old (HandOut lane) ≡ Some (Gave lane out) = ap (out_entry lane) next in
    goes-end most feed so_far old new end.Events h.0 (handed-full most feed so_far old lane out first next (would-full old (would_log old (HandOut lane)) (Gave lane out) would h.1))
hands-by most feed so_far old new lane (Some out) within first next some (turned.End end.Down) h = absurd h
hands-by most feed so_far old new lane (Some out) within first next some (turned.End end.Steps) h = absurd h

pub goes-handed : (most : ℕ) (feed : List Input) (so_far : Progress) (old new : CoreState) (lane : ℕ) → IsWithin most feed so_far → first_out (bus_now old).bench ≡ Some lane → IsSome (next_out lane (bus_now old).bench) →
    (t : Turned) → HandsOut lane so_far old new t → Goes most feed old so_far new t
goes-handed most feed so_far old new lane within first some t h = hands-by most feed so_far old new lane (next_out lane (bus_now old).bench) within first refl some t h

-- how far a simulation has come as it begins
abbrev pub begun : Progress
begun = record { steps = 0; inputs = 0 }

-- a simulation begins where the core was started
start-sim : (feed : List Input) (core : CoreState) → core.log ≡ [] → sim_of feed core begun ≡ sim_start (start core.origin) feed
unfolding sim_of bus_now
start-sim feed core e = ap (λ (log : List Entry). let s : Sim = record { bus = replay (start core.origin) log; log = log; steps_made = 0; quiet = ends_quiet log; left = feed } in s) e

-- at the end, the log is the simulated one
pub led-ends : (most : ℕ) (feed : List Input) (a b c : CoreState) (n : Progress) (last : SimEnd) → a.log ≡ [] → LedOn most feed a begun b n → Goes most feed b n c (turned.End last) →
    IsSim (limits_of most a.origin) (sim_start (start a.origin) feed) c.log last
led-ends most feed a b c n last e p q =
    let led = led-on most feed a b c begun n n p q.0 in
    let limits : Limits = limits_of most a.origin in
    let ends : turn limits (sim_of feed c n) ≡ Ends last = subst (λ (o : Origin). turn (limits_of most o) (sim_of feed c n) ≡ Ends last) p.origin q.1 in
    let whole : c.log ≡ led.entries = led.log ∙ ap (λ (log : List Entry). log ++ led.entries) e in
    subst (λ (log : List Entry). IsSim limits (sim_start (start a.origin) feed) log last) (sym whole)
    (subst (λ (s : Sim). IsSim limits s led.entries last) (start-sim feed a e) (leads-ends limits (sim_of feed a begun) (sim_of feed c n) led.entries last led.turns ends))

-- where memory ran out, it is a prefix of it
pub led-left : (most : ℕ) (feed : List Input) (a b c : CoreState) (n : Progress) → a.log ≡ [] → LedOn most feed a begun b n → LeftWithin most feed b n c → IsSimPrefix (limits_of most a.origin) (sim_start (start a.origin) feed) c.log
led-left most feed a b c n e p q =
    let limits : Limits = limits_of most a.origin in
    let prefix : IsSimPrefix limits (sim_of feed b n) q.entries = subst (λ (o : Origin). IsSimPrefix (limits_of most o) (sim_of feed b n) q.entries) p.origin q.prefix in
    let whole : c.log ≡ p.entries ++ q.entries = q.log ∙ ap (λ (log : List Entry). log ++ q.entries) (p.log ∙ ap (λ (log : List Entry). log ++ p.entries) e) in
    subst (λ (log : List Entry). IsSimPrefix limits (sim_start (start a.origin) feed) log) (sym whole)
    (subst (λ (s : Sim). IsSimPrefix limits s (p.entries ++ q.entries)) (start-sim feed a e) (leads-prefix limits (sim_of feed a begun) (sim_of feed b n) p.entries q.entries p.turns prefix))
