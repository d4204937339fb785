-- A region that waits for good does so after each entry of a trace, and no entry is of it.
use Rattle.std.proofs.Common.{◌≡◌, ◌≢◌, ℕ, zero, suc, ◌+◌, ◌-◌, ◌<◌, ◌⊎◌, inl, inr, List, [], ◌∷◌, ◌++◌, length, replicate, slice_index_or, map, Bool, true, false, Option, Some, None, Contains, if◌then◌else◌, refl, ap, sym, subst, ◌∙◌, arith}
use Rattle.std.specs.List.{All}
use Rattle.std.proofs.lemmas.List.Elements.{All-map, All-weaker}
use Rattle.tb_process_steps.specs.Ageing.{IsAged, AreAged}
use Rattle.tb_process_steps.specs.Atoms.{act_of, times_of, is_ready}
use Rattle.tb_process_steps.specs.Offers.{Offered, offers}
use Rattle.tb_process_steps.specs.Processes.{aged}
use Rattle.tb_process_steps.proofs.AgedOffers.{offers-age}
use Rattle.tb_tools.specs.Acts.{handed_out}
use Rattle.tb_tools.specs.Inputs.{put_line, gone, cut}
use Rattle.tb_log.specs.Shapes.{lane_count}
use Rattle.tb_tools.specs.Lanes.{Tool, BenchState, started, unused}
use Rattle.tb_log.specs.declared.entry.Label.{Label}
use Rattle.tb_log.specs.declared.entry.ToolLine.{ToolLine}
use Rattle.tb_log.specs.declared.entry.Input.{Input}
use Rattle.tb_log.specs.declared.entry.Input.TheVariants.{Tick, NoTicks, Line, Gone, Cut}
use Rattle.tb_log.specs.declared.entry.Reply.TheVariants.{Dropped}
use Rattle.tb_log.specs.declared.entry.Why.TheVariants.{Down}
use Rattle.tb_log.specs.declared.entry.Entry.{Entry}
use Rattle.tb_log.specs.declared.entry.Entry.TheVariants.{Did, Quiet, Fed, Gave}
use Rattle.tb_bus.specs.declared.origin.Origin.{Origin}
use Rattle.tb_bus.specs.Actions.{action_if}
use Rattle.tb_bus.specs.Buses as buses
use Rattle.tb_bus.specs.Buses.{Bus, Proc, start}
use Rattle.tb_bus.specs.Effects.{Effect, changed}
use Rattle.tb_bus.specs.Reached.{Reaches}
use Rattle.tb_bus.specs.Steps.{Move, Own, Handshake, Finish, Halt, Step, advance, apply, label_of}
use Rattle.tb_bus.specs.Traces.{Answer, IsLegal, IsTrace, after, aged_proc, declares, replay, took}
use Rattle.tb_bus.specs.declared.action.Action.{Action}
use Rattle.tb_bus.proofs.ChangeLemmas.{changed-program, changed-keeps}
use Rattle.tb_bus.proofs.OrderLemmas.{InOrder, contains-cases, contains-further, advance-keeps}
use Rattle.std.proofs.lemmas.List.Elements.{All-contains}
use Rattle.tb_bus.proofs.ReachedLemmas.{IsMoveOf, reached-in_order}
use Rattle.tb_bus.proofs.StayLemmas.{no_step-down, stays-down}
use Rattle.tb_iface.proofs.StoreSorts.{HaveStores}
use Rattle.tb_iface.proofs.SortedBuses.{IsSorted, sorted-next, sorted-start}
use Rattle.tb_stuck.specs.Stuck.{Region, CanCome, WaitForGood, WaitsForGood}
use Rattle.tb_stuck.proofs.Held.{IsHeld, IsShut, held}
use Rattle.tb_stuck.proofs.Progress.{IsOutside, done-outside, step-outside}
use Rattle.tb_transfer_laws.proofs.AtomLemmas.{only-aged}
use Rattle.tb_stuck.proofs.Tools.{BenchGoes, speak-next, handed-goes, gone-goes, cut-goes}
use Rattle.tb_stuck.proofs.Names.{BenchNames, names-shut, handed-names, gone-names, cut-names}
use Rattle.tb_stuck.proofs.Talks.{line-goes, line-names}
use Rattle.tb_stuck.proofs.Stays.{IsNext, Left, KeepsSilence, ChangeOf, goes-wait, silence-same, all-itself, change-of, changed-next, MayLeave, may-leave, advance-next, all-moved, changed-now, changed-number, changed-silence}

-- a tick

aged-from : (os ls : List Offered) (later : Offered) → AreAged os ls → Contains ls later → (offered : Offered) × Contains os offered × IsAged offered later
aged-from [] [] later h c = absurd (let l = c.1 in omega arith)
aged-from [] (l ∷ ls) later h c = absurd h
aged-from (o ∷ os) [] later h c = absurd h
aged-from (o ∷ os) (l ∷ ls) later h c = by (aged-from os ls later h.1) (contains-cases l later ls c)
  where
    by : (Contains ls later → (offered : Offered) × Contains os offered × IsAged offered later) → (l ≡ later) ⊎ Contains ls later → (offered : Offered) × Contains (o ∷ os) offered × IsAged offered later
    by more (inl e) = (o, (0, omega arith, refl), subst (IsAged o) e h.0)
    by more (inr d) = let found = more d in (found.0, contains-further o found.0 os found.1, found.2)

module _ (region : Region) (bus : Bus) (h : IsHeld bus region) where
  abbrev ticked : Bus
  ticked = record bus { procs = map aged_proc bus.procs; now = bus.now + 1 }

  come-before : (proc : Proc) (does : Action) → CanCome ticked (aged_proc proc) does → CanCome bus proc does
  come-before proc does come =
      let found = aged-from (offers proc.term proc.store) (offers (aged proc.term) proc.store) come.offered (offers-age proc.term proc.store) come.there in
      let old = found.0 in
      let is : IsAged old come.offered = found.2 in
      let older = is.age in
      let ages : old.age + (come.ticks + 1) ≡ come.offered.age + come.ticks = omega (arith, older) in
      let nows : bus.now + (come.ticks + 1) ≡ bus.now + 1 + come.ticks = omega arith in
      let atoms = buses.atoms_of bus.program.bodies proc.body in
      let same : action_if (is_ready old.store (old.age + (come.ticks + 1)) (bus.now + (come.ticks + 1)) (times_of atoms old.atom)) old.store (act_of atoms old.atom)
      ≡ action_if (is_ready come.offered.store (come.offered.age + come.ticks) (bus.now + 1 + come.ticks) (times_of atoms come.offered.atom)) come.offered.store (act_of atoms come.offered.atom) =
      λ i. action_if (is_ready (sym is.store i) (ages i) (nows i) (times_of atoms (sym is.atom i))) (sym is.store i) (act_of atoms (sym is.atom i)) in
      record { offered = old; ticks = come.ticks + 1; there = found.1; does = same ∙ come.does }

  tick-next : (proc : Proc) → IsNext region bus bus proc → IsNext region bus ticked (aged_proc proc)
  tick-next proc is = record {
    stands = λ w. let at = is.stands w in
        record { old = at.old; there = at.there; number = at.number; body = at.body; comes = λ does come. at.comes does (come-before proc does come); inbox = at.inbox };
    left = λ w. only-aged (Left region bus proc.body) proc.term (is.left w);
  }

  tick-waits : IsHeld ticked region
  tick-waits = goes-wait region bus ticked h (record {
    program = refl;
    number = omega arith;
    procs = All-map (IsNext region bus ticked) aged_proc bus.procs (All-weaker (IsNext region bus bus) (λ proc. IsNext region bus ticked (aged_proc proc)) tick-next bus.procs (all-itself region bus h));
    silence = silence-same region bus ticked refl refl;
  })

  -- other lanes, or no more ticks

  bench-waits : (next : Bus) → next.program ≡ bus.program → next.now ≡ bus.now → next.procs ≡ bus.procs → next.next_number ≡ bus.next_number → KeepsSilence region bus next → IsHeld next region
  bench-waits next e f g n silence = goes-wait region bus next h (record {
    program = e;
    number = omega (arith, n);
    procs = subst (All (IsNext region bus next)) (sym g) (all-moved region bus next bus.procs e f (all-itself region bus h));
    silence = silence;
  })

  bench-silence : (next : BenchState) → BenchGoes region bus next → BenchNames region bus next → KeepsSilence region bus (record bus { bench = next })
  bench-silence next goes names = (speak-next region bus next goes names, λ shut. names-shut region bus next names)

  line-silence : (declared : Bool) (line : ToolLine) (lane : ℕ) → KeepsSilence region bus (record bus { bench = (put_line declared line lane bus.bench).bench })
  line-silence declared line lane = bench-silence (put_line declared line lane bus.bench).bench (line-goes region bus h.shut declared line lane) (line-names region bus h.shut declared line lane)

  gone-silence : (lane : ℕ) → KeepsSilence region bus (record bus { bench = (gone lane bus.bench).bench })
  gone-silence lane = bench-silence (gone lane bus.bench).bench (gone-goes region bus lane) (gone-names region bus h.shut lane)

  cut-silence : (lane : ℕ) → KeepsSilence region bus (record bus { bench = (cut lane bus.bench).bench })
  cut-silence lane = bench-silence (cut lane bus.bench).bench (cut-goes region bus lane) (cut-names region bus h.shut lane)

  out-silence : (lane : ℕ) → KeepsSilence region bus (record bus { bench = handed_out lane bus.bench })
  out-silence lane = bench-silence (handed_out lane bus.bench) (handed-goes region bus lane) (handed-names region bus h.shut lane)

  fed-waits : (input : Input) (down : Bool) → IsHeld (let a : Answer = if down then record { reply = Dropped Down; bus = bus } else took bus input in a.bus) region
  fed-waits input true = h
  fed-waits Tick false = tick-waits
  fed-waits NoTicks false = bench-waits (record bus { no_ticks = true }) refl refl refl refl (silence-same region bus (record bus { no_ticks = true }) refl refl)
  fed-waits (Line lane line) false =
      let declared = declares bus.program.tools line in
      bench-waits (record bus { bench = (put_line declared line lane bus.bench).bench }) refl refl refl refl (line-silence declared line lane)
  fed-waits (Gone lane) false = bench-waits (record bus { bench = (gone lane bus.bench).bench }) refl refl refl refl (gone-silence lane)
  fed-waits (Cut lane) false = bench-waits (record bus { bench = (cut lane bus.bench).bench }) refl refl refl refl (cut-silence lane)

  -- steps

  module _ (order : InOrder bus) (stores : HaveStores bus.program.bodies bus.procs) where
    own-waits : (proc : Proc) (offered : Offered) (effect : Effect) (is : IsMoveOf bus (Own proc offered effect)) → region.waits proc.number ≡ false →
        (((changed effect.change proc.number bus).down ≡ true) ⊎ KeepsSilence region bus (changed effect.change proc.number bus)) → ChangeOf region bus effect.change →
        ((apply bus (Own proc offered effect)).down ≡ true) ⊎ IsHeld (apply bus (Own proc offered effect)) region
    own-waits proc offered effect is out (inl down) change = inl down
    own-waits proc offered effect is out (inr silence) change =
        let next = apply bus (Own proc offered effect) in
        let mid = changed effect.change proc.number bus in
        let less = All-contains (λ (p : Proc). p.number < bus.next_number) bus.procs proc order.below is.1.0.0 in
        let new : (process : ℕ) → MayLeave region bus proc.number offered.residual bus.next_number process = λ process e. absurd (omega (arith, e, less)) in
        let may = changed-keeps (MayLeave region bus proc.number offered.residual) effect.change proc.number bus (may-leave region bus h order proc offered out is.1.0) new in
        inr (goes-wait region bus next h (record {
          program = changed-program effect.change proc.number bus;
          number = changed-number region bus effect.change proc.number;
          procs = all-moved region bus next (advance proc.number offered effect.binds mid.procs) (changed-program effect.change proc.number bus) (changed-now region bus effect.change proc.number)
              (advance-next region bus proc.number offered effect.binds mid.procs out may (changed-next region bus h effect.change proc.number out change));
          silence = (λ does k. silence.0 does k, silence.1);
        }))

    move-waits : (move : Move) → IsMoveOf bus move → IsOutside region move → ((apply bus move).down ≡ true) ⊎ IsHeld (apply bus move) region
    move-waits (Own proc offered effect) is out =
        let change = change-of region bus h proc is.0 effect (done-outside region bus proc offered is.0 stores h out is.1) is.2 in
        own-waits proc offered effect is out (changed-silence region bus effect.change proc.number change) change
    move-waits (Handshake sender sent receiver received terms binds) is out =
        let next = apply bus (Handshake sender sent receiver received terms binds) in
        let first = advance-next region bus sender.number sent [] bus.procs out.0 (may-leave region bus h order sender sent out.0 is.0.0) (all-itself region bus h) in
        let may = advance-keeps (MayLeave region bus receiver.number received.residual) sender.number sent [] bus.procs (may-leave region bus h order receiver received out.1 is.1.1.0) in
        inr (goes-wait region bus next h (record {
          program = refl;
          number = omega arith;
          procs = all-moved region bus next next.procs refl refl (advance-next region bus receiver.number received binds (advance sender.number sent [] bus.procs) out.1 may first);
          silence = silence-same region bus next refl refl;
        }))
    move-waits Finish is out = inl refl
    move-waits Halt is out = inl refl

-- entries

-- the bus is down, or the region waits for good
abbrev IsSilent : Region → Bus → Type 0
IsSilent region bus = (bus.down ≡ true) ⊎ IsHeld bus region

next-silent : (region : Region) (bus : Bus) (entry : Entry) → InOrder bus → HaveStores bus.program.bodies bus.procs → IsLegal bus entry (after bus entry) → IsSilent region bus → IsSilent region (after bus entry)
next-silent region bus entry order stores legal (inl down) = inl (stays-down bus (entry ∷ []) (legal, tt) down)
next-silent region bus (Did label) order stores legal (inr h) =
    let made = step-outside region bus (record { label = label; bus = after bus (Did label) }) stores h legal in
    subst (IsSilent region) (sym (ap (λ (s : Step). s.bus) made.made)) (move-waits region bus h order stores made.move made.is made.outside)
next-silent region bus Quiet order stores legal (inr h) = inr h
next-silent region bus (Fed input reply) order stores legal (inr h) = inr (fed-waits region bus h input bus.down)
next-silent region bus (Gave lane out) order stores legal (inr h) =
    inr (bench-waits region bus h (record bus { bench = handed_out lane bus.bench }) refl refl refl refl (out-silence region bus h lane))

-- the label is of other processes
abbrev IsElsewhere : ℕ → Label → Type 0
IsElsewhere number label = (label.from.proc ≢ number) × (label.to.proc ≢ number)

apart : (region : Region) (one number : ℕ) → region.waits number ≡ true → region.waits one ≡ false → one ≢ number
apart region one number w out same = let t = subst (λ (n : ℕ). region.waits n ≡ false) same out in cc

move-elsewhere : (region : Region) (number : ℕ) (move : Move) → region.waits number ≡ true → 0 < number → IsOutside region move → IsElsewhere number (label_of move)
move-elsewhere region number (Own proc offered effect) w l out = (apart region proc.number number w out, λ e. omega (arith, l, e))
move-elsewhere region number (Handshake sender sent receiver received terms binds) w l out = (apart region sender.number number w out.0, apart region receiver.number number w out.1)
move-elsewhere region number Finish w l out = (λ e. omega (arith, l, e), λ e. omega (arith, l, e))
move-elsewhere region number Halt w l out = (λ e. omega (arith, l, e), λ e. omega (arith, l, e))

step-elsewhere : (region : Region) (bus : Bus) (number : ℕ) (label : Label) → HaveStores bus.program.bodies bus.procs → region.waits number ≡ true → IsLegal bus (Did label) (after bus (Did label)) → IsSilent region bus → IsElsewhere number label
step-elsewhere region bus number label stores w legal (inl down) = absurd (no_step-down bus down label (after bus (Did label)) legal)
step-elsewhere region bus number label stores w legal (inr h) =
    let made = step-outside region bus (record { label = label; bus = after bus (Did label) }) stores h legal in
    subst (IsElsewhere number) (sym (ap (λ (s : Step). s.label) made.made)) (move-elsewhere region number made.move w (h.begun number w).0 made.outside)

trace-elsewhere : (origin : Origin) (region : Region) (bus : Bus) (number : ℕ) (log : List Entry) (label : Label) → IsSorted origin bus → region.waits number ≡ true → IsSilent region bus → IsTrace bus log → Contains log (Did label) → IsElsewhere number label
trace-elsewhere origin region bus number [] label sorted w silent trace c = absurd (let l = c.1 in omega arith)
trace-elsewhere origin region bus number (entry ∷ log) label sorted w silent trace c =
    by (λ d. trace-elsewhere origin region (after bus entry) number log label (sorted-next origin bus entry sorted trace.0) w
    (next-silent region bus entry (reached-in_order origin bus sorted.reached) sorted.stores trace.0 silent) trace.1 d) (contains-cases entry (Did label) log c)
  where
    by : (Contains log (Did label) → IsElsewhere number label) → (entry ≡ Did label) ⊎ Contains log (Did label) → IsElsewhere number label
    by more (inl e) = step-elsewhere region bus number label sorted.stores w (subst (λ (x : Entry). IsLegal bus x (after bus x)) e trace.0) silent
    by more (inr d) = more d

sorted-from : (origin : Origin) (bus : Bus) (log : List Entry) → IsSorted origin bus → IsTrace bus log → IsSorted origin (replay bus log)
sorted-from origin bus [] h trace = h
sorted-from origin bus (entry ∷ log) h trace = sorted-from origin (after bus entry) log (sorted-next origin bus entry h trace.0) trace.1

-- The lanes of each bus that a program reaches are so, until it is down: nobody waits, and all atoms are left.

held-all : (bus : Bus) → IsShut bus.bench → IsHeld bus (record { waits = λ number. false; left = λ body atom. true })
held-all bus shut = record {
  begun = λ number w. absurd cc;
  stuck = λ proc does c w. absurd cc;
  others = λ proc atom c w d. refl;
  created = λ process slot atom actuals body may e c. refl;
  shut = shut;
}

-- at the start, no lane has a tool
started-none : (commands : List (List ℕ)) (count place : ℕ) → (slice_index_or (map (λ command. started command unused) commands ++ replicate count unused) place unused).tool ≡ None
started-none [] zero place = none-at place
  where
    none-at : (place : ℕ) → (slice_index_or [] place unused).tool ≡ None
    none-at zero = refl
    none-at (suc place) = refl
started-none [] (suc count) zero = refl
started-none [] (suc count) (suc place) = started-none [] count place
started-none (command ∷ commands) count zero = refl
started-none (command ∷ commands) count (suc place) = started-none commands count place

start-shut : (origin : Origin) → IsShut (start origin).bench
start-shut origin lane tool e l = absurd (let none = started-none origin.connects (lane_count - length origin.connects) (lane - 1) in let t : ◌≡◌ {A = Option Tool} None (Some tool) = sym none ∙ e in cc)

trace-silent : (origin : Origin) (region : Region) (bus : Bus) (log : List Entry) → IsSorted origin bus → IsSilent region bus → IsTrace bus log → IsSilent region (replay bus log)
trace-silent origin region bus [] sorted silent trace = silent
trace-silent origin region bus (entry ∷ log) sorted silent trace =
    trace-silent origin region (after bus entry) log (sorted-next origin bus entry sorted trace.0)
    (next-silent region bus entry (reached-in_order origin bus sorted.reached) sorted.stores trace.0 silent) trace.1

reached-shut : (origin : Origin) (bus : Bus) → Reaches origin bus → (bus.down ≡ true) ⊎ IsShut bus.bench
reached-shut origin bus r =
    let all : Region = record { waits = λ number. false; left = λ body atom. true } in
    by (subst (IsSilent all) (sym r.2) (trace-silent origin all (start origin) r.0 (sorted-start origin) (inr (held-all (start origin) (start-shut origin))) r.1))
  where
    by : IsSilent (record { waits = λ number. false; left = λ body atom. true }) bus → (bus.down ≡ true) ⊎ IsShut bus.bench
    by (inl down) = inl down
    by (inr h) = inr h.shut

silent-from : (region : Region) (bus : Bus) → WaitForGood bus region → (bus.down ≡ true) ⊎ IsShut bus.bench → IsSilent region bus
silent-from region bus h (inl down) = inl down
silent-from region bus h (inr shut) = inr (held bus region h shut)

-- So a process that waits for good makes no step.
pub never-steps : (origin : Origin) (bus : Bus) (number : ℕ) (log : List Entry) (label : Label) → Reaches origin bus → WaitsForGood bus number → IsTrace bus log → Contains log (Did label) → IsElsewhere number label
never-steps origin bus number log label r h trace c =
    trace-elsewhere origin h.region bus number log label (subst (IsSorted origin) (sym r.2) (sorted-from origin (start origin) r.0 (sorted-start origin) r.1)) h.waits (silent-from h.region bus h.wait (reached-shut origin bus r)) trace c
