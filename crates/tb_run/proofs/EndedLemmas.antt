-- The claims about a complete run and the claims about a run that found the log full never hold together.
use Rattle.std.proofs.Common.{◌≡◌, ◌≤◌, ◌+◌, ◌⊎◌, ℕ, max, List, [], ◌∷◌, ◌++◌, length, map, Bool, true, false, cond, Option, Some, None, refl, sym, ap, ◌∙◌, subst, inl, inr, append-nil, length-append, arith}
use Rattle.std.specs.Prelude.{filter}
use Rattle.std.specs.List.{AllZip}
use Rattle.std.proofs.lemmas.List.{nil_from_length}
use Rattle.std.proofs.lemmas.List.Sums.{sum_by-cons}
use Rattle.tb_edge.specs.Ends.{InletView, ClockView, and_given, and_taken, and_ticked}
use Rattle.tb_edge.specs.declared.given.Given.{Given}
use Rattle.tb_edge.specs.declared.given.Taken.{Taken}
use Rattle.tb_tool_line.specs.Sending.{taken_of}
use Rattle.tb_log.specs.Lanes.{inputs, sent, ticks, is_tick_input}
use Rattle.tb_log.specs.Limits.{entry_size, log_size, most_size}
use Rattle.tb_log.specs.declared.entry.Input.{Input}
use Rattle.tb_log.specs.declared.entry.Input.TheVariants as input
use Rattle.tb_log.specs.declared.entry.Out.{Out}
use Rattle.tb_log.specs.declared.entry.Reply.{Reply}
use Rattle.tb_log.specs.declared.entry.Reply.TheVariants.{Dropped}
use Rattle.tb_log.specs.declared.entry.Why.TheVariants as why
use Rattle.tb_log.specs.declared.entry.Entry.{Entry}
use Rattle.tb_log.specs.declared.entry.Entry.TheVariants.{Did, Quiet, Fed, Gave}
use Rattle.tb_tools.specs.Finding.{next_out}
use Rattle.tb_bus.specs.Buses.{Bus, start}
use Rattle.tb_bus.specs.Commands.{largest_command}
use Rattle.tb_bus.specs.Steps.{steps}
use Rattle.tb_bus.specs.Traces.{IsTrace, replay}
use Rattle.tb_bus.specs.declared.origin.Origin.{Origin}
use Rattle.tb_core.specs.Cores.{CoreState, Call, HandOut, MakeStep, bus_now, ends_quiet, is_full, lacks_room, out_entry, step_entry}
use Rattle.tb_core.specs.Full.{IsAtLimit, MayCall}
use Rattle.tb_run.specs.Clocks.{ClockRan, is_time}
use Rattle.tb_run.specs.Dropping.{AreLetIn, HasDropped}
use Rattle.tb_run.specs.Outcomes.{IsDone, LaneRan, Runs}
use Rattle.tb_run.specs.Refusals.{CutRefused, HadNoRoom, InputRefused, LaneRefused, NoTicksRefused, WasRefused}
use Rattle.tb_run.specs.Views.{AllTell, EachLane, LaneView, OutsideView, SomeLane, Tells}
use Rattle.tb_run.specs.Workers.{AreTicks, IsInputFor, IsNoTicks}
use Rattle.tb_run.specs.declared.ends.RunWhy.TheVariants as why_of
use Rattle.tb_run.proofs.TraceLemmas.{trace_before}

size-append : (one other : List Entry) → log_size (one ++ other) ≡ log_size one + log_size other
size-append [] other = omega arith
size-append (entry ∷ one) other =
    let first : log_size (entry ∷ (one ++ other)) ≡ entry_size entry + log_size (one ++ other) = sum_by-cons (λ (n : ℕ). n) (entry_size entry) (map entry_size (one ++ other)) in
    let same : log_size (entry ∷ one) ≡ entry_size entry + log_size one = sum_by-cons (λ (n : ℕ). n) (entry_size entry) (map entry_size one) in
    let rest = size-append one other in
    omega arith

zip_length : {A B : Type 0} (P : A → B → Type 0) (xs : List A) (ys : List B) → AllZip P xs ys → length xs ≡ length ys
zip_length P [] [] z = refl
zip_length P [] (y ∷ ys) z = absurd z
zip_length P (x ∷ xs) [] z = absurd z
zip_length P (x ∷ xs) (y ∷ ys) z = let rest = zip_length P xs ys z.1 in omega (arith, rest)

-- the reported value, or nothing
abbrev given_in : Option InletView → List Given
given_in None = []
given_in (Some view) = view.gave

abbrev taken_in : Option (List Taken) → List Taken
taken_in None = []
taken_in (Some taken) = taken

abbrev ticks_in : Option ClockView → ℕ
ticks_in None = 0
ticks_in (Some view) = view.ticks

-- if an end reports its items, the number of items that it gave or took is determined
as_given : (old : Option InletView) (view : InletView) (xs ys : List Given) (a b : Bool) → old ≡ Some view → and_given old xs a ≡ and_given old ys b → length xs ≡ length ys
as_given None view xs ys a b is e = absurd (let none : ◌≡◌ {A = Option InletView} None (Some view) = is in cc)
as_given (Some v) view xs ys a b is e =
    let same : v.gave ++ xs ≡ v.gave ++ ys = ap given_in e in
    let count = ap length same in omega (arith, count, length-append v.gave xs, length-append v.gave ys)

as_taken : (old : Option (List Taken)) (view : List Taken) (xs ys : List Taken) → old ≡ Some view → and_taken old xs ≡ and_taken old ys → length xs ≡ length ys
as_taken None view xs ys is e = absurd (let none : ◌≡◌ {A = Option (List Taken)} None (Some view) = is in cc)
as_taken (Some v) view xs ys is e =
    let same : v ++ xs ≡ v ++ ys = ap taken_in e in
    let count = ap length same in omega (arith, count, length-append v xs, length-append v ys)

as_ticked : (old : Option ClockView) (view : ClockView) (m n : ℕ) (a b : Bool) → old ≡ Some view → and_ticked old m a ≡ and_ticked old n b → m ≡ n
as_ticked None view m n a b is e = absurd (let none : ◌≡◌ {A = Option ClockView} None (Some view) = is in cc)
as_ticked (Some v) view m n a b is e =
    let same : v.ticks + m ≡ v.ticks + n = ap ticks_in e in
    omega (arith, same)

taken_count : (outs : List Out) → length (map taken_of outs) ≡ length outs
taken_count [] = refl
taken_count (out ∷ outs) = let rest = taken_count outs in omega (arith, rest)

-- the lane's ends show no refused input and no refused cut
not_input : (origin : Origin) (log : List Entry) (lane : ℕ) (old new : LaneView) (view : InletView) → old.gave ≡ Some view → LaneRan log lane old new → InputRefused origin log lane old new → ⊥
not_input origin log lane old new view tells ran refused =
    let more = as_given old.gave view ran.given (refused.fed ++ refused.last ∷ []) ran.over false tells (sym ran.gave ∙ refused.gave) in
    let one = zip_length (IsInputFor lane) ran.given (inputs log lane) ran.lines in
    let two = zip_length (IsInputFor lane) refused.fed (inputs log lane) refused.lines in
    let count : length (refused.fed ++ refused.last ∷ []) ≡ length refused.fed + 1 = length-append refused.fed (refused.last ∷ []) in
    omega (arith, more, one, two, count)

not_cut : (origin : Origin) (log : List Entry) (lane : ℕ) (old new : LaneView) (view : List Taken) → old.took ≡ Some view → LaneRan log lane old new → CutRefused origin log lane old new → ⊥
not_cut origin log lane old new view tells ran refused =
    let less = as_taken old.took view (map taken_of (sent log lane)) (map taken_of refused.put) tells (sym ran.took ∙ refused.took) in
    let all = ap length refused.handed in
    let count : length (refused.put ++ refused.last ∷ []) ≡ length refused.put + 1 = length-append refused.put (refused.last ∷ []) in
    let taken = taken_count (sent log lane) in
    let put = taken_count refused.put in
    omega (arith, less, all, taken, put, count)

-- an input that was dropped because the bus had shut down isn't let in
not_let_in : (test : Input → Bool) (time : (it : Input) → test it ≡ true → is_time (Fed it (Dropped why.Down)) ≡ true) (before : List Entry) (it : Input) (after : List Entry) → test it ≡ true →
    AreLetIn (filter is_time (before ++ Fed it (Dropped why.Down) ∷ after)) → ⊥
not_let_in test time [] it after is let_in = go (is_time (Fed it (Dropped why.Down))) (time it is) let_in
  where
    go : (b : Bool) → b ≡ true → AreLetIn (cond b (Fed it (Dropped why.Down) ∷ filter is_time after) (filter is_time after)) → ⊥
    go true e l = let first = l.0 in cc
    go false e l = cc
not_let_in test time (entry ∷ before) it after is let_in = not_let_in test time before it after is (go (is_time entry) let_in)
  where
    go : (b : Bool) → AreLetIn (cond b (entry ∷ filter is_time (before ++ Fed it (Dropped why.Down) ∷ after)) (filter is_time (before ++ Fed it (Dropped why.Down) ∷ after))) → AreLetIn (filter is_time (before ++ Fed it (Dropped why.Down) ∷ after))
    go true l = l.1
    go false l = l

tick_is_time : (it : Input) → is_tick_input it ≡ true → is_time (Fed it (Dropped why.Down)) ≡ true
tick_is_time input.Tick e = refl
tick_is_time input.NoTicks e = refl
tick_is_time (input.Line lane line) e = e
tick_is_time (input.Gone lane) e = e
tick_is_time (input.Cut lane) e = e

no_word : (first : List Entry) (reply : Reply) → AreTicks (first ++ Fed input.NoTicks reply ∷ []) → ⊥
no_word [] reply ticks = ticks
no_word (Fed input.Tick r ∷ first) reply ticks = no_word first reply ticks
no_word (Fed input.NoTicks r ∷ first) reply ticks = ticks
no_word (Fed (input.Line at line) r ∷ first) reply ticks = ticks
no_word (Fed (input.Gone at) r ∷ first) reply ticks = ticks
no_word (Fed (input.Cut at) r ∷ first) reply ticks = ticks
no_word (Did label ∷ first) reply ticks = ticks
no_word (Quiet ∷ first) reply ticks = ticks
no_word (Gave at out ∷ first) reply ticks = ticks

not_word : (origin : Origin) (log : List Entry) (most : ℕ) (old new : Option ClockView) (Failed Other : Type 0) → ClockRan log most old new Failed → NoTicksRefused origin log most old new Other → ⊥
not_word origin log most old new Failed Other ran refused = go ran.word
  where
    go : IsNoTicks ran.time.tail ⊎ HasDropped is_tick_input log → ⊥
    go (inl w) = no_word ran.time.first w.0 (subst AreTicks (ran.time.is ∙ ap (λ (t : List Entry). ran.time.first ++ t) w.1) refused.time)
    go (inr d) = not_let_in is_tick_input tick_is_time d.0 d.1 d.2 d.3 (subst (λ (l : List Entry). AreLetIn (filter is_time l)) d.4 refused.let_in)

-- the bus of a core that has this log
bus_is : (core : CoreState) (origin : Origin) (log : List Entry) → core.origin ≡ origin → core.log ≡ log → bus_now core ≡ replay (start origin) log
unfolding bus_now
bus_is core origin log o l = ap (λ (it : Origin). replay (start it) core.log) o ∙ ap (λ (it : List Entry). replay (start origin) it) l

-- the theorem on a core whose log is full
abbrev pub FullLaw : Type 0
FullLaw = (core : CoreState) (call : Call) → IsTrace (start core.origin) core.log → MayCall call → is_full core call ≡ true → length core.log ≤ core.origin.limit →
    IsAtLimit (largest_command core.origin) core.origin core.log

module _ (law : FullLaw) (back : CoreState) (trace : IsTrace (start back.origin) back.log) (within : length back.log ≤ back.origin.limit) (small : log_size back.log + max 131072 (largest_command back.origin) ≤ most_size) (done : IsDone (replay (start back.origin) back.log)) where
  -- a call for which the log had no capacity found none after the last entry
  at_end : (call : Call) (it : HadNoRoom call back.origin back.log) → it.core.log ≡ back.log
  at_end call it = go (law it.core call before it.may it.full fits)
    where
      before : IsTrace (start it.core.origin) it.core.log
      before = subst (λ (o : Origin). IsTrace (start o) it.core.log) (sym it.origin_is) (trace_before (start back.origin) it.core.log it.rest (subst (IsTrace (start back.origin)) it.is trace))

      counts : length back.log ≡ length it.core.log + length it.rest
      counts = ap length it.is ∙ length-append it.core.log it.rest

      sizes : log_size back.log ≡ log_size it.core.log + log_size it.rest
      sizes = ap log_size it.is ∙ size-append it.core.log it.rest

      limit : it.core.origin.limit ≡ back.origin.limit
      limit = ap (λ (o : Origin). o.limit) it.origin_is

      largest : max 131072 (largest_command it.core.origin) ≡ max 131072 (largest_command back.origin)
      largest = ap (λ (o : Origin). max 131072 (largest_command o)) it.origin_is

      fits : length it.core.log ≤ it.core.origin.limit
      fits = let n = counts in let m = limit in let w = within in omega (arith, n, m, w)

      go : IsAtLimit (largest_command it.core.origin) it.core.origin it.core.log → it.core.log ≡ back.log
      go (inl count) =
          let n = counts in let m = limit in let w = within in
          let none : it.rest ≡ [] = nil_from_length it.rest (omega (arith, n, m, w, count)) in
          sym (it.is ∙ (ap (λ (r : List Entry). it.core.log ++ r) none ∙ append-nil it.core.log))
      go (inr large) = absurd (let n = sizes in let m = largest in let s = small in omega (arith, n, m, s, large))

  no_out : (lane : ℕ) → HadNoRoom (HandOut lane) back.origin back.log → ⊥
  no_out lane it =
      let bus = bus_is it.core back.origin back.log it.origin_is (at_end (HandOut lane) it) in
      let none : next_out lane (bus_now it.core).bench ≡ None = ap (λ (b : Bus). next_out lane b.bench) bus ∙ done.empty lane it.may in
      let free : is_full it.core (HandOut lane) ≡ false = ap (λ (o : Option Out). lacks_room it.core (out_entry lane o)) none in
      let clash : true ≡ false = sym it.full ∙ free in cc

  no_step : HadNoRoom MakeStep back.origin back.log → ⊥
  no_step it =
      let bus = bus_is it.core back.origin back.log it.origin_is (at_end MakeStep it) in
      let down : (bus_now it.core).down ≡ true = ap (λ (b : Bus). b.down) bus ∙ done.down in
      let free : is_full it.core MakeStep ≡ false = ap (λ (d : Bool). lacks_room it.core (step_entry d (ends_quiet it.core.log) (steps (bus_now it.core)))) down in
      let clash : true ≡ false = sym it.full ∙ free in cc

  no_lane : (lane : ℕ) (olds news : List LaneView) → AllTell olds → EachLane (LaneRan back.log) lane olds news → SomeLane (LaneRefused back.origin back.log) lane olds news → ⊥
  no_lane lane [] news tells ran some = some
  no_lane lane (old ∷ olds) [] tells ran some = some
  no_lane lane (old ∷ olds) (new ∷ news) tells ran (inl (inl it)) = not_input back.origin back.log lane old new tells.0.0 tells.0.1 ran.0 it
  no_lane lane (old ∷ olds) (new ∷ news) tells ran (inl (inr (inl it))) = no_out lane it
  no_lane lane (old ∷ olds) (new ∷ news) tells ran (inl (inr (inr it))) = not_cut back.origin back.log lane old new tells.1.0 tells.1.1 ran.0 it
  no_lane lane (old ∷ olds) (new ∷ news) tells ran (inr some) = no_lane (lane + 1) olds news tells.2 ran.1 some

  not_refused : (most : ℕ) (old new : OutsideView) (Failed : Type 0) → Tells old → EachLane (LaneRan back.log) 1 old.lanes new.lanes → ClockRan back.log most old.clock new.clock Failed → WasRefused most old new back.origin back.log → ⊥
  not_refused most old new Failed tells lanes clock (inl some) = no_lane 1 old.lanes new.lanes tells.lanes lanes some
  not_refused most old new Failed tells lanes clock (inr (inl tick)) =
      let same = as_ticked old.clock tells.clock.0 (ticks back.log) (ticks back.log + 1) clock.ended false tells.clock.1 (sym clock.told ∙ tick.told) in
      omega (arith, same)
  not_refused most old new Failed tells lanes clock (inr (inr (inl word))) = not_word back.origin back.log most old.clock new.clock Failed _ clock word
  not_refused most old new Failed tells lanes clock (inr (inr (inr step))) = no_step step

pub not_both : FullLaw → (most : ℕ) (old new : OutsideView) (origin other : Origin) (back : CoreState) → Tells old → log_size back.log + max 131072 (largest_command back.origin) ≤ most_size →
    Runs most old new origin back why_of.Ended → Runs most old new other back why_of.Events → ⊥
not_both law most old new origin other back tells small ended full =
    not_refused law back ended.history.trace ended.within small ended.outcome.3 most old new ⊥ tells ended.outcome.1 ended.outcome.2 full.outcome.4
