-- What a pair shows whose buses both went to their end isn't what a pair shows of which a bus found its log full.
use Rattle.std.proofs.Common.{◌≡◌, ◌≤◌, ◌+◌, ◌⊎◌, ℕ, max, List, [], ◌∷◌, ◌++◌, length, map, Bool, true, false, cond, Option, Some, None, refl, sym, ap, ◌∙◌, subst, inl, inr, append-nil, length-append, arith}
use Rattle.std.specs.Prelude.{filter}
use Rattle.std.specs.List.{AllZip}
use Rattle.std.proofs.lemmas.List.{nil_from_length}
use Rattle.std.proofs.lemmas.List.Sums.{sum_by-cons}
use Rattle.tb_terms.specs.declared.term.Term.{Term}
use Rattle.tb_edge.specs.Ends.{InletView, ClockView, and_given, and_taken, and_ticked}
use Rattle.tb_edge.specs.Faults.{Rose}
use Rattle.tb_edge.specs.declared.given.Given.{Given}
use Rattle.tb_edge.specs.declared.given.Taken.{Taken}
use Rattle.tb_tool_line.specs.Sending.{taken_of}
use Rattle.tb_log.specs.Lanes.{inputs, sent, ticks, is_tick_input}
use Rattle.tb_log.specs.Limits.{entry_size, log_size, most_size}
use Rattle.tb_log.specs.declared.entry.Input.{Input}
use Rattle.tb_log.specs.declared.entry.Input.TheVariants as input
use Rattle.tb_log.specs.declared.entry.Out.{Out}
use Rattle.tb_log.specs.declared.entry.Reply.{Reply}
use Rattle.tb_log.specs.declared.entry.Reply.TheVariants.{Dropped}
use Rattle.tb_log.specs.declared.entry.Why.TheVariants as why
use Rattle.tb_log.specs.declared.entry.Entry.{Entry}
use Rattle.tb_log.specs.declared.entry.Entry.TheVariants.{Did, Quiet, Fed, Gave}
use Rattle.tb_tools.specs.Finding.{next_out}
use Rattle.tb_bus.specs.Buses.{Bus, start}
use Rattle.tb_bus.specs.Commands.{largest_command}
use Rattle.tb_bus.specs.Steps.{steps}
use Rattle.tb_bus.specs.Traces.{IsTrace, replay}
use Rattle.tb_bus.specs.declared.origin.Origin.{Origin}
use Rattle.tb_core.specs.Cores.{CoreState, Call, HandOut, MakeStep, bus_now, ends_quiet, is_full, lacks_room, out_entry, step_entry}
use Rattle.tb_core.specs.Full.{IsAtLimit, MayCall}
use Rattle.tb_run.specs.Clocks.{is_time}
use Rattle.tb_run.specs.Dropping.{AreLetIn, HasDropped}
use Rattle.tb_run.specs.Outcomes.{IsDone, LaneRan, is_of}
use Rattle.tb_run.specs.Refusals.{CutRefused, HadNoRoom, InputRefused, LaneRefused, NoTicksRefused}
use Rattle.tb_run.specs.Views.{AllTell, EachLane, LaneView, SomeLane}
use Rattle.tb_run.specs.Workers.{AreTicks, IsInputFor, IsNoTicks}
use Rattle.tb_run.proofs.TraceLemmas.{trace_before}
use Rattle.tb_pair.specs.Clocks.{TimePasses}
use Rattle.tb_pair.specs.Passing.{Passes}
use Rattle.tb_pair.specs.Piping.{events, connect, lines_of}
use Rattle.tb_pair_run.specs.Outcomes.{BothRan, BusOutcome, FirstRefused, IsLogOf, PairRuns, SecondRefused, of_both}
use Rattle.tb_pair_run.specs.Refusals.{BusRefused, ReaderRefused, TickRefused, WriterRefused}
use Rattle.tb_pair_run.specs.Views.{EachFromTwo, PairTells, PairView, SomeFromTwo, TellFromTwo}
use Rattle.tb_pair_run.specs.declared.ends.BusWhy.{BusWhy}
use Rattle.tb_pair_run.specs.declared.ends.BusWhy.TheVariants as end
use Rattle.tb_pair_run.specs.declared.ends.PairWhy.TheVariants as pair

size-append : (one other : List Entry) → log_size (one ++ other) ≡ log_size one + log_size other
size-append [] other = omega arith
size-append (entry ∷ one) other =
    let first : log_size (entry ∷ (one ++ other)) ≡ entry_size entry + log_size (one ++ other) = sum_by-cons (λ (n : ℕ). n) (entry_size entry) (map entry_size (one ++ other)) in
    let same : log_size (entry ∷ one) ≡ entry_size entry + log_size one = sum_by-cons (λ (n : ℕ). n) (entry_size entry) (map entry_size one) in
    let rest = size-append one other in
    omega arith

zip_length : {A B : Type 0} (P : A → B → Type 0) (xs : List A) (ys : List B) → AllZip P xs ys → length xs ≡ length ys
zip_length P [] [] z = refl
zip_length P [] (y ∷ ys) z = absurd z
zip_length P (x ∷ xs) [] z = absurd z
zip_length P (x ∷ xs) (y ∷ ys) z = let rest = zip_length P xs ys z.1 in omega (arith, rest)

-- what was told, or nothing
abbrev given_in : Option InletView → List Given
given_in None = []
given_in (Some view) = view.gave

abbrev taken_in : Option (List Taken) → List Taken
taken_in None = []
taken_in (Some taken) = taken

abbrev ticks_in : Option ClockView → ℕ
ticks_in None = 0
ticks_in (Some view) = view.ticks

-- who tells gave or took as much as it gave or took
as_given : (old : Option InletView) (view : InletView) (xs ys : List Given) (a b : Bool) → old ≡ Some view → and_given old xs a ≡ and_given old ys b → length xs ≡ length ys
as_given None view xs ys a b is e = absurd (let none : ◌≡◌ {A = Option InletView} None (Some view) = is in cc)
as_given (Some v) view xs ys a b is e =
    let same : v.gave ++ xs ≡ v.gave ++ ys = ap given_in e in
    let count = ap length same in omega (arith, count, length-append v.gave xs, length-append v.gave ys)

as_taken : (old : Option (List Taken)) (view : List Taken) (xs ys : List Taken) → old ≡ Some view → and_taken old xs ≡ and_taken old ys → length xs ≡ length ys
as_taken None view xs ys is e = absurd (let none : ◌≡◌ {A = Option (List Taken)} None (Some view) = is in cc)
as_taken (Some v) view xs ys is e =
    let same : v ++ xs ≡ v ++ ys = ap taken_in e in
    let count = ap length same in omega (arith, count, length-append v xs, length-append v ys)

as_ticked : (old : Option ClockView) (view : ClockView) (m n : ℕ) (a b : Bool) → old ≡ Some view → and_ticked old m a ≡ and_ticked old n b → m ≡ n
as_ticked None view m n a b is e = absurd (let none : ◌≡◌ {A = Option ClockView} None (Some view) = is in cc)
as_ticked (Some v) view m n a b is e =
    let same : v.ticks + m ≡ v.ticks + n = ap ticks_in e in
    omega (arith, same)

taken_count : (outs : List Out) → length (map taken_of outs) ≡ length outs
taken_count [] = refl
taken_count (out ∷ outs) = let rest = taken_count outs in omega (arith, rest)

-- the lane's ends show no refused input and no refused cut
not_input : (origin : Origin) (log : List Entry) (lane : ℕ) (old new : LaneView) (view : InletView) → old.gave ≡ Some view → LaneRan log lane old new → InputRefused origin log lane old new → ⊥
not_input origin log lane old new view tells ran refused =
    let more = as_given old.gave view ran.given (refused.fed ++ refused.last ∷ []) ran.over false tells (sym ran.gave ∙ refused.gave) in
    let one = zip_length (IsInputFor lane) ran.given (inputs log lane) ran.lines in
    let two = zip_length (IsInputFor lane) refused.fed (inputs log lane) refused.lines in
    let count : length (refused.fed ++ refused.last ∷ []) ≡ length refused.fed + 1 = length-append refused.fed (refused.last ∷ []) in
    omega (arith, more, one, two, count)

not_cut : (origin : Origin) (log : List Entry) (lane : ℕ) (old new : LaneView) (view : List Taken) → old.took ≡ Some view → LaneRan log lane old new → CutRefused origin log lane old new → ⊥
not_cut origin log lane old new view tells ran refused =
    let less = as_taken old.took view (map taken_of (sent log lane)) (map taken_of refused.put) tells (sym ran.took ∙ refused.took) in
    let all = ap length refused.handed in
    let count : length (refused.put ++ refused.last ∷ []) ≡ length refused.put + 1 = length-append refused.put (refused.last ∷ []) in
    let taken = taken_count (sent log lane) in
    let put = taken_count refused.put in
    omega (arith, less, all, taken, put, count)

-- what was dropped since the bus was down isn't let in
not_let_in : (test : Input → Bool) (time : (it : Input) → test it ≡ true → is_time (Fed it (Dropped why.Down)) ≡ true) (before : List Entry) (it : Input) (after : List Entry) → test it ≡ true →
    AreLetIn (filter is_time (before ++ Fed it (Dropped why.Down) ∷ after)) → ⊥
not_let_in test time [] it after is let_in = go (is_time (Fed it (Dropped why.Down))) (time it is) let_in
  where
    go : (b : Bool) → b ≡ true → AreLetIn (cond b (Fed it (Dropped why.Down) ∷ filter is_time after) (filter is_time after)) → ⊥
    go true e l = let first = l.0 in cc
    go false e l = cc
not_let_in test time (entry ∷ before) it after is let_in = not_let_in test time before it after is (go (is_time entry) let_in)
  where
    go : (b : Bool) → AreLetIn (cond b (entry ∷ filter is_time (before ++ Fed it (Dropped why.Down) ∷ after)) (filter is_time (before ++ Fed it (Dropped why.Down) ∷ after))) → AreLetIn (filter is_time (before ++ Fed it (Dropped why.Down) ∷ after))
    go true l = l.1
    go false l = l

tick_is_time : (it : Input) → is_tick_input it ≡ true → is_time (Fed it (Dropped why.Down)) ≡ true
tick_is_time input.Tick e = refl
tick_is_time input.NoTicks e = refl
tick_is_time (input.Line lane line) e = e
tick_is_time (input.Gone lane) e = e
tick_is_time (input.Cut lane) e = e

no_word : (first : List Entry) (reply : Reply) → AreTicks (first ++ Fed input.NoTicks reply ∷ []) → ⊥
no_word [] reply ticks = ticks
no_word (Fed input.Tick r ∷ first) reply ticks = no_word first reply ticks
no_word (Fed input.NoTicks r ∷ first) reply ticks = ticks
no_word (Fed (input.Line at line) r ∷ first) reply ticks = ticks
no_word (Fed (input.Gone at) r ∷ first) reply ticks = ticks
no_word (Fed (input.Cut at) r ∷ first) reply ticks = ticks
no_word (Did label ∷ first) reply ticks = ticks
no_word (Quiet ∷ first) reply ticks = ticks
no_word (Gave at out ∷ first) reply ticks = ticks

not_word : (origin : Origin) (log : List Entry) (most given : ℕ) (ended : Bool) (old new : Option ClockView) (Failed Other : Type 0) → TimePasses log most given ended Failed ⊥ → NoTicksRefused origin log most old new Other → ⊥
not_word origin log most given ended old new Failed Other passes refused = go passes.word
  where
    go : IsNoTicks passes.time.tail ⊎ (HasDropped is_tick_input log ⊎ ⊥) → ⊥
    go (inl w) = no_word passes.time.first w.0 (subst AreTicks (passes.time.is ∙ ap (λ (t : List Entry). passes.time.first ++ t) w.1) refused.time)
    go (inr (inl d)) = not_let_in is_tick_input tick_is_time d.0 d.1 d.2 d.3 (subst (λ (l : List Entry). AreLetIn (filter is_time l)) d.4 refused.let_in)
    go (inr (inr early)) = early

-- the log has all ticks that the clock gave
not_tick : (origin : Origin) (log : List Entry) (most given : ℕ) (ended : Bool) (old new : Option ClockView) (view : ClockView) (Failed : Type 0) → old ≡ Some view → new ≡ and_ticked old given ended → TimePasses log most given ended Failed ⊥ → TickRefused origin log most old new → ⊥
not_tick origin log most given ended old new view Failed tells told passes refused = go passes.all
  where
    same : given ≡ refused.given
    same = as_ticked old view given refused.given ended refused.ended tells (sym told ∙ refused.told)

    go : (ticks log ≡ given) ⊎ (HasDropped is_tick_input log ⊎ ⊥) → ⊥
    go (inl all) = let more = refused.more in let s = same in omega (arith, more, s, all)
    go (inr (inl d)) = not_let_in is_tick_input tick_is_time d.0 d.1 d.2 d.3 (subst (λ (l : List Entry). AreLetIn (filter is_time l)) d.4 refused.let_in)
    go (inr (inr early)) = early

-- all that the pipe passes on was passed on
not_empty : {A : Type 0} (x : A) (xs : List A) → [] ≡ x ∷ xs → ⊥
not_empty x xs e = let count = ap length e in omega (arith, count)

one_more : (ts : List Term) → length (lines_of ts true) ≡ length (lines_of ts false) + 1
one_more [] = refl
one_more (t ∷ ts) = let rest = one_more ts in omega (arith, rest)

not_writer : (origin : Origin) (log others : List Entry) → Passes log others ⊥ ⊥ → (HadNoRoom (HandOut 1) origin log → ⊥) → WriterRefused origin log → ⊥
not_writer origin log others passes never (inl out) = never out.1.no_room
not_writer origin log others passes never (inr name) = go passes.names
  where
    go : (inputs log 1 ≡ connect ∷ []) ⊎ ((inputs log 1 ≡ []) × ⊥) → ⊥
    go (inl is) = not_empty connect [] (sym name.0 ∙ is)
    go (inr it) = it.1

not_reader : (one : List Entry) (origin : Origin) (log : List Entry) → Passes one log ⊥ ⊥ → (HadNoRoom (HandOut 1) origin log → ⊥) → ReaderRefused one origin log → ⊥
not_reader one origin log passes never (inl out) = never out.2.no_room
not_reader one origin log passes never (inr (inl name)) = go passes.others_names
  where
    go : (inputs log 1 ≡ connect ∷ lines_of (events log) passes.leaves) ⊎ ((inputs log 1 ≡ []) × (passes.leaves ≡ false) × ⊥) → ⊥
    go (inl is) = not_empty connect (lines_of (events log) passes.leaves) (sym name.0 ∙ is)
    go (inr it) = it.2
not_reader one origin log passes never (inr (inr (inl event))) = go passes.why
  where
    go : (passes.leaves ≡ true) ⊎ (HasDropped (is_of 1) log ⊎ ⊥) → ⊥
    go (inl left) =
        let count = ap length (passes.whole left ∙ event.is) in
        let more = length-append (events log) (event.next ∷ event.rest) in
        omega (arith, count, more)
    go (inr (inl dropped)) = event.let_in dropped
    go (inr (inr early)) = early
not_reader one origin log passes never (inr (inr (inr leave))) = go passes.others_names passes.why
  where
    go : (inputs log 1 ≡ connect ∷ lines_of (events log) passes.leaves) ⊎ ((inputs log 1 ≡ []) × (passes.leaves ≡ false) × ⊥) → (passes.leaves ≡ true) ⊎ (HasDropped (is_of 1) log ⊎ ⊥) → ⊥
    go (inl is) (inl left) =
        let count = ap length (sym is ∙ leave.lines) in
        let same = ap (λ (b : Bool). length (lines_of (events log) b)) left in
        let more = one_more (events log) in
        omega (arith, count, same, more)
    go (inl is) (inr (inl dropped)) = leave.let_in dropped
    go (inl is) (inr (inr early)) = early
    go (inr it) left = it.2

-- the bus of a core that has this log
bus_is : (core : CoreState) (origin : Origin) (log : List Entry) → core.origin ≡ origin → core.log ≡ log → bus_now core ≡ replay (start origin) log
unfolding bus_now
bus_is core origin log o l = ap (λ (it : Origin). replay (start it) core.log) o ∙ ap (λ (it : List Entry). replay (start origin) it) l

-- the law of a core whose log is full
abbrev pub FullLaw : Type 0
FullLaw = (core : CoreState) (call : Call) → IsTrace (start core.origin) core.log → MayCall call → is_full core call ≡ true → length core.log ≤ core.origin.limit →
    IsAtLimit (largest_command core.origin) core.origin core.log

module _ (law : FullLaw) (back : CoreState) (trace : IsTrace (start back.origin) back.log) (within : length back.log ≤ back.origin.limit) (small : log_size back.log + max 131072 (largest_command back.origin) ≤ most_size) (done : IsDone (replay (start back.origin) back.log)) where
  -- a call that found no room found none behind the last entry
  at_end : (call : Call) (it : HadNoRoom call back.origin back.log) → it.core.log ≡ back.log
  at_end call it = go (law it.core call before it.may it.full fits)
    where
      before : IsTrace (start it.core.origin) it.core.log
      before = subst (λ (o : Origin). IsTrace (start o) it.core.log) (sym it.origin_is) (trace_before (start back.origin) it.core.log it.rest (subst (IsTrace (start back.origin)) it.is trace))

      counts : length back.log ≡ length it.core.log + length it.rest
      counts = ap length it.is ∙ length-append it.core.log it.rest

      sizes : log_size back.log ≡ log_size it.core.log + log_size it.rest
      sizes = ap log_size it.is ∙ size-append it.core.log it.rest

      limit : it.core.origin.limit ≡ back.origin.limit
      limit = ap (λ (o : Origin). o.limit) it.origin_is

      largest : max 131072 (largest_command it.core.origin) ≡ max 131072 (largest_command back.origin)
      largest = ap (λ (o : Origin). max 131072 (largest_command o)) it.origin_is

      fits : length it.core.log ≤ it.core.origin.limit
      fits = let n = counts in let m = limit in let w = within in omega (arith, n, m, w)

      go : IsAtLimit (largest_command it.core.origin) it.core.origin it.core.log → it.core.log ≡ back.log
      go (inl count) =
          let n = counts in let m = limit in let w = within in
          let none : it.rest ≡ [] = nil_from_length it.rest (omega (arith, n, m, w, count)) in
          sym (it.is ∙ (ap (λ (r : List Entry). it.core.log ++ r) none ∙ append-nil it.core.log))
      go (inr large) = absurd (let n = sizes in let m = largest in let s = small in omega (arith, n, m, s, large))

  no_out : (lane : ℕ) → HadNoRoom (HandOut lane) back.origin back.log → ⊥
  no_out lane it =
      let bus = bus_is it.core back.origin back.log it.origin_is (at_end (HandOut lane) it) in
      let none : next_out lane (bus_now it.core).bench ≡ None = ap (λ (b : Bus). next_out lane b.bench) bus ∙ done.empty lane it.may in
      let free : is_full it.core (HandOut lane) ≡ false = ap (λ (o : Option Out). lacks_room it.core (out_entry lane o)) none in
      let clash : true ≡ false = sym it.full ∙ free in cc

  no_step : HadNoRoom MakeStep back.origin back.log → ⊥
  no_step it =
      let bus = bus_is it.core back.origin back.log it.origin_is (at_end MakeStep it) in
      let down : (bus_now it.core).down ≡ true = ap (λ (b : Bus). b.down) bus ∙ done.down in
      let free : is_full it.core MakeStep ≡ false = ap (λ (d : Bool). lacks_room it.core (step_entry d (ends_quiet it.core.log) (steps (bus_now it.core)))) down in
      let clash : true ≡ false = sym it.full ∙ free in cc

  no_lane : (lane : ℕ) (olds news : List LaneView) → AllTell olds → EachLane (LaneRan back.log) lane olds news → SomeLane (LaneRefused back.origin back.log) lane olds news → ⊥
  no_lane lane [] news tells ran some = some
  no_lane lane (old ∷ olds) [] tells ran some = some
  no_lane lane (old ∷ olds) (new ∷ news) tells ran (inl (inl it)) = not_input back.origin back.log lane old new tells.0.0 tells.0.1 ran.0 it
  no_lane lane (old ∷ olds) (new ∷ news) tells ran (inl (inr (inl it))) = no_out lane it
  no_lane lane (old ∷ olds) (new ∷ news) tells ran (inl (inr (inr it))) = not_cut back.origin back.log lane old new tells.1.0 tells.1.1 ran.0 it
  no_lane lane (old ∷ olds) (new ∷ news) tells ran (inr some) = no_lane (lane + 1) olds news tells.2 ran.1 some

  not_lanes : (olds news : List LaneView) → TellFromTwo olds → EachFromTwo (LaneRan back.log) olds news → SomeFromTwo (LaneRefused back.origin back.log) olds news → ⊥
  not_lanes [] [] tells ran some = some
  not_lanes [] (new ∷ news) tells ran some = some
  not_lanes (old ∷ olds) [] tells ran some = some
  not_lanes (old ∷ olds) (new ∷ news) tells ran some = no_lane 2 olds news tells ran.1 some

  not_refused : (Pipe : Type 0) (most given : ℕ) (ended : Bool) (lanes lanes' : List LaneView) (clock clock' : Option ClockView) (view : ClockView) (Failed Other : Type 0) → (Pipe → ⊥) → TellFromTwo lanes → clock ≡ Some view → EachFromTwo (LaneRan back.log) lanes lanes'
      → clock' ≡ and_ticked clock given ended → TimePasses back.log most given ended Failed ⊥ → BusRefused Pipe Other most (record { lanes_old = lanes; lanes_new = lanes'; clock_old = clock; clock_new = clock'; origin = back.origin; log = back.log }) → ⊥
  not_refused Pipe most given ended lanes lanes' clock clock' view Failed Other never tells clock_tells ran told passes (inl some) = not_lanes lanes lanes' tells ran some
  not_refused Pipe most given ended lanes lanes' clock clock' view Failed Other never tells clock_tells ran told passes (inr (inl pipe)) = never pipe
  not_refused Pipe most given ended lanes lanes' clock clock' view Failed Other never tells clock_tells ran told passes (inr (inr (inl tick))) = not_tick back.origin back.log most given ended clock clock' view Failed clock_tells told passes tick
  not_refused Pipe most given ended lanes lanes' clock clock' view Failed Other never tells clock_tells ran told passes (inr (inr (inr (inl word)))) = not_word back.origin back.log most given ended clock clock' Failed Other passes word
  not_refused Pipe most given ended lanes lanes' clock clock' view Failed Other never tells clock_tells ran told passes (inr (inr (inr (inr step)))) = no_step step

abbrev is_events : BusWhy → Bool
is_events end.Ended = false
is_events end.Events = true
is_events end.NoMemory = false

no_clash : false ≡ true → ⊥
no_clash e = let clash : false ≡ true = e in cc

not_first : FullLaw → (most : ℕ) (old new : PairView) (origin : Origin) (back others_back : CoreState) → PairTells old → log_size back.log + max 131072 (largest_command back.origin) ≤ most_size → IsLogOf origin back
    → BothRan most old new back others_back end.Ended end.Ended ⊥ → FirstRefused most old new back → ⊥
not_first law most old new origin back others_back tells small log ran refused =
    let never = no_out law back log.history.trace log.within small ran.first.1 1 in
    not_refused law back log.history.trace log.within small ran.first.1 (WriterRefused back.origin back.log) most ran.clock.given ran.clock.ended old.lanes new.lanes old.clock new.clock tells.clock.0 ⊥ (Rose old.clock_faults new.clock_faults)
    (not_writer back.origin back.log others_back.log ran.pipe never) tells.lanes tells.clock.1 ran.first.0 ran.clock.told ran.clock.first refused

not_second : FullLaw → (most : ℕ) (old new : PairView) (origin : Origin) (back others_back : CoreState) → PairTells old → log_size others_back.log + max 131072 (largest_command others_back.origin) ≤ most_size → IsLogOf origin others_back
    → BothRan most old new back others_back end.Ended end.Ended ⊥ → SecondRefused most old new back others_back → ⊥
not_second law most old new origin back others_back tells small log ran refused =
    let never = no_out law others_back log.history.trace log.within small ran.second.1 1 in
    not_refused law others_back log.history.trace log.within small ran.second.1 (ReaderRefused back.log others_back.origin others_back.log) most ran.clock.given ran.clock.ended old.others new.others old.clock new.clock tells.clock.0 ⊥ (Rose old.clock_faults new.clock_faults)
    (not_reader back.log others_back.origin others_back.log ran.pipe never) tells.others tells.clock.1 ran.second.0 ran.clock.told ran.clock.second refused

pub not_both : FullLaw → (most : ℕ) (old new : PairView) (origin others_origin origin' others_origin' : Origin) (back others_back : CoreState) → PairTells old → log_size back.log + max 131072 (largest_command back.origin) ≤ most_size
    → log_size others_back.log + max 131072 (largest_command others_back.origin) ≤ most_size
    → PairRuns most old new origin others_origin back others_back pair.Ended → PairRuns most old new origin' others_origin' back others_back pair.Events → ⊥
not_both law most old new origin others_origin origin' others_origin' back others_back tells small others_small ended full =
    go full.outcome.why full.outcome.others_why full.outcome.is full.outcome.ran.first full.outcome.ran.second
  where
    go : (one other : BusWhy) → of_both one other ≡ end.Events → BusOutcome (FirstRefused most old new back) old.lanes new.lanes back one → BusOutcome (SecondRefused most old new back others_back) old.others new.others others_back other → ⊥
    go end.Events other e it others = not_first law most old new origin back others_back tells small ended.first ended.outcome it.2
    go end.Ended end.Events e it others = not_second law most old new others_origin back others_back tells others_small ended.second ended.outcome others.2
    go end.Ended end.Ended e it others = no_clash (ap is_events e)
    go end.Ended end.NoMemory e it others = no_clash (ap is_events e)
    go end.NoMemory other e it others = no_clash (ap is_events e)
