-- What a pair comes to, once its workers' seats have become one again at each bus and the two ends of the pipe have met.
use Rattle.std.proofs.Common.{◌≡◌, ◌≤◌, ◌<◌, ◌+◌, ◌⊎◌, ⊎_elim, ℕ, List, [], ◌∷◌, ◌++◌, length, Bool, true, false, cond, ◌||◌, Option, Some, None, refl, sym, ap, ◌∙◌, subst, inl, inr, append_assoc, append-nil, true≢false, arith}
use Rattle.std.specs.Prelude.{filter, is_some}
use Rattle.std.specs.List.{cons_option, filter_map, list_any}
use Rattle.atomic_table.specs.Seated.{TableId}
use Rattle.tb_terms.specs.declared.term.Term.{Term}
use Rattle.tb_edge.specs.Ends.{ClockView, and_ticked}
use Rattle.tb_edge.specs.Faults.{Rose}
use Rattle.tb_tools.specs.Finding.{next_out}
use Rattle.tb_log.specs.declared.entry.Input.{Input}
use Rattle.tb_log.specs.declared.entry.Input.TheVariants as input
use Rattle.tb_log.specs.declared.entry.Entry.{Entry}
use Rattle.tb_log.specs.declared.entry.Entry.TheVariants.{Fed}
use Rattle.tb_log.specs.declared.entry.Reply.{Reply}
use Rattle.tb_log.specs.declared.entry.Reply.TheVariants.{Dropped}
use Rattle.tb_log.specs.declared.entry.Why.TheVariants as why
use Rattle.tb_log.specs.Lanes.{given_on, input_by, inputs, ticks}
use Rattle.tb_bus.specs.declared.origin.Origin.{Origin}
use Rattle.tb_core.specs.Cores.{Call, CoreState, HandIn, HandOut, MakeStep}
use Rattle.tb_lock.specs.declared.rights.Rights.{Rights}
use Rattle.tb_lock.specs.Rights.{In, has, own, right_of}
use Rattle.tb_lock.specs.Seats.{SeatView}
use Rattle.tb_lock.specs.Calls.{Closes}
use Rattle.tb_run.specs.declared.ends.WorkEnd.{WorkEnd}
use Rattle.tb_run.specs.declared.ends.WorkEnd.TheVariants as end
use Rattle.tb_run.specs.Clocks.{is_time}
use Rattle.tb_run.specs.Dropping.{AreLetIn, HasDropped}
use Rattle.tb_run.specs.Outcomes.{is_of}
use Rattle.tb_run.specs.Reasons.{is_no_memory, is_full_end}
use Rattle.tb_run.specs.Seats.{FoundFull}
use Rattle.tb_run.specs.Refusals.{HadNoRoom, LaneRefused, NoTicksRefused}
use Rattle.tb_run.specs.Views.{LaneView, SomeLane}
use Rattle.tb_run.specs.Workers.{AreTicks, bus_of}
use Rattle.tb_run.proofs.EndLemmas.{CameToEnd, NoneRefused}
use Rattle.tb_run.proofs.LimitLemmas.{LaterLaw, WasFull, full_at_limit}
use Rattle.tb_run.proofs.Projections.{inputs_own}
use Rattle.tb_run.proofs.RefusedLemmas.{no_room}
use Rattle.tb_pair.specs.declared.piece.Piece.{Piece}
use Rattle.tb_pair.specs.Clocks.{ClockPasses, TimePasses}
use Rattle.tb_pair.specs.Jobs.{CanServe}
use Rattle.tb_pair.specs.Passing.{IsPartOf, Passes}
use Rattle.tb_pair.specs.Piping.{connect, disconnect, does, event_in, event_of, events, lines_of}
use Rattle.tb_pair.specs.Ticking.{CanTick, GetsTicks, IsCut, TicksPair, TicksSeat, WhyEnds, WhyNoMore}
use Rattle.tb_pair.specs.Workers.{FullAfter, IsEarly, PipeEnds, ReaderFull, ReadsPipe, WriterFull, WritesPipe}
use Rattle.tb_pair.proofs.PassLemmas.{does_own, own_is, passes}
use Rattle.tb_pair.proofs.PieceLemmas.{StandFirst, stand_first}
use Rattle.tb_pair.proofs.TimeLemmas.{count_is, rose_of, time, times}
use Rattle.tb_pair_run.specs.Helpers.Reasons.{bus_why, of_refusals, of_ticks, pair_why}
use Rattle.tb_pair_run.specs.Helpers.Running.{HasCome}
use Rattle.tb_pair_run.specs.Outcomes.{BothRan, BusOutcome, Early, PairOutcome, SomeStopped, TellsFirst, of_both}
use Rattle.tb_pair_run.specs.Refusals.{BusRefused, NoRoomAfterInputs, ReaderRefused, TickRefused, WriterRefused}
use Rattle.tb_pair_run.specs.Views.{IsUnused, PairView, pair_of}
use Rattle.tb_pair_run.specs.declared.ends.BusWhy.{BusWhy}
use Rattle.tb_pair_run.specs.declared.ends.BusWhy.TheVariants as bus
use Rattle.tb_pair_run.specs.declared.ends.PairWhy.{PairWhy}
use Rattle.tb_pair_run.specs.declared.ends.PairWhy.TheVariants as pair
use Rattle.tb_pair_run.proofs.RoomLemmas.{no_room_after}
use Rattle.tb_pair_run.proofs.SideLemmas.{SideCame, SideEnded}

-- a worker that came to its end had no early one
came_late : (it : WorkEnd) → CameToEnd it → IsEarly it → ⊥
came_late end.Over c e = e
came_late end.Down c e = e
came_late end.Failed c e = e
came_late end.Stopped c e = c
came_late end.Full c e = c
came_late end.NoMemory c e = c

-- what early ends show may be said of less
passes_by : (one other : List Entry) (A B A' B' : Type 0) → (A → A') → (B → B') → Passes one other A B → Passes one other A' B'
passes_by one other A B A' B' f g p = record {
  rest = p.rest;
  prefix = p.prefix;
  no_cut = p.no_cut;
  others_no_cut = p.others_no_cut;
  first = p.first;
  others_first = p.others_first;
  others_once = p.others_once;
  names = ⊎_elim (λ e. inl e) (λ e. inr (e.0, f e.1)) p.names;
  leaves = p.leaves;
  others_names = ⊎_elim (λ e. inl e) (λ e. inr (e.0, e.1, g e.2)) p.others_names;
  whole = p.whole;
  why = ⊎_elim (λ e. inl e) (λ e. inr (⊎_elim (λ d. inl d) (λ b. inr (g b)) e)) p.why;
  exact = ⊎_elim (λ e. inl e) (λ e. inr (⊎_elim (λ d. inl d) (λ b. inr (g b)) e)) p.exact;
}

time_by : (log : List Entry) (most given : ℕ) (ended : Bool) (F A A' : Type 0) → (A → A') → TimePasses log most given ended F A → TimePasses log most given ended F A'
time_by log most given ended F A A' f t = record {
  within = t.within;
  all = ⊎_elim (λ e. inl e) (λ e. inr (⊎_elim (λ d. inl d) (λ a. inr (f a)) e)) t.all;
  time = t.time;
  once = t.once;
  why = t.why;
  read = ⊎_elim (λ e. inl e) (λ a. inr (f a)) t.read;
  word = ⊎_elim (λ e. inl e) (λ e. inr (⊎_elim (λ d. inl d) (λ a. inr (f a)) e)) t.word;
}

clock_by : (most : ℕ) (one other : List Entry) (old new : Option ClockView) (F A B A' B' : Type 0) → (A → A') → (B → B') → ClockPasses most one other old new F A B → ClockPasses most one other old new F A' B'
clock_by most one other old new F A B A' B' f g c = record {
  given = c.given;
  ended = c.ended;
  told = c.told;
  within = c.within;
  first = time_by one most c.given c.ended F A A' f c.first;
  second = time_by other most c.given c.ended F B B' g c.second;
  fully = ⊎_elim (λ e. inl (⊎_elim (λ a. inl a) (λ a. inr (a.0, f a.1)) e)) (λ e. inr (⊎_elim (λ a. inl a) (λ a. inr (a.0, g a.1)) e)) c.fully;
}

-- the reason of a bus, and what follows of its workers
ended_none : (m f : Bool) → of_refusals m f ≡ bus.Ended → (m ≡ false) × (f ≡ false)
ended_none true f e = absurd cc
ended_none false true e = absurd cc
ended_none false false e = (refl, refl)

events_full : (m f : Bool) → of_refusals m f ≡ bus.Events → f ≡ true
events_full true f e = absurd cc
events_full false true e = refl
events_full false false e = absurd cc

-- a call of this seat that found no room did so in the log
abbrev NoRoom : SeatView → SeatView → SeatView → Type 0
NoRoom begun done last = (call : Call) → FoundFull call begun done → HadNoRoom call last.origin last.seen

-- and one that found no room after entries that have all inputs of lane 1
abbrev NoRoomAfter : SeatView → SeatView → SeatView → Type 0
NoRoomAfter begun done last = (call : Call) (more : List Entry) → inputs last.seen 1 ≡ inputs more 1 → FullAfter call begun done more → NoRoomAfterInputs call last.origin last.seen

-- who was refused of the ticker
module _ (most : ℕ) (begun done last : SeatView) (bus : TableId) (clock_old clock_new : Option ClockView) (faults_old faults_new given : ℕ) (ended : Bool) (told : clock_new ≡ and_ticked clock_old given ended) (high : given ≤ most)
    (t : TicksSeat (WhyNoMore most given ended faults_old faults_new) begun done given end.Full) (can : CanTick bus begun) (part : IsPartOf begun done last) (found : NoRoom begun done last) where
  ticker_count : ticks last.seen ≡ length t.first
  ticker_count = count_is (WhyNoMore most given ended faults_old faults_new) bus begun done last given end.Full t can part

  times_are : filter is_time last.seen ≡ t.first
  times_are = time (WhyNoMore most given ended faults_old faults_new) bus begun done last given end.Full t can part ∙ (ap (λ (s : List Entry). t.first ++ s) t.ends.0 ∙ append-nil t.first)

  only_ticks : AreTicks (filter is_time last.seen)
  only_ticks = subst AreTicks (sym times_are) t.ticks

  all_let_in : AreLetIn (filter is_time last.seen)
  all_let_in = subst AreLetIn (sym times_are) t.let_in

  by_ticker : ((length t.first < given) × FoundFull (HandIn input.Tick) begun done) ⊎ ((length t.first ≡ given) × WhyNoMore most given ended faults_old faults_new × FoundFull (HandIn input.NoTicks) begun done)
      → TickRefused last.origin last.seen most clock_old clock_new ⊎ NoTicksRefused last.origin last.seen most clock_old clock_new (Rose faults_old faults_new)
  by_ticker (inl f) = inl (record { given = given; ended = ended; told = told; within = high; more = (let c = ticker_count in let low = f.0 in omega (arith, c, low)); time = only_ticks; let_in = all_let_in; no_room = found (HandIn input.Tick) f.1 })
  by_ticker (inr f) = inr (record {
    ended = ended;
    told = told ∙ ap (λ (n : ℕ). and_ticked clock_old n ended) (sym (ticker_count ∙ f.0));
    why = ⊎_elim (λ e. inl e) (λ e. inr (⊎_elim (λ rose. inl rose) (λ all. inr ((ticker_count ∙ f.0) ∙ all)) e)) f.1;
    time = only_ticks;
    let_in = all_let_in;
    no_room = found (HandIn input.NoTicks) f.2;
  })

  tick_refused : TickRefused last.origin last.seen most clock_old clock_new ⊎ NoTicksRefused last.origin last.seen most clock_old clock_new (Rose faults_old faults_new)
  tick_refused = by_ticker t.ends.1

-- who was refused of the worker that writes the pipe
writer_refused : (bus : TableId) (begun done last : SeatView) (sent : List Piece) → (w : WritesPipe begun done [] sent end.Full) → CanServe bus begun → IsPartOf begun done last → NoRoom begun done last → NoRoomAfter begun done last → WriterRefused last.origin last.seen
writer_refused bus begun done last sent w can part found found_after = go w.ends
  where
    write_inputs : inputs last.seen 1 ≡ w.given
    write_inputs = sym (inputs_own begun.rights 1 can.reads last.seen) ∙ (ap (λ (l : List Entry). inputs l 1) (own_is begun done last w.more part w.goes.adds) ∙ w.goes.given_are)

    go : WriterFull begun done w.more w.given → WriterRefused last.origin last.seen
    go (inl f) = inl (write_inputs ∙ f.0, found_after (HandOut 1) w.more (write_inputs ∙ sym w.goes.given_are) f.1)
    go (inr f) = inr (write_inputs ∙ f.0, found (HandIn connect) f.1)

-- the right for an input of a lane is that of the lane
of_lane : (lane : ℕ) (rights : Rights) (it : Input) (reply : Reply) → has rights (In lane) ≡ true → is_of lane it ≡ true → has rights (right_of (Fed it reply)) ≡ true
of_lane lane rights it reply there is = go (has rights (right_of (Fed it reply))) refl (inputs_own rights lane there (Fed it reply ∷ []))
  where
    none : (o : Option Input) → is_some o ≡ true → ◌≡◌ {A = List Input} [] (cons_option o []) → ⊥
    none None t e = true≢false (sym t)
    none (Some x) t e = absurd cc

    go : (b : Bool) → has rights (right_of (Fed it reply)) ≡ b → filter_map (input_by lane) (cond b (Fed it reply ∷ []) []) ≡ cons_option (given_on lane it) [] → has rights (right_of (Fed it reply)) ≡ true
    go true e s = e
    go false e s = absurd (none (given_on lane it) is s)

-- an input of a lane that was dropped is among the entries of the right for it
own_dropped : (lane : ℕ) (rights : Rights) → has rights (In lane) ≡ true → (log : List Entry) → HasDropped (is_of lane) log → HasDropped (is_of lane) (own rights log)
own_dropped lane rights there [] d = d
own_dropped lane rights there (x ∷ log) d = at (own_dropped lane rights there log) d.0 d.1 d.2 d.3 d.4
  where
    more : (b : Bool) → HasDropped (is_of lane) (own rights log) → HasDropped (is_of lane) (cond b (x ∷ own rights log) (own rights log))
    more true h = (x ∷ h.0, h.1, h.2, h.3, ap (λ (l : List Entry). x ∷ l) h.4)
    more false h = h

    here : (b : Bool) (it : Input) → b ≡ true → is_of lane it ≡ true → x ≡ Fed it (Dropped why.Down) → HasDropped (is_of lane) (cond b (x ∷ own rights log) (own rights log))
    here true it e t h = ([], it, own rights log, t, ap (λ (y : Entry). y ∷ own rights log) h)
    here false it e t h = absurd (true≢false (sym e))

    at : (HasDropped (is_of lane) log → HasDropped (is_of lane) (own rights log)) → (before : List Entry) (it : Input) (after : List Entry) → is_of lane it ≡ true → x ∷ log ≡ before ++ Fed it (Dropped why.Down) ∷ after → HasDropped (is_of lane) (own rights (x ∷ log))
    at hyp [] it after t e =
        let head : x ≡ Fed it (Dropped why.Down) = cc in
        here (has rights (right_of x)) it (ap (λ (y : Entry). has rights (right_of y)) head ∙ of_lane lane rights it (Dropped why.Down) there t) t head
    at hyp (y ∷ before) it after t e = let tail : log ≡ before ++ Fed it (Dropped why.Down) ∷ after = cc in more (has rights (right_of x)) (hyp (before, it, after, t, tail))

-- and of the one that reads it
module _ (bus others_bus : TableId) (begun done last others_begun others_done others_last : SeatView) (sent got known : List Piece) (writer : WorkEnd) (w : WritesPipe begun done [] sent writer) (r : ReadsPipe others_begun others_done [] got end.Full)
    (met : got ++ known ≡ sent) (can : CanServe bus begun) (part : IsPartOf begun done last) (others_can : CanServe others_bus others_begun) (others_part : IsPartOf others_begun others_done others_last) (found : NoRoom others_begun others_done others_last) (found_after : NoRoomAfter others_begun others_done others_last) where
  read_inputs : inputs others_last.seen 1 ≡ r.given
  read_inputs = sym (inputs_own others_begun.rights 1 others_can.reads others_last.seen) ∙ (ap (λ (l : List Entry). inputs l 1) (own_is others_begun others_done others_last r.more others_part r.goes.adds) ∙ r.goes.given_are)

  read_events : events others_last.seen ≡ r.told
  read_events = ap (filter_map event_in) (read_inputs ∙ sym r.goes.given_are) ∙ r.events_are

  did : does last.seen ≡ w.front ++ w.rest
  did = sym (does_own begun.rights can.writes last.seen) ∙ (ap does (own_is begun done last w.more part w.goes.adds) ∙ w.told)

  first : StandFirst (r.told ++ r.lost) w.front r.last w.last
  first = stand_first (r.told ++ r.lost) w.front r.last w.last known (ap (λ (x : List Piece). x ++ known) (sym r.got) ∙ (met ∙ w.sent))

  read_all : does last.seen ≡ r.told ++ (r.lost ++ (first.more ++ w.rest))
  read_all = did ∙ (ap (λ (x : List Term). x ++ w.rest) first.is ∙ (append_assoc (r.told ++ r.lost) first.more w.rest ∙ append_assoc r.told r.lost (first.more ++ w.rest)))

  lines : (leaves : Bool) → r.given ≡ connect ∷ lines_of r.told leaves → inputs others_last.seen 1 ≡ connect ∷ lines_of (events others_last.seen) leaves
  lines leaves e = read_inputs ∙ (e ∙ ap (λ (ts : List Term). connect ∷ lines_of ts leaves) (sym read_events))

  next : (t : Term) → r.lost ≡ t ∷ [] → does last.seen ≡ events others_last.seen ++ t ∷ (first.more ++ w.rest)
  next t e = read_all ∙ (ap (λ (x : List Term). r.told ++ (x ++ (first.more ++ w.rest))) e ∙ ap (λ (x : List Term). x ++ t ∷ (first.more ++ w.rest)) (sym read_events))

  whole : r.last ≡ true → r.lost ≡ [] → events others_last.seen ≡ does last.seen
  whole said none =
      let rest : w.rest ≡ [] = w.whole (first.said said) in
      read_events ∙ sym (read_all ∙ (ap (λ (x : List Term). r.told ++ (x ++ (first.more ++ w.rest))) none ∙ (ap (λ (x : List Term). r.told ++ (x ++ w.rest)) (first.whole said) ∙ (ap (λ (x : List Term). r.told ++ x) rest ∙ append-nil r.told))))

  let_in : (HasDropped (is_of 1) r.more → ⊥) → HasDropped (is_of 1) others_last.seen → ⊥
  let_in n d = n (subst (HasDropped (is_of 1)) (own_is others_begun others_done others_last r.more others_part r.goes.adds) (own_dropped 1 others_begun.rights others_can.reads others_last.seen d))

  behind : (call : Call) → FullAfter call others_begun others_done r.more → NoRoomAfterInputs call others_last.origin others_last.seen
  behind call full = found_after call r.more (read_inputs ∙ sym r.goes.given_are) full

  by_reader : ReaderFull others_begun others_done r.more r.given r.told r.lost r.last → ReaderRefused last.seen others_last.origin others_last.seen
  by_reader (inl f) = inl (r.last, lines r.last f.1, behind (HandOut 1) f.2)
  by_reader (inr (inl f)) = inr (inl (read_inputs ∙ f.0, found (HandIn connect) f.1))
  by_reader (inr (inr (inl f))) = inr (inr (inl (record { next = f.0; rest = first.more ++ w.rest; is = next f.0 f.1; lines = lines false f.3; let_in = let_in f.4; no_room = behind (HandIn (event_of f.0)) f.5 })))
  by_reader (inr (inr (inr f))) = inr (inr (inr (record { all = whole f.0 f.1; lines = lines false f.2; let_in = let_in f.3; no_room = behind (HandIn disconnect) f.4 })))

  reader_refused : ReaderRefused last.seen others_last.origin others_last.seen
  reader_refused = by_reader r.ends

-- a bus was refused a call: of the pipe, of the clock, of a lane or a step
module _ (Pipe : Type 0) (most : ℕ) (lane lane' : LaneView) (olds news : List LaneView) (clock_old clock_new : Option ClockView) (Failed : Type 0) (begun last pipe_begun pipe_done tick_begun tick_done : SeatView) (pipe_end tick_end : WorkEnd) (ends : List WorkEnd)
    (side : SideCame olds news begun last pipe_begun pipe_done tick_begun tick_done pipe_end tick_end ends) (pipe : pipe_end ≡ end.Full → Pipe)
    (tick : tick_end ≡ end.Full → TickRefused last.origin last.seen most clock_old clock_new ⊎ NoTicksRefused last.origin last.seen most clock_old clock_new Failed) where
  abbrev Refused : Type 0
  Refused = BusRefused Pipe Failed most (record { lanes_old = (lane ∷ olds); lanes_new = (lane' ∷ news); clock_old = clock_old; clock_new = clock_new; origin = last.origin; log = last.seen })

  by_rest : list_any is_full_end ends ≡ true → Refused
  by_rest h = ⊎_elim (λ lane. inl lane) (λ step. inr (inr (inr (inr step)))) (side.refused h)

  by_tick : (it : WorkEnd) → tick_end ≡ it → (is_full_end it || list_any is_full_end ends) ≡ true → Refused
  by_tick end.Full e h = ⊎_elim (λ t. inr (inr (inl t))) (λ n. inr (inr (inr (inl n)))) (tick e)
  by_tick end.Over e h = by_rest h
  by_tick end.Down e h = by_rest h
  by_tick end.Stopped e h = by_rest h
  by_tick end.Failed e h = by_rest h
  by_tick end.NoMemory e h = by_rest h

  by_pipe : (it : WorkEnd) → pipe_end ≡ it → (other : WorkEnd) → tick_end ≡ other → (is_full_end it || (is_full_end other || list_any is_full_end ends)) ≡ true → Refused
  by_pipe end.Full e other f h = inr (inl (pipe e))
  by_pipe end.Over e other f h = by_tick other f h
  by_pipe end.Down e other f h = by_tick other f h
  by_pipe end.Stopped e other f h = by_tick other f h
  by_pipe end.Failed e other f h = by_tick other f h
  by_pipe end.NoMemory e other f h = by_tick other f h

  bus_refused : list_any is_full_end (pipe_end ∷ tick_end ∷ ends) ≡ true → Refused
  bus_refused h = by_pipe pipe_end refl tick_end refl h

lane_full : (origin : Origin) (log : List Entry) (lane : ℕ) (old new : LaneView) → LaneRefused origin log lane old new → WasFull origin log
lane_full origin log lane old new (inl r) = (HandIn r.input, r.no_room)
lane_full origin log lane old new (inr (inl r)) = (HandOut lane, r)
lane_full origin log lane old new (inr (inr r)) = (HandIn (input.Cut lane), r.no_room)

lanes_full : (origin : Origin) (log : List Entry) (lane : ℕ) (olds news : List LaneView) → SomeLane (LaneRefused origin log) lane olds news → WasFull origin log
lanes_full origin log lane [] news s = absurd s
lanes_full origin log lane (old ∷ olds) [] s = absurd s
lanes_full origin log lane (old ∷ olds) (new ∷ news) (inl r) = lane_full origin log lane old new r
lanes_full origin log lane (old ∷ olds) (new ∷ news) (inr s) = lanes_full origin log (lane + 1) olds news s

-- a bus that was refused a call is at its limit
bus_full : (Pipe : Type 0) (most : ℕ) (lanes lanes' : List LaneView) (clock_old clock_new : Option ClockView) (Failed : Type 0) (origin : Origin) (log : List Entry) → (Pipe → WasFull origin log)
    → BusRefused Pipe Failed most (record { lanes_old = lanes; lanes_new = lanes'; clock_old = clock_old; clock_new = clock_new; origin = origin; log = log }) → WasFull origin log
bus_full Pipe most [] [] clock_old clock_new Failed origin log f (inl s) = absurd s
bus_full Pipe most [] (x ∷ xs) clock_old clock_new Failed origin log f (inl s) = absurd s
bus_full Pipe most (x ∷ xs) [] clock_old clock_new Failed origin log f (inl s) = absurd s
bus_full Pipe most (x ∷ xs) (y ∷ ys) clock_old clock_new Failed origin log f (inl s) = lanes_full origin log 2 xs ys s
bus_full Pipe most lanes lanes' clock_old clock_new Failed origin log f (inr (inl p)) = f p
bus_full Pipe most lanes lanes' clock_old clock_new Failed origin log f (inr (inr (inl t))) = (HandIn input.Tick, t.no_room)
bus_full Pipe most lanes lanes' clock_old clock_new Failed origin log f (inr (inr (inr (inl n)))) = (HandIn input.NoTicks, n.no_room)
bus_full Pipe most lanes lanes' clock_old clock_new Failed origin log f (inr (inr (inr (inr s)))) = (MakeStep, s)

writer_full : (origin : Origin) (log : List Entry) → WriterRefused origin log → WasFull origin log
writer_full origin log (inl r) = (HandOut 1, r.1.no_room)
writer_full origin log (inr r) = (HandIn connect, r.1)

reader_full : (one : List Entry) (origin : Origin) (log : List Entry) → ReaderRefused one origin log → WasFull origin log
reader_full one origin log (inl r) = (HandOut 1, r.2.no_room)
reader_full one origin log (inr (inl r)) = (HandIn connect, r.1)
reader_full one origin log (inr (inr (inl r))) = (HandIn (event_of r.next), r.no_room.no_room)
reader_full one origin log (inr (inr (inr r))) = (HandIn disconnect, r.no_room.no_room)

-- a worker that serves the pipe and came to its end found its bus down, and nothing left on its lane
pipe_down : (R : Type 0) (seat : SeatView) (it : WorkEnd) → CameToEnd it → PipeEnds R seat it → (next_out 1 (bus_of seat).bench ≡ None) × ((bus_of seat).down ≡ true)
pipe_down R seat end.Over c e = absurd e
pipe_down R seat end.Down c e = e
pipe_down R seat end.Failed c e = absurd e
pipe_down R seat end.Stopped c e = absurd c
pipe_down R seat end.Full c e = absurd c
pipe_down R seat end.NoMemory c e = absurd c

-- a bus, by the reason why it ended, as its last seat knows it
module _ (law : LaterLaw) (Refused : Type 0) (lane lane' : LaneView) (unused : IsUnused lane lane') (olds news : List LaneView) (begun last pipe_begun pipe_done tick_begun tick_done : SeatView) (pipe_end tick_end : WorkEnd) (ends : List WorkEnd)
    (side : SideCame olds news begun last pipe_begun pipe_done tick_begun tick_done pipe_end tick_end ends) (core : CoreState) (closes : Closes last core) (few : length last.seen ≤ last.origin.limit)
    (FullOne : Type 0) (ends_so : PipeEnds FullOne pipe_done pipe_end) (refused : list_any is_full_end (pipe_end ∷ tick_end ∷ ends) ≡ true → Refused) (was_full : Refused → WasFull last.origin last.seen) where
  abbrev KnownBus : CoreState
  KnownBus = record { origin = last.origin; log = last.seen; stopped = core.stopped; spare = core.spare }

  abbrev Why : BusWhy
  Why = bus_why pipe_end tick_end ends

  none_of : Why ≡ bus.Ended → NoneRefused (pipe_end ∷ tick_end ∷ ends)
  none_of e = ended_none (list_any is_no_memory (pipe_end ∷ tick_end ∷ ends)) (list_any is_full_end (pipe_end ∷ tick_end ∷ ends)) e

  pub side_end : Why ≡ bus.Ended → SideEnded olds news last pipe_done pipe_end tick_end
  side_end e = side.ended (none_of e) core closes

  pub by_why : (it : BusWhy) → Why ≡ it → BusOutcome Refused (lane ∷ olds) (lane' ∷ news) KnownBus it
  by_why bus.Ended e =
      let s = side_end e in
      let d = pipe_down FullOne pipe_done pipe_end s.pipe_came ends_so in
      ((unused, s.lanes), s.done d.0 d.1)
  by_why bus.Events e =
      let r = refused (events_full (list_any is_no_memory (pipe_end ∷ tick_end ∷ ends)) (list_any is_full_end (pipe_end ∷ tick_end ∷ ends)) e) in
      ((unused, side.lanes), full_at_limit law last.origin last.seen side.back.sees.trace (was_full r) few, r)
  by_why bus.NoMemory e = (unused, side.lanes)

  pub pipe_early : (it : BusWhy) → Why ≡ it → IsEarly pipe_end → Early it
  pipe_early bus.Ended e x = came_late pipe_end (side_end e).pipe_came x
  pipe_early bus.Events e x = tt
  pipe_early bus.NoMemory e x = tt

  pub tick_early : (it : BusWhy) → Why ≡ it → IsEarly tick_end → Early it
  tick_early bus.Ended e x = came_late tick_end (side_end e).tick_came x
  tick_early bus.Events e x = tt
  tick_early bus.NoMemory e x = tt

-- both buses
pub record PairFacts (most : ℕ) (olds news others_olds others_news : List LaneView) (clock_old clock_new : Option ClockView) (faults_old faults_new : ℕ) (begun last pipe_begun pipe_done tick_begun tick_done : SeatView) (writer tick : WorkEnd) (ends : List WorkEnd)
    (others_begun others_last others_pipe_begun others_pipe_done others_tick_begun others_tick_done : SeatView) (reader others_tick : WorkEnd) (others_ends : List WorkEnd) (sent got known : List Piece) (one_bus others_bus : TableId) : Type 0 where
  pub one : SideCame olds news begun last pipe_begun pipe_done tick_begun tick_done writer tick ends
  pub other : SideCame others_olds others_news others_begun others_last others_pipe_begun others_pipe_done others_tick_begun others_tick_done reader others_tick others_ends
  pub wrote : WritesPipe pipe_begun pipe_done [] sent writer
  pub read : ReadsPipe others_pipe_begun others_pipe_done [] got reader
  pub met : got ++ known ≡ sent
  pub ticks_are : TicksPair most tick_begun tick_done others_tick_begun others_tick_done clock_old clock_new faults_old faults_new tick others_tick
  pub can : CanServe one_bus pipe_begun
  pub others_can : CanServe others_bus others_pipe_begun
  pub can_tick : CanTick one_bus tick_begun
  pub others_can_tick : CanTick others_bus others_tick_begun

over_not : end.Over ≡ end.Failed → ⊥
over_not e = cc

down_not : end.Down ≡ end.Failed → ⊥
down_not e = cc

-- a clock of which no failure is told failed for no bus
not_failed : (it : WorkEnd) → CameToEnd it → (it ≡ end.Failed → ⊥) → GetsTicks end.Failed it → ⊥
not_failed it c n (inl e) = n e
not_failed it c n (inr e) = came_late it c e

is_wanted : (it wanted : WorkEnd) → it ≡ end.Failed → (it ≡ wanted) ⊎ IsCut it → wanted ≡ end.Failed
is_wanted it wanted e (inl w) = sym w ∙ e
is_wanted it wanted e (inr c) = absurd (subst IsCut e c)

calm_unless : (wanted : WorkEnd) (most given : ℕ) (ended : Bool) (old new : ℕ) (one other : WorkEnd) → WhyEnds wanted most given ended old new one other → (wanted ≡ end.Failed → ⊥) → new ≡ old
calm_unless end.Over most given ended old new one other w n = w.0
calm_unless end.Failed most given ended old new one other w n = absurd (n refl)
calm_unless end.Down most given ended old new one other w n = w.0
calm_unless end.Stopped most given ended old new one other w n = absurd w
calm_unless end.Full most given ended old new one other w n = absurd w
calm_unless end.NoMemory most given ended old new one other w n = absurd w

gets_failed : (wanted : WorkEnd) (most given : ℕ) (ended : Bool) (old new : ℕ) (one other : WorkEnd) → WhyEnds wanted most given ended old new one other → wanted ≡ end.Failed → GetsTicks end.Failed one ⊎ GetsTicks end.Failed other
gets_failed end.Over most given ended old new one other w e = absurd cc
gets_failed end.Failed most given ended old new one other w e = w.1
gets_failed end.Down most given ended old new one other w e = absurd cc
gets_failed end.Stopped most given ended old new one other w e = absurd w
gets_failed end.Full most given ended old new one other w e = absurd w
gets_failed end.NoMemory most given ended old new one other w e = absurd w

module _ (law : LaterLaw) (most : ℕ) (olds news others_olds others_news : List LaneView) (clock_old clock_new : Option ClockView) (faults_old faults_new crew_old crew_new : ℕ) (begun last pipe_begun pipe_done tick_begun tick_done : SeatView) (writer tick : WorkEnd) (ends : List WorkEnd)
    (others_begun others_last others_pipe_begun others_pipe_done others_tick_begun others_tick_done : SeatView) (reader others_tick : WorkEnd) (others_ends : List WorkEnd) (sent got known : List Piece) (one_bus others_bus : TableId)
    (f : PairFacts most olds news others_olds others_news clock_old clock_new faults_old faults_new begun last pipe_begun pipe_done tick_begun tick_done writer tick ends
    others_begun others_last others_pipe_begun others_pipe_done others_tick_begun others_tick_done reader others_tick others_ends sent got known one_bus others_bus) where
  passed : Passes last.seen others_last.seen (IsEarly writer) (IsEarly reader)
  passed = passes one_bus others_bus pipe_begun pipe_done last others_pipe_begun others_pipe_done others_last sent got known writer reader f.wrote f.read f.met f.can f.one.pipe_part f.others_can f.other.pipe_part

  timed : (Failed : Type 0) → (f.ticks_are.wanted ≡ end.Failed → Failed) → ClockPasses most last.seen others_last.seen clock_old clock_new Failed (IsEarly tick) (IsEarly others_tick)
  timed Failed fails =
      times most clock_old clock_new faults_old faults_new Failed one_bus others_bus tick_begun tick_done last others_tick_begun others_tick_done others_last tick others_tick f.ticks_are fails
      f.can_tick f.one.tick_part f.others_can_tick f.other.tick_part

  rose : f.ticks_are.wanted ≡ end.Failed → Rose faults_old faults_new
  rose = rose_of f.ticks_are.wanted most f.ticks_are.given f.ticks_are.ended faults_old faults_new tick others_tick f.ticks_are.why

  -- who was refused
  abbrev Pipe : Type 0
  Pipe = WriterRefused last.origin last.seen

  abbrev OthersPipe : Type 0
  OthersPipe = ReaderRefused last.seen others_last.origin others_last.seen

  pipe_found : NoRoom pipe_begun pipe_done last
  pipe_found call full = no_room call pipe_begun pipe_done last f.one.pipe_origin f.one.pipe_kept full

  others_pipe_found : NoRoom others_pipe_begun others_pipe_done others_last
  others_pipe_found call full = no_room call others_pipe_begun others_pipe_done others_last f.other.pipe_origin f.other.pipe_kept full

  pipe_found_after : NoRoomAfter pipe_begun pipe_done last
  pipe_found_after call more all full = no_room_after one_bus call pipe_begun pipe_done last more f.can f.one.pipe_part.fresh f.one.pipe_origin f.one.pipe_kept all full

  others_pipe_found_after : NoRoomAfter others_pipe_begun others_pipe_done others_last
  others_pipe_found_after call more all full = no_room_after others_bus call others_pipe_begun others_pipe_done others_last more f.others_can f.other.pipe_part.fresh f.other.pipe_origin f.other.pipe_kept all full

  tick_found : NoRoom tick_begun tick_done last
  tick_found call full = no_room call tick_begun tick_done last f.one.tick_origin f.one.tick_kept full

  others_tick_found : NoRoom others_tick_begun others_tick_done others_last
  others_tick_found call full = no_room call others_tick_begun others_tick_done others_last f.other.tick_origin f.other.tick_kept full

  writer_so : writer ≡ end.Full → Pipe
  writer_so e = writer_refused one_bus pipe_begun pipe_done last sent (subst (WritesPipe pipe_begun pipe_done [] sent) e f.wrote) f.can f.one.pipe_part pipe_found pipe_found_after

  reader_so : reader ≡ end.Full → OthersPipe
  reader_so e =
      reader_refused one_bus others_bus pipe_begun pipe_done last others_pipe_begun others_pipe_done others_last sent got known writer f.wrote (subst (ReadsPipe others_pipe_begun others_pipe_done [] got) e f.read) f.met
      f.can f.one.pipe_part f.others_can f.other.pipe_part others_pipe_found others_pipe_found_after

  abbrev Cause : Type 0
  Cause = WhyNoMore most f.ticks_are.given f.ticks_are.ended faults_old faults_new

  tick_so : tick ≡ end.Full → TickRefused last.origin last.seen most clock_old clock_new ⊎ NoTicksRefused last.origin last.seen most clock_old clock_new (Rose faults_old faults_new)
  tick_so e =
      tick_refused most tick_begun tick_done last one_bus clock_old clock_new faults_old faults_new f.ticks_are.given f.ticks_are.ended f.ticks_are.told f.ticks_are.within (subst (TicksSeat Cause tick_begun tick_done f.ticks_are.given) e f.ticks_are.first)
      f.can_tick f.one.tick_part tick_found

  others_tick_so : others_tick ≡ end.Full → TickRefused others_last.origin others_last.seen most clock_old clock_new ⊎ NoTicksRefused others_last.origin others_last.seen most clock_old clock_new (Rose faults_old faults_new)
  others_tick_so e =
      tick_refused most others_tick_begun others_tick_done others_last others_bus clock_old clock_new faults_old faults_new f.ticks_are.given f.ticks_are.ended f.ticks_are.told f.ticks_are.within (subst (TicksSeat Cause others_tick_begun others_tick_done f.ticks_are.given) e f.ticks_are.second)
      f.others_can_tick f.other.tick_part others_tick_found

  module _ (core others_core : CoreState) (closes : Closes last core) (others_closes : Closes others_last others_core) where
    abbrev Known : CoreState
    Known = record { origin = last.origin; log = last.seen; stopped = core.stopped; spare = core.spare }

    abbrev OthersKnown : CoreState
    OthersKnown = record { origin = others_last.origin; log = others_last.seen; stopped = others_core.stopped; spare = others_core.spare }

    came : bus_why writer tick ends ≡ bus.Ended → SideEnded olds news last pipe_done writer tick
    came e = f.one.ended (ended_none (list_any is_no_memory (writer ∷ tick ∷ ends)) (list_any is_full_end (writer ∷ tick ∷ ends)) e) core closes

    others_came : bus_why reader others_tick others_ends ≡ bus.Ended → SideEnded others_olds others_news others_last others_pipe_done reader others_tick
    others_came e = f.other.ended (ended_none (list_any is_no_memory (reader ∷ others_tick ∷ others_ends)) (list_any is_full_end (reader ∷ others_tick ∷ others_ends)) e) others_core others_closes

    module _ (few : length core.log ≤ core.origin.limit) (others_few : length others_core.log ≤ others_core.origin.limit) (lane lane' other other' : LaneView) (unused : IsUnused lane lane') (others_unused : IsUnused other other') where
      abbrev Old : PairView
      Old = pair_of (lane ∷ olds) (other ∷ others_olds) clock_old faults_old crew_old

      abbrev New : PairView
      New = pair_of (lane' ∷ news) (other' ∷ others_news) clock_new faults_new crew_new

      seen_few : length last.seen ≤ last.origin.limit
      seen_few = subst (λ (l : List Entry). length l ≤ last.origin.limit) closes.log (subst (λ (o : Origin). length core.log ≤ o.limit) closes.origin few)

      others_seen_few : length others_last.seen ≤ others_last.origin.limit
      others_seen_few = subst (λ (l : List Entry). length l ≤ others_last.origin.limit) others_closes.log (subst (λ (o : Origin). length others_core.log ≤ o.limit) others_closes.origin others_few)

      abbrev First : Type 0
      First = BusRefused Pipe (Rose faults_old faults_new) most (record { lanes_old = (lane ∷ olds); lanes_new = (lane' ∷ news); clock_old = clock_old; clock_new = clock_new; origin = last.origin; log = last.seen })

      abbrev Second : Type 0
      Second = BusRefused OthersPipe (Rose faults_old faults_new) most (record { lanes_old = (other ∷ others_olds); lanes_new = (other' ∷ others_news); clock_old = clock_old; clock_new = clock_new; origin = others_last.origin; log = others_last.seen })

      first_refused : list_any is_full_end (writer ∷ tick ∷ ends) ≡ true → First
      first_refused = bus_refused Pipe most lane lane' olds news clock_old clock_new (Rose faults_old faults_new) begun last pipe_begun pipe_done tick_begun tick_done writer tick ends f.one writer_so tick_so

      second_refused : list_any is_full_end (reader ∷ others_tick ∷ others_ends) ≡ true → Second
      second_refused =
          bus_refused OthersPipe most other other' others_olds others_news clock_old clock_new (Rose faults_old faults_new) others_begun others_last others_pipe_begun others_pipe_done others_tick_begun others_tick_done reader others_tick others_ends f.other reader_so others_tick_so

      first_full : First → WasFull last.origin last.seen
      first_full = bus_full Pipe most (lane ∷ olds) (lane' ∷ news) clock_old clock_new (Rose faults_old faults_new) last.origin last.seen (writer_full last.origin last.seen)

      second_full : Second → WasFull others_last.origin others_last.seen
      second_full = bus_full OthersPipe most (other ∷ others_olds) (other' ∷ others_news) clock_old clock_new (Rose faults_old faults_new) others_last.origin others_last.seen (reader_full last.seen others_last.origin others_last.seen)

      both : (Failed : Type 0) → (f.ticks_are.wanted ≡ end.Failed → Failed) → (why others_why : BusWhy) → bus_why writer tick ends ≡ why → bus_why reader others_tick others_ends ≡ others_why → BothRan most Old New Known OthersKnown why others_why Failed
      both Failed fails why others_why e others_e = record {
        first = by_why law First lane lane' unused olds news begun last pipe_begun pipe_done tick_begun tick_done writer tick ends f.one core closes seen_few (WriterFull pipe_begun pipe_done f.wrote.more f.wrote.given) f.wrote.ends first_refused first_full why e;
        second = by_why law Second other other' others_unused others_olds others_news others_begun others_last others_pipe_begun others_pipe_done others_tick_begun others_tick_done reader others_tick others_ends f.other others_core others_closes others_seen_few
            (ReaderFull others_pipe_begun others_pipe_done f.read.more f.read.given f.read.told f.read.lost f.read.last) f.read.ends second_refused second_full others_why others_e;
        pipe = passes_by last.seen others_last.seen (IsEarly writer) (IsEarly reader) (Early why) (Early others_why)
            (pipe_early law First lane lane' unused olds news begun last pipe_begun pipe_done tick_begun tick_done writer tick ends f.one core closes seen_few (WriterFull pipe_begun pipe_done f.wrote.more f.wrote.given) f.wrote.ends first_refused first_full why e)
            (pipe_early law Second other other' others_unused others_olds others_news others_begun others_last others_pipe_begun others_pipe_done others_tick_begun others_tick_done reader others_tick others_ends f.other others_core others_closes others_seen_few
            (ReaderFull others_pipe_begun others_pipe_done f.read.more f.read.given f.read.told f.read.lost f.read.last) f.read.ends second_refused second_full others_why others_e)
            passed;
        clock = clock_by most last.seen others_last.seen clock_old clock_new Failed (IsEarly tick) (IsEarly others_tick) (Early why) (Early others_why)
            (tick_early law First lane lane' unused olds news begun last pipe_begun pipe_done tick_begun tick_done writer tick ends f.one core closes seen_few (WriterFull pipe_begun pipe_done f.wrote.more f.wrote.given) f.wrote.ends first_refused first_full why e)
            (tick_early law Second other other' others_unused others_olds others_news others_begun others_last others_pipe_begun others_pipe_done others_tick_begun others_tick_done reader others_tick others_ends f.other others_core others_closes others_seen_few
            (ReaderFull others_pipe_begun others_pipe_done f.read.more f.read.given f.read.told f.read.lost f.read.last) f.read.ends second_refused second_full others_why others_e)
            (timed Failed fails);
      }

      -- both went to their end
      module _ (e : bus_why writer tick ends ≡ bus.Ended) (others_e : bus_why reader others_tick others_ends ≡ bus.Ended) where
        clock_fails : (f.ticks_are.wanted ≡ end.Failed) → PairOutcome most Old New Known OthersKnown pair.Clock
        clock_fails w = (both (Rose faults_old faults_new) rose bus.Ended bus.Ended e others_e, rose w)

        no_failure : (tick ≡ end.Failed → ⊥) → (others_tick ≡ end.Failed → ⊥) → f.ticks_are.wanted ≡ end.Failed → ⊥
        no_failure n m w =
            ⊎_elim (not_failed tick (came e).tick_came n) (not_failed others_tick (others_came others_e).tick_came m)
            (gets_failed f.ticks_are.wanted most f.ticks_are.given f.ticks_are.ended faults_old faults_new tick others_tick f.ticks_are.why w)

        clock_calm : (tick ≡ end.Failed → ⊥) → (others_tick ≡ end.Failed → ⊥) → PairOutcome most Old New Known OthersKnown pair.Ended
        clock_calm n m = both ⊥ (no_failure n m) bus.Ended bus.Ended e others_e

        abbrev Ends : PairWhy → Type 0
        Ends it = PairOutcome most Old New Known OthersKnown it

        by_ticks : (P : PairWhy → Type 0) → (f.ticks_are.wanted ≡ end.Failed → P pair.Clock) → ((tick ≡ end.Failed → ⊥) → (others_tick ≡ end.Failed → ⊥) → P pair.Ended) → (x y : WorkEnd) → tick ≡ x → others_tick ≡ y → CameToEnd x → CameToEnd y → P (of_ticks x y)
        by_ticks P clock calm end.Failed y t u c d = clock (is_wanted tick f.ticks_are.wanted t f.ticks_are.first_by)
        by_ticks P clock calm end.Over end.Failed t u c d = clock (is_wanted others_tick f.ticks_are.wanted u f.ticks_are.second_by)
        by_ticks P clock calm end.Down end.Failed t u c d = clock (is_wanted others_tick f.ticks_are.wanted u f.ticks_are.second_by)
        by_ticks P clock calm end.Over end.Over t u c d = calm (λ n. over_not (sym t ∙ n)) (λ n. over_not (sym u ∙ n))
        by_ticks P clock calm end.Over end.Down t u c d = calm (λ n. over_not (sym t ∙ n)) (λ n. down_not (sym u ∙ n))
        by_ticks P clock calm end.Down end.Over t u c d = calm (λ n. down_not (sym t ∙ n)) (λ n. over_not (sym u ∙ n))
        by_ticks P clock calm end.Down end.Down t u c d = calm (λ n. down_not (sym t ∙ n)) (λ n. down_not (sym u ∙ n))
        by_ticks P clock calm end.Stopped y t u c d = absurd c
        by_ticks P clock calm end.Full y t u c d = absurd c
        by_ticks P clock calm end.NoMemory y t u c d = absurd c
        by_ticks P clock calm end.Over end.Stopped t u c d = absurd d
        by_ticks P clock calm end.Over end.Full t u c d = absurd d
        by_ticks P clock calm end.Over end.NoMemory t u c d = absurd d
        by_ticks P clock calm end.Down end.Stopped t u c d = absurd d
        by_ticks P clock calm end.Down end.Full t u c d = absurd d
        by_ticks P clock calm end.Down end.NoMemory t u c d = absurd d

        abbrev Tells : PairWhy → Type 0
        Tells it = TellsFirst Old New it

        ended_outcome : PairOutcome most Old New Known OthersKnown (of_ticks tick others_tick)
        ended_outcome = by_ticks Ends clock_fails clock_calm tick others_tick refl refl (came e).tick_came (others_came others_e).tick_came

        ended_tells : crew_new ≡ crew_old → TellsFirst Old New (of_ticks tick others_tick)
        ended_tells calm =
            by_ticks Tells (λ w. (calm, rose w))
            (λ n m. (calm, calm_unless f.ticks_are.wanted most f.ticks_are.given f.ticks_are.ended faults_old faults_new tick others_tick f.ticks_are.why (no_failure n m)))
            tick others_tick refl refl (came e).tick_came (others_came others_e).tick_came

      stopped : (it why others_why : BusWhy) → bus_why writer tick ends ≡ why → bus_why reader others_tick others_ends ≡ others_why → of_both why others_why ≡ it → SomeStopped most Old New Known OthersKnown it
      stopped it why others_why e others_e is = record { why = why; others_why = others_why; is = is; ran = both (Rose faults_old faults_new) rose why others_why e others_e }

      outcome : (why others_why : BusWhy) → bus_why writer tick ends ≡ why → bus_why reader others_tick others_ends ≡ others_why → PairOutcome most Old New Known OthersKnown (pair_why why others_why tick others_tick)
      outcome bus.NoMemory others_why e o = stopped bus.NoMemory bus.NoMemory others_why e o refl
      outcome bus.Events bus.NoMemory e o = stopped bus.NoMemory bus.Events bus.NoMemory e o refl
      outcome bus.Events bus.Events e o = stopped bus.Events bus.Events bus.Events e o refl
      outcome bus.Events bus.Ended e o = stopped bus.Events bus.Events bus.Ended e o refl
      outcome bus.Ended bus.NoMemory e o = stopped bus.NoMemory bus.Ended bus.NoMemory e o refl
      outcome bus.Ended bus.Events e o = stopped bus.Events bus.Ended bus.Events e o refl
      outcome bus.Ended bus.Ended e o = ended_outcome e o

      tells : crew_new ≡ crew_old → (why others_why : BusWhy) → bus_why writer tick ends ≡ why → bus_why reader others_tick others_ends ≡ others_why → TellsFirst Old New (pair_why why others_why tick others_tick)
      tells calm bus.NoMemory others_why e o = tt
      tells calm bus.Events bus.NoMemory e o = tt
      tells calm bus.Events bus.Events e o = calm
      tells calm bus.Events bus.Ended e o = calm
      tells calm bus.Ended bus.NoMemory e o = tt
      tells calm bus.Ended bus.Events e o = calm
      tells calm bus.Ended bus.Ended e o = ended_tells e o calm

      -- of the cores, as the last seats know them
      known_so : (P : CoreState → CoreState → Type 0) → P Known OthersKnown → P core others_core
      known_so P p =
          let one : P (record { origin = core.origin; log = last.seen; stopped = core.stopped; spare = core.spare }) OthersKnown =
          subst (λ (o : Origin). P (record { origin = o; log = last.seen; stopped = core.stopped; spare = core.spare }) OthersKnown) (sym closes.origin) p in
          let two : P core OthersKnown =
          subst (λ (l : List Entry). P (record { origin = core.origin; log = l; stopped = core.stopped; spare = core.spare }) OthersKnown) (sym closes.log) one in
          let three : P core (record { origin = others_core.origin; log = others_last.seen; stopped = others_core.stopped; spare = others_core.spare }) =
          subst (λ (o : Origin). P core (record { origin = o; log = others_last.seen; stopped = others_core.stopped; spare = others_core.spare })) (sym others_closes.origin) two in
          subst (λ (l : List Entry). P core (record { origin = others_core.origin; log = l; stopped = others_core.stopped; spare = others_core.spare })) (sym others_closes.log) three

      pub pair_outcome : PairOutcome most Old New core others_core (pair_why (bus_why writer tick ends) (bus_why reader others_tick others_ends) tick others_tick)
      pair_outcome =
          known_so (λ c o. PairOutcome most Old New c o (pair_why (bus_why writer tick ends) (bus_why reader others_tick others_ends) tick others_tick))
          (outcome (bus_why writer tick ends) (bus_why reader others_tick others_ends) refl refl)

      pub pair_tells : crew_new ≡ crew_old → TellsFirst Old New (pair_why (bus_why writer tick ends) (bus_why reader others_tick others_ends) tick others_tick)
      pair_tells calm = tells calm (bus_why writer tick ends) (bus_why reader others_tick others_ends) refl refl

  pub come : crew_new ≡ crew_old
      → HasCome most (pair_of olds others_olds clock_old faults_old crew_old) (pair_of news others_news clock_new faults_new crew_new) begun last others_begun others_last (pair_why (bus_why writer tick ends) (bus_why reader others_tick others_ends) tick others_tick)
  come calm = record {
    first = f.one.back;
    second = f.other.back;
    outcome = λ core others_core closes others_closes few others_few lane lane' other other' unused others_unused. pair_outcome core others_core closes others_closes few others_few lane lane' other other' unused others_unused;
    tells = λ core others_core closes others_closes few others_few lane lane' other other' unused others_unused. pair_tells core others_core closes others_closes few others_few lane lane' other other' unused others_unused calm;
  }
