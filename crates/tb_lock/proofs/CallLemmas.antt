-- The entry that a call on the taken core adds, and the effect of the whole call.
use Rattle.std.proofs.Common.{◌≡◌, ◌<◌, ◌≤◌, ◌++◌, length, cond, true≢false, ℕ, List, [], ◌∷◌, Bool, true, false, ◌||◌, Option, Some, None, Result, Ok, Err, IfOk, OnErr, option_to_list, refl, sym, ap, ◌∙◌, subst, append-nil, arith}
use Rattle.std.proofs.lemmas.List.{append_cancel_left}
use Rattle.atomic_table.specs.Seated.{TableId}
use Rattle.tb_log.specs.declared.entry.Entry.{Entry}
use Rattle.tb_log.specs.declared.entry.Out.{Out}
use Rattle.tb_log.specs.declared.entry.Entry.TheVariants.{Did, Quiet, Fed, Gave}
use Rattle.tb_log.specs.declared.entry.Input.TheVariants.{Tick, NoTicks, Line, Gone, Cut}
use Rattle.tb_bus.specs.Buses.{start}
use Rattle.tb_bus.specs.declared.origin.Origin.{Origin}
use Rattle.tb_bus.specs.Steps.{Step, steps}
use Rattle.tb_bus.specs.Traces.{IsTrace, fed, replay}
use Rattle.tb_tools.specs.Finding.{next_out}
use Rattle.tb_bus.proofs.TraceLemmas.{trace-append}
use Rattle.tb_core.specs.declared.answers.CoreFault.{CoreFault}
use Rattle.tb_core.specs.Cores.{CoreState, Call, HandIn, MakeStep, HandOut, bus_now, ends_quiet, says_quiet, step_entry, out_entry, would_log, entries_of, Logs, Stays}
use Rattle.tb_lock.specs.declared.rights.Rights.{Rights}
use Rattle.tb_lock.specs.Rights.{has, right_of, right_to, own, all_rights}
use Rattle.tb_lock.specs.Histories.{IsSparse}
use Rattle.tb_lock.specs.Seats.{SeatView, Idle, Serving}
use Rattle.tb_lock.specs.Calls.{Meets, noted, added, IsCallInShape, Called, Observes, StopsBus, Joins, Closes}
use Rattle.tb_lock.specs.Helpers.Plays.{HolderState, Answers, HasTurn, MayRelease, MayReturn, MayStop, Releases, ReleasesStopped, seat_of, IsSeat}
use Rattle.tb_lock.proofs.RightLemmas.{all_lanes}
use Rattle.tb_lock.proofs.OwnLemmas.{no_rest}
use Rattle.tb_lock.proofs.HistoryLemmas.{sparse_same, sparse_more}

-- The right that a call needs is one of all rights.
pub all_have : (call : Call) → IsCallInShape call → has all_rights (right_to call) ≡ true
all_have (HandIn Tick) form = refl
all_have (HandIn NoTicks) form = refl
all_have (HandIn (Line lane line)) form = all_lanes lane form.0
all_have (HandIn (Gone lane)) form = all_lanes lane form
all_have (HandIn (Cut lane)) form = all_lanes lane form
all_have MakeStep form = refl
all_have (HandOut lane) form = all_lanes lane form

step_right : (down quiet : Bool) (steps : List Step) (entry : Entry) → step_entry down quiet steps ≡ Some entry → right_of entry ≡ right_to MakeStep
step_right true quiet steps entry e = absurd (cc)
step_right false quiet (step ∷ rest) entry e = let is : Did step.label ≡ entry = cc in sym (ap right_of is)
step_right false true [] entry e = absurd (cc)
step_right false false [] entry e = let is : Quiet ≡ entry = cc in sym (ap right_of is)

out_right : (lane : ℕ) (next : Option Out) (entry : Entry) → out_entry lane next ≡ Some entry → right_of entry ≡ right_to (HandOut lane)
out_right lane None entry e = absurd (cc)
out_right lane (Some out) entry e = let is : Gave lane out ≡ entry = cc in sym (ap right_of is)

some_is : {A : Type 0} (one other : A) → Some one ≡ Some other → one ≡ other
some_is one other e = cc

-- The entry that a call would log needs the same right as the call.
pub entry_right : (core : CoreState) (call : Call) (entry : Entry) → would_log core call ≡ Some entry → right_of entry ≡ right_to call
entry_right core (HandIn input) entry e = sym (ap right_of (some_is (Fed input (fed (bus_now core) input).reply) entry e))
entry_right core MakeStep entry e = step_right (bus_now core).down (ends_quiet core.log) (steps (bus_now core)) entry e
entry_right core (HandOut lane) entry e = out_right lane (next_out lane (bus_now core).bench) entry e

step_quiet : (down quiet : Bool) (steps : List Step) (entry : Entry) → step_entry down quiet steps ≡ Some entry → says_quiet (Some entry) ≡ true → quiet ≡ false
step_quiet true quiet steps entry e says = absurd (cc)
step_quiet false quiet (step ∷ rest) entry e says = let is : Did step.label ≡ entry = some_is (Did step.label) entry e in absurd (true≢false (sym says ∙ ap (λ (x : Entry). says_quiet (Some x)) (sym is)))
step_quiet false true [] entry e says = absurd (cc)
step_quiet false false [] entry e says = refl

out_quiet : (lane : ℕ) (next : Option Out) (entry : Entry) → out_entry lane next ≡ Some entry → says_quiet (Some entry) ≡ true → ⊥
out_quiet lane None entry e says = absurd (cc)
out_quiet lane (Some out) entry e says = let is : Gave lane out ≡ entry = cc in true≢false (sym says ∙ ap (λ (x : Entry). says_quiet (Some x)) (sym is))

-- A call would log `quiet` only if the last entry isn't `quiet`.
pub entry_quiet : (core : CoreState) (call : Call) (entry : Entry) → would_log core call ≡ Some entry → says_quiet (Some entry) ≡ true → ends_quiet core.log ≡ false
entry_quiet core (HandIn input) entry e says =
    let is = some_is (Fed input (fed (bus_now core) input).reply) entry e in
    absurd (true≢false (sym says ∙ ap (λ (x : Entry). says_quiet (Some x)) (sym is)))
entry_quiet core MakeStep entry e says = step_quiet (bus_now core).down (ends_quiet core.log) (steps (bus_now core)) entry e says
entry_quiet core (HandOut lane) entry e says = absurd (out_quiet lane (next_out lane (bus_now core).bench) entry e says)

own_option : (rights : Rights) (logged : Option Entry) → ((entry : Entry) → logged ≡ Some entry → has rights (right_of entry) ≡ true) → own rights (option_to_list logged) ≡ option_to_list logged
own_option rights None has_it = refl
own_option rights (Some entry) has_it = ap (λ (b : Bool). cond b (entry ∷ []) []) (has_it entry refl)

-- If the rights have the right for a call, each entry that the call adds needs one of these rights.
pub own_entries : (rights : Rights) (core : CoreState) (call : Call) → has rights (right_to call) ≡ true → own rights (entries_of core call) ≡ entries_of core call
own_entries rights core call right = own_option rights (would_log core call) (λ entry e. ap (has rights) (entry_right core call entry e) ∙ right)

pub one_at_most : (logged : Option Entry) → length (option_to_list logged) ≤ 1
one_at_most None = let none : 0 ≤ 1 = omega arith in none
one_at_most (Some entry) = let one : 1 ≤ 1 = omega arith in one

sparse_option : (log : List Entry) (logged : Option Entry) → IsSparse log → ((entry : Entry) → logged ≡ Some entry → says_quiet (Some entry) ≡ true → ends_quiet log ≡ false) → IsSparse (log ++ option_to_list logged)
sparse_option log None h new = sparse_same log h
sparse_option log (Some entry) h new = sparse_more log entry h (new entry refl)

pub sparse_entries : (core : CoreState) (call : Call) → IsSparse core.log → IsSparse (core.log ++ entries_of core call)
sparse_entries core call h = sparse_option core.log (would_log core call) h (λ entry e. entry_quiet core call entry e)

-- A core before and after a call that has added these entries: none if the call returned an error.
pub record Follows (core after : CoreState) (entries : List Entry) : Type 0 where
  pub origin : after.origin ≡ core.origin
  pub log : after.log ≡ core.log ++ entries
  pub stopped : after.stopped ≡ core.stopped
  pub trace : IsTrace (bus_now core) entries

follows_by : {A : Type 0} (result : Result A CoreFault) (core after : CoreState) (call : Call) → IfOk result (λ _. Logs core after (entries_of core call)) → OnErr result (Stays core after) → Follows core after (added result (entries_of core call))
follows_by (Ok answer) core after call logs stays = record { origin = logs.origin; log = logs.log; stopped = logs.stopped; trace = logs.trace }
follows_by (Err refused) core after call logs stays = record { origin = stays.origin; log = stays.log ∙ sym (append-nil core.log); stopped = stays.stopped; trace = tt }

pub follows : {A : Type 0} (Finds : CoreState → A → Type 0) (call : Call) (result : Result A CoreFault) (core after : CoreState) → Answers Finds call core after result → Follows core after (added result (entries_of core call))
follows Finds call result core after a = follows_by result core after call a.logs a.stays

sparse_added : {A : Type 0} (core : CoreState) (call : Call) (result : Result A CoreFault) → IsSparse core.log → IsSparse (core.log ++ added result (entries_of core call))
sparse_added core call (Ok answer) h = sparse_entries core call h
sparse_added core call (Err refused) h = sparse_same core.log h

trace_from : (core : CoreState) (origin : Origin) (entries : List Entry) → core.origin ≡ origin → IsTrace (bus_now core) entries → IsTrace (replay (start origin) core.log) entries
unfolding bus_now
trace_from core origin entries is trace = subst (λ (o : Origin). IsTrace (replay (start o) core.log) entries) is trace

module _ (seat : SeatView) (core : CoreState) (meets : Meets seat core) where
  -- The core may be put back after it has logged this entry, or none.
  goes_back : (me : HolderState) (after : CoreState) (logged : Option Entry) → HasTurn seat core me → Follows core after (option_to_list logged) → IsSparse (core.log ++ option_to_list logged) →
      own seat.rights (option_to_list logged) ≡ option_to_list logged → own all_rights (option_to_list logged) ≡ option_to_list logged → MayRelease me after
  goes_back me after logged turn goes sparse rights owned = subst (λ (m : HolderState). MayRelease m after) (sym turn.1) (record {
    ticket = turn.0;
    logged = logged;
    stage = ap (Serving turn.0) (sym goes.stopped);
    slot = refl;
    adds = record {
      origin = goes.origin ∙ meets.origin;
      log = goes.log;
      trace = trace_from core seat.origin (option_to_list logged) meets.origin goes.trace;
      sparse = sparse;
      rights = rights;
      owned = owned;
    };
  })

  -- So the core may be put back after a call.
  pub may_release : {A : Type 0} (result : Result A CoreFault) (me : HolderState) (after : CoreState) (call : Call) → IsCallInShape call → has seat.rights (right_to call) ≡ true → HasTurn seat core me →
      Follows core after (added result (entries_of core call)) → MayRelease me after
  may_release (Ok answer) me after call form right turn goes =
      goes_back me after (would_log core call) turn goes (sparse_entries core call meets.sparse) (own_entries seat.rights core call right) (own_entries all_rights core call (all_have call form))
  may_release (Err refused) me after call form right turn goes = goes_back me after None turn goes (sparse_same core.log meets.sparse) refl refl

  -- The handle after the core is put back and the turn is passed on.
  pub has_released : {A : Type 0} (result : Result A CoreFault) (me left : HolderState) (after : CoreState) (call : Call) → seat.stage ≡ Idle → HasTurn seat core me → Follows core after (added result (entries_of core call)) → Releases me after left →
      left ≡ (noted seat core (added result (entries_of core call)), [])
  has_released result me left after call idle turn goes releases =
      let t = subst (λ (m : HolderState). Releases m after left) turn.1 releases in
      let es = append_cancel_left core.log (option_to_list t.0) (added result (entries_of core call)) (sym t.1 ∙ goes.log) in
      t.2 ∙ (λ i. (record (noted seat core (es i)) { told = seat.told || goes.stopped i; stage = sym idle i }, []))

-- the claims about the core that a handle finds don't depend on the bus of the handle
pub meets_on : (bus : TableId) (seat : SeatView) (core : CoreState) → Meets seat core → Meets (record seat { bus = bus }) core
meets_on bus seat core m = record {
  origin = m.origin;
  grows = m.grows;
  trace = m.trace;
  sparse = m.sparse;
  owned = m.owned;
  called = m.called;
  told = m.told;
  alone = m.alone;
}

-- a handle as contracts see it
pub seat_is : (bus by : TableId) (views : List SeatView) (seat : SeatView) → by ≡ bus → views ≡ seat ∷ [] → seat_of by views ≡ record seat { bus = bus }
seat_is bus by views seat same is = λ i. seat_of (same i) (is i)

one_of : (views : List SeatView) (one other : SeatView) → views ≡ one ∷ [] → views ≡ other ∷ [] → one ≡ other
one_of views one other e f = cc

-- the effect of a whole call
pub called : {A : Type 0} (Finds : CoreState → A → Type 0) (call : Call) (result : Result A CoreFault) (bus : TableId) (seat : SeatView) (core after : CoreState) (old new : SeatView) →
    old ≡ record seat { bus = bus } → new ≡ record (noted seat core (added result (entries_of core call))) { bus = bus } → Meets seat core → Answers Finds call core after result → Called Finds call old new result
called Finds call result bus seat core after old new old_is new_is meets a =
    subst (λ (o : SeatView). Called Finds call o new result) (sym old_is) (subst (λ (n : SeatView). Called Finds call (record seat { bus = bus }) n result) (sym new_is) (record {
      core = core;
      meets = meets_on bus seat core meets;
      seat = refl;
      trace = trace-append (start seat.origin) core.log (added result (entries_of core call)) meets.trace (trace_from core seat.origin (added result (entries_of core call)) meets.origin goes.trace);
      sparse = sparse_added core call result meets.sparse;
      finds = a.finds;
      stopped = a.stopped;
      full = a.full;
      room = a.room;
    }))
  where
    goes : Follows core after (added result (entries_of core call))
    goes = follows Finds call result core after a

-- A core that is unchanged since it was taken may be put back.
pub may_return : (seat : SeatView) (core : CoreState) (me : HolderState) → Meets seat core → HasTurn seat core me → MayReturn me core
may_return seat core me meets turn = subst (λ (m : HolderState). MayReturn m core) (sym turn.1) (record { ticket = turn.0; stage = refl; slot = refl; origin = meets.origin; log = refl })

pub has_returned : (seat : SeatView) (core : CoreState) (me left : HolderState) → seat.stage ≡ Idle → HasTurn seat core me → left ≡ (record me.0 { stage = Idle }, []) → left ≡ (record seat { seen = core.log }, [])
has_returned seat core me left idle turn is =
    is ∙ ap (λ (m : HolderState). (record m.0 { stage = Idle }, [])) turn.1 ∙ (λ i. (record seat { seen = core.log; stage = sym idle i }, []))

pub observes : {A : Type 0} (Finds : CoreState → A → Type 0) (answer : A) (bus : TableId) (seat : SeatView) (core : CoreState) (old new : SeatView) →
    old ≡ record seat { bus = bus } → new ≡ record seat { bus = bus; seen = core.log } → Meets seat core → Finds core answer → Observes Finds old new answer
observes Finds answer bus seat core old new old_is new_is meets finds =
    subst (λ (o : SeatView). Observes Finds o new answer) (sym old_is) (subst (λ (n : SeatView). Observes Finds (record seat { bus = bus }) n answer) (sym new_is) (record {
      core = core;
      meets = meets_on bus seat core meets;
      seat = refl;
      finds = finds;
    }))

-- A core that was stopped, and is otherwise unchanged, may be put back.
pub may_stop : (seat : SeatView) (core after : CoreState) (me : HolderState) → Meets seat core → HasTurn seat core me → after ≡ record core { stopped = true } → MayStop me after
may_stop seat core after me meets turn is = subst (λ (m : HolderState). MayStop m after) (sym turn.1) (subst (MayStop (record seat { seen = core.log; stage = Serving turn.0 core.stopped }, (0, None) ∷ [])) (sym is) (record {
  ticket = turn.0;
  mark = core.stopped;
  stage = refl;
  slot = refl;
  origin = meets.origin;
  log = refl;
  stopped = refl;
}))

pub has_stopped : (seat : SeatView) (core : CoreState) (me left : HolderState) → seat.stage ≡ Idle → HasTurn seat core me → ReleasesStopped me left → left ≡ (record seat { seen = core.log; called = true; told = true }, [])
has_stopped seat core me left idle turn releases =
    subst (λ (m : HolderState). ReleasesStopped m left) turn.1 releases ∙ (λ i. (record seat { seen = core.log; called = true; told = true; stage = sym idle i }, []))

pub stops_bus : (bus : TableId) (seat : SeatView) (core : CoreState) (old new : SeatView) → old ≡ record seat { bus = bus } → new ≡ record seat { bus = bus; seen = core.log; called = true; told = true } → Meets seat core → StopsBus old new
stops_bus bus seat core old new old_is new_is meets =
    subst (λ (o : SeatView). StopsBus o new) (sym old_is) (subst (StopsBus (record seat { bus = bus })) (sym new_is) (record { core = core; meets = meets_on bus seat core meets; seat = refl }))

same_both : (a b : Bool) → (a ≡ true → b ≡ true) → (b ≡ true → a ≡ true) → a ≡ b
same_both true true one other = refl
same_both true false one other = sym (one refl)
same_both false true one other = other refl
same_both false false one other = refl

-- The effect of `close` by the only handle.
pub closes : (seat : SeatView) (core : CoreState) → Meets seat core → seat.rights ≡ all_rights → seat.room ≡ 64 → Closes seat core
closes seat core m all room = record {
  origin = m.origin;
  log = m.grows.is ∙ ap (λ (xs : List Entry). seat.seen ++ xs) none ∙ append-nil seat.seen;
  stopped = same_both core.stopped seat.called (m.alone room) m.called;
  told = λ e. m.alone room (m.told e);
}
  where
    none : m.grows.rest ≡ []
    none = no_rest all_rights seat.seen m.grows.rest (subst (λ (xs : List Entry). own all_rights xs ≡ xs) m.grows.is m.owned) (ap (λ (r : Rights). own r m.grows.rest) (sym all) ∙ m.grows.none)

pub closes_on : (bus : TableId) (seat : SeatView) (core : CoreState) (old : SeatView) → old ≡ record seat { bus = bus } → Meets seat core → old.rights ≡ all_rights → old.room ≡ 64 → Closes old core
closes_on bus seat core old is meets all room = closes old core (subst (λ (o : SeatView). Meets o core) (sym is) (meets_on bus seat core meets)) all room

-- The effect of a join doesn't depend on the bus of the handles.
pub joins_on : (bus : TableId) (seat other both old third new : SeatView) → old ≡ record seat { bus = bus } → third ≡ record other { bus = bus } → new ≡ record both { bus = bus } → Joins seat other both → Joins old third new
joins_on bus seat other both old third new old_is third_is new_is j =
    subst (λ (o : SeatView). Joins o third new) (sym old_is) (subst (λ (t : SeatView). Joins (record seat { bus = bus }) t new) (sym third_is) (subst (Joins (record seat { bus = bus }) (record other { bus = bus })) (sym new_is) (record {
      seat = ap (λ (v : SeatView). record v { bus = bus }) j.seat;
      grows = j.grows;
      other_grows = j.other_grows;
    })))

-- A handle between two calls, by its view: how contracts see it, and that it may begin a call.
pub record Opened (old : SeatView) (bus : TableId) (seat : SeatView) : Type 0 where
  pub is : old ≡ record seat { bus = bus }
  pub idle : seat.stage ≡ Idle
  pub room : 0 < seat.room

pub opened : (bus : TableId) (views : List SeatView) (old seat : SeatView) → seat_of bus views ≡ old → IsSeat views → views ≡ seat ∷ [] → Opened old bus seat
opened bus views old seat view it is =
    let same = one_of views it.0 seat it.1 is in
    record {
      is = sym view ∙ seat_is bus bus views seat refl is;
      idle = ap (λ (s : SeatView). s.stage) (sym same) ∙ it.2;
      room = subst (λ (s : SeatView). 0 < s.room) same it.3;
    }

-- a handle after a call is again a handle between two calls
pub is_seat : (left : HolderState) (kept : SeatView) (views : List SeatView) → left ≡ (kept, []) → views ≡ left.0 ∷ [] → kept.stage ≡ Idle → 0 < kept.room → IsSeat views
is_seat left kept views is has idle room = (left.0, has, ap (λ (m : HolderState). m.0.stage) is ∙ idle, subst (λ (m : HolderState). 0 < m.0.room) (sym is) room)

pub seen_as : (left : HolderState) (kept : SeatView) (bus by : TableId) (views : List SeatView) → left ≡ (kept, []) → by ≡ bus → views ≡ left.0 ∷ [] → seat_of by views ≡ record kept { bus = bus }
seen_as left kept bus by views is same has = seat_is bus by views left.0 same has ∙ ap (λ (m : HolderState). record m.0 { bus = bus }) is
