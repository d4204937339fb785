-- The theorem about one bus: the entries that the last seat has seen after all seats were joined to it, from the effects of the workers of
-- the lanes and of the other seats.
use Rattle.std.proofs.Common.{◌≡◌, ◌≤◌, ◌+◌, ◌⊎◌, ℕ, List, [], ◌∷◌, ◌++◌, map, length, true, Option, None, refl, sym, ap, ◌∙◌, subst, inl, inr, length-append, arith}
use Rattle.std.specs.Prelude.{⊤}
use Rattle.std.specs.List.{All, AllZip, list_any, fold}
use Rattle.std.proofs.lemmas.List.{map-append}
use Rattle.tb_edge.specs.Ends.{InletView}
use Rattle.tb_edge.specs.Jobs.{AllDone}
use Rattle.tb_edge.specs.declared.given.Taken.{Taken}
use Rattle.tb_log.specs.Shapes.{IsLane}
use Rattle.tb_log.specs.declared.entry.Out.{Out}
use Rattle.tb_tools.specs.Finding.{next_out}
use Rattle.tb_core.specs.Cores.{CoreState, MakeStep}
use Rattle.tb_lock.specs.declared.rights.Rights.{Rights}
use Rattle.tb_lock.specs.Rights.{all_rights, united, without}
use Rattle.tb_lock.specs.Seats.{SeatView, first_seat, most_seats}
use Rattle.tb_lock.specs.Calls.{Closes}
use Rattle.tb_lock.proofs.RightLemmas.{has-united}
use Rattle.tb_run.specs.declared.ends.WorkEnd.{WorkEnd}
use Rattle.tb_run.specs.declared.ends.WorkEnd.TheVariants as end
use Rattle.tb_run.specs.declared.worker.Work.{Work}
use Rattle.tb_run.specs.declared.worker.Work.TheVariants.{Steps}
use Rattle.tb_run.specs.Jobs.{HasRight}
use Rattle.tb_run.specs.Joining.{JoinsAll}
use Rattle.tb_run.specs.Moving.{readers, writers, inlets_of, outlets_of}
use Rattle.tb_run.specs.Outcomes.{LaneRan, LaneStopped}
use Rattle.tb_run.specs.Parting.{parted, left_after}
use Rattle.tb_run.specs.Reasons.{is_full_end}
use Rattle.tb_run.specs.Refusals.{HadNoRoom, LaneRefused}
use Rattle.tb_run.specs.Seats.{SeesTrace}
use Rattle.tb_run.specs.Views.{EachLane, SomeLane, views}
use Rattle.tb_run.specs.Workers.{StepperEnds, WriterEnds, bus_of}
use Rattle.tb_run.proofs.EndLemmas.{AllCameToEnd, CameToEnd, NoneRefused, came_before, came_behind, came_to_end, ends_append, ends_of}
use Rattle.tb_run.proofs.JoinLemmas.{AllKept, FirstLaw, Kept, SecondLaw, own_each}
use Rattle.tb_run.proofs.MarkLemmas.{AreQuiet, quiet_append}
use Rattle.tb_run.proofs.PartLemmas.{left_bus, left_called, left_origin, left_rights, left_room, left_seen, parted_count_of, parted_new, parted_rights}
use Rattle.tb_run.proofs.RunLemmas.{AllWent, Done, EachEnd, ReaderWent, StepperWent, WriterWent, all_went, any_end, came_each, count_worked, each_ran, each_stopped, ends_worked, lane_in, quiet_worked, rights_worked, seats_worked, some_refused, worked_of, zip_went}
use Rattle.tb_run.proofs.TraceLemmas.{DownLaw, EmptyLaw, down_to_end, empty_to_end}
use Rattle.tb_run.proofs.WentLemmas.{OfInlet, OfOutlet, each_length, reader_view, writer_view, zip_done}
use Rattle.tb_run.proofs.WorkedLemmas.{EachNew, IsFirst, Unites, Worked, count_unused, kept_before, kept_behind, new_append, rights_append, rights_of, rights_unused, seats_append, seats_of, seats_unused, seen_of_all, unites, unused_of}

-- what the first seat of a bus has kept, once it has passed these rights on, and then those
abbrev pub kept_after : SeatView → List Rights → List Rights → SeatView
kept_after begun rights further = left_after (left_after begun rights) further

-- it is the first seat still
pub first_kept : (begun : SeatView) (rights further : List Rights) → begun ≡ first_seat begun.bus begun.origin → IsFirst begun (kept_after begun rights further)
first_kept begun rights further first = record {
  bus = left_bus (left_after begun rights) further ∙ left_bus begun rights;
  origin = left_origin (left_after begun rights) further ∙ left_origin begun rights;
  seen = left_seen (left_after begun rights) further ∙ (left_seen begun rights ∙ ap (λ (s : SeatView). s.seen) first);
  called = left_called (left_after begun rights) further ∙ (left_called begun rights ∙ ap (λ (s : SeatView). s.called) first);
}

-- the seats of the rights that were passed on first are new
pub first_new : (begun : SeatView) (rights : List Rights) → begun ≡ first_seat begun.bus begun.origin → EachNew begun (parted begun rights)
first_new begun rights first = parted_new begun begun rights refl refl (ap (λ (s : SeatView). s.seen) first)

-- and those of the rights that were passed on then
pub further_new : (begun : SeatView) (rights further : List Rights) → begun ≡ first_seat begun.bus begun.origin → EachNew begun (parted (left_after begun rights) further)
further_new begun rights further first =
    parted_new begun (left_after begun rights) further (left_bus begun rights) (left_origin begun rights) (left_seen begun rights ∙ ap (λ (s : SeatView). s.seen) first)

-- All rights have come together, and all room: of these seats, of others with these rights, and of what the first has kept.
module _ (begun last : SeatView) (rights further joined : List Rights) (all : List (Worked begun)) (first : begun ≡ first_seat begun.bus begun.origin)
    (is : rights_of all ≡ joined ++ rights) (u : Unites begun (kept_after begun rights further) last all) where
  pub rights_unite_so : fold united (fold without (fold without all_rights rights) further) (joined ++ rights) ≡ all_rights → last.rights ≡ all_rights
  rights_unite_so whole =
      let kept : (kept_after begun rights further).rights ≡ fold without (fold without all_rights rights) further =
      left_rights (left_after begun rights) further
      ∙ ap (λ (r : Rights). fold without r further) (left_rights begun rights ∙ ap (λ (s : SeatView). fold without s.rights rights) first) in
      u.rights ∙ (ap (λ (rs : List Rights). fold united (kept_after begun rights further).rights rs) is ∙ (ap (λ (r : Rights). fold united r (joined ++ rights)) kept ∙ whole))

  pub room_unites_so : length all ≡ length rights + length further → length rights + length further ≤ most_seats → last.room ≡ most_seats
  room_unites_so count few =
      let whole : begun.room ≡ 64 = ap (λ (s : SeatView). s.room) first in
      let one = left_room begun rights in
      let two = left_room (left_after begun rights) further in
      let sum : last.room ≡ (left_after (left_after begun rights) further).room + length all = u.room in
      let most : most_seats ≡ 64 = refl in
      omega (arith, whole, one, two, sum, most, count, few)

-- What is known of a bus whose seats were passed on and have become one again as they were; these are the seats in addition to those of
-- the workers of its lanes.
pub record BusIdle (begun last : SeatView) (rights further : List Rights) (asides : List SeatView) : Type 0 where
  pub bus : last.bus ≡ begun.bus
  pub origin : last.origin ≡ begun.origin
  pub rights_are : (joined : List Rights) → map (λ (s : SeatView). s.rights) asides ≡ joined → fold united (fold without (fold without all_rights rights) further) (joined ++ rights) ≡ all_rights → last.rights ≡ all_rights
  pub room_is : length asides ≡ length further → length rights + length further ≤ most_seats → last.room ≡ most_seats
  pub sees : SeesTrace last
  pub nothing : last.seen ≡ []

module _ (begun last : SeatView) (rights further : List Rights) (asides seats : List SeatView) (first : begun ≡ first_seat begun.bus begun.origin)
    (parts : seats ≡ parted begun rights) (asides_new : EachNew begun asides) (joins : JoinsAll (kept_after begun rights further) (asides ++ seats) last) where
  all_new : EachNew begun (asides ++ seats)
  all_new = new_append begun asides seats asides_new (subst (EachNew begun) (sym parts) (first_new begun rights first))

  abbrev nobody : List (Worked begun)
  nobody = unused_of begun (asides ++ seats) all_new

  idle_unites : Unites begun (kept_after begun rights further) last nobody
  idle_unites =
      unites begun (kept_after begun rights further) last nobody (first_kept begun rights further first)
      (subst (λ (ss : List SeatView). JoinsAll (kept_after begun rights further) ss last) (sym (seats_unused begun (asides ++ seats) all_new)) joins)

  idle_rights : (joined : List Rights) → map (λ (s : SeatView). s.rights) asides ≡ joined → rights_of nobody ≡ joined ++ rights
  idle_rights joined e =
      rights_unused begun (asides ++ seats) all_new
      ∙ (map-append (λ (s : SeatView). s.rights) asides seats
      ∙ (ap (λ (rs : List Rights). rs ++ map (λ (s : SeatView). s.rights) seats) e
      ∙ ap (λ (rs : List Rights). joined ++ rs) (ap (map (λ (s : SeatView). s.rights)) parts ∙ parted_rights begun rights)))

  pub bus_idle : BusIdle begun last rights further asides
  bus_idle = record {
    bus = idle_unites.bus;
    origin = idle_unites.origin;
    rights_are = λ joined e whole. rights_unite_so begun last rights further joined nobody first (idle_rights joined e) idle_unites whole;
    room_is = λ e few.
        let all : length nobody ≡ length asides + length seats = count_unused begun (asides ++ seats) all_new ∙ length-append asides seats in
        let one : length seats ≡ length rights = ap length parts ∙ parted_count_of begun rights in
        let so : length nobody ≡ length rights + length further = omega (arith, e, one, all) in
        room_unites_so begun last rights further (map (λ (s : SeatView). s.rights) asides) nobody first (idle_rights (map (λ (s : SeatView). s.rights) asides) refl) idle_unites so few;
    sees = idle_unites.sees;
    nothing = seen_of_all begun (kept_after begun rights further) last (asides ++ seats) joins (first_kept begun rights further first).seen all_new;
  }

-- One bus, as the functions of a run say it of its parts: the workers of the lanes from a number on and the stepper, whose seats have these
-- rights; and the other seats, in the order in which they were joined. `further` are the rights of these, in the order in which they were
-- passed on.
pub record BusCourse {X I O : Type 0} (seat : X → SeatView) (ended : X → WorkEnd) (work : X → Work I O) (gave : I → Option InletView) (fails : I → ℕ) (took : O → Option (List Taken)) (faults : O → ℕ)
    (from : ℕ) (begun last : SeatView) (rights further : List Rights) (asides : List (Worked begun)) (is is_new : List I) (os os_new : List O) (xs ys : List X) : Type 0 where
  pub first : begun ≡ first_seat begun.bus begun.origin
  pub seats : map seat xs ≡ parted begun rights
  pub works : map work xs ≡ readers from is ++ (writers from os ++ Steps ∷ [])
  pub fit : All (λ (x : X). HasRight (seat x) (work x)) xs
  pub done : AllDone (Done seat ended work gave fails took faults) xs ys
  pub joins : JoinsAll (kept_after begun rights further) (seats_of asides ++ map seat ys) last
  pub inlets : is_new ≡ inlets_of (map work ys)
  pub outlets : os_new ≡ outlets_of (map work ys)
  pub count : length is ≡ length os

-- What is known of a bus where neither memory nor room was wanting, and its last seat has closed it.
pub record BusEnded {I O : Type 0} (gave : I → Option InletView) (fails : I → ℕ) (took : O → Option (List Taken)) (faults : O → ℕ)
    (from : ℕ) (begun last : SeatView) (asides : List (Worked begun)) (is is_new : List I) (os os_new : List O) (ends : List WorkEnd) : Type 0 where
  pub asides_came : AllCameToEnd asides
  pub workers_came : EachEnd CameToEnd ends
  pub lanes : EachLane (LaneRan last.seen) from (views gave fails took faults is os) (views gave fails took faults is_new os_new)
  pub down : (bus_of last).down ≡ true
  pub empty : (lane : ℕ) → IsLane lane → from ≤ lane → lane + 1 ≤ from + length os → next_out lane (bus_of last).bench ≡ None

-- What is known of a bus.
pub record BusCame {X I O : Type 0} (seat : X → SeatView) (ended : X → WorkEnd) (work : X → Work I O) (gave : I → Option InletView) (fails : I → ℕ) (took : O → Option (List Taken)) (faults : O → ℕ)
    (from : ℕ) (begun last : SeatView) (rights further : List Rights) (asides : List (Worked begun)) (is is_new : List I) (os os_new : List O) (xs ys : List X) : Type 0 where
  pub bus : last.bus ≡ begun.bus
  pub origin : last.origin ≡ begun.origin
  -- it has all rights again, if these come together to all, and all room
  pub rights_are : (joined : List Rights) → rights_of asides ≡ joined → fold united (fold without (fold without all_rights rights) further) (joined ++ rights) ≡ all_rights → last.rights ≡ all_rights
  pub room_is : length asides ≡ length further → length rights + length further ≤ most_seats → last.room ≡ most_seats
  pub sees : SeesTrace last
  -- what it has kept of each seat
  pub kept : AllKept last (seats_of asides)
  pub workers_kept : AllKept last (map seat ys)
  -- the readers and the writers of all lanes
  pub reads : EachLane (ReaderWent seat ended work gave fails took faults last begun (λ _. ⊤)) from is is_new
  pub writes : EachLane (WriterWent seat ended work gave fails took faults last begun (λ _. ⊤)) from os os_new
  pub lanes : EachLane (LaneStopped last.seen) from (views gave fails took faults is os) (views gave fails took faults is_new os_new)
  -- a seat that has found the bus down, or nothing left to be sent, has found it so for all time
  pub down_still : (done : SeatView) → done.origin ≡ begun.origin → Kept last done → (bus_of done).down ≡ true → (bus_of last).down ≡ true
  pub empty_still : (done : SeatView) → done.origin ≡ begun.origin → Kept last done → (lane : ℕ) → IsLane lane → (bus_of done).down ≡ true → next_out lane (bus_of done).bench ≡ None → next_out lane (bus_of last).bench ≡ None
  -- if a call of a worker was refused because the log was full
  pub refused : list_any is_full_end (map ended ys) ≡ true
      → SomeLane (LaneRefused last.origin last.seen) from (views gave fails took faults is os) (views gave fails took faults is_new os_new) ⊎ HadNoRoom MakeStep last.origin last.seen
  -- if no call was refused, and no seat except theirs has stopped the bus
  pub to_end : AreQuiet asides → NoneRefused (ends_of asides ++ map ended ys) → (core : CoreState) → Closes last core
      → BusEnded gave fails took faults from begun last asides is is_new os os_new (map ended ys)

module _ (first_law : FirstLaw) (second_law : SecondLaw) (down_law : DownLaw) (empty_law : EmptyLaw)
    {X I O : Type 0} (seat : X → SeatView) (ended : X → WorkEnd) (work : X → Work I O) (gave : I → Option InletView) (fails : I → ℕ) (took : O → Option (List Taken)) (faults : O → ℕ)
    (from : ℕ) (begun last : SeatView) (rights further : List Rights) (asides : List (Worked begun)) (is is_new : List I) (os os_new : List O) (xs ys : List X)
    (c : BusCourse seat ended work gave fails took faults from begun last rights further asides is is_new os os_new xs ys) where
  abbrev Mine : SeatView
  Mine = kept_after begun rights further

  zip : AllZip (Done seat ended work gave fails took faults) xs ys
  zip = zip_done (Done seat ended work gave fails took faults) xs ys c.done

  new_seats : EachNew begun (map seat xs)
  new_seats = subst (EachNew begun) (sym c.seats) (first_new begun rights c.first)

  abbrev workers : List (Worked begun)
  workers = worked_of seat ended work gave fails took faults begun xs ys zip new_seats

  abbrev all : List (Worked begun)
  all = asides ++ workers

  seats_are : seats_of all ≡ seats_of asides ++ map seat ys
  seats_are = seats_append asides workers ∙ ap (λ (ss : List SeatView). seats_of asides ++ ss) (seats_worked seat ended work gave fails took faults begun xs ys zip new_seats)

  ends_are : ends_of all ≡ ends_of asides ++ map ended ys
  ends_are = ends_append asides workers ∙ ap (λ (es : List WorkEnd). ends_of asides ++ es) (ends_worked seat ended work gave fails took faults begun xs ys zip new_seats)

  joins_all : JoinsAll Mine (seats_of all) last
  joins_all = subst (λ (ss : List SeatView). JoinsAll Mine ss last) (sym seats_are) c.joins

  mine : IsFirst begun Mine
  mine = first_kept begun rights further c.first

  u : Unites begun Mine last all
  u = unites begun Mine last all mine joins_all

  kept_all : AllKept last (seats_of asides ++ map seat ys)
  kept_all = own_each first_law second_law has-united Mine last (seats_of asides ++ map seat ys) c.joins

  kept_asides : AllKept last (seats_of asides)
  kept_asides = kept_before last (seats_of asides) (map seat ys) kept_all

  kept_workers : AllKept last (map seat ys)
  kept_workers = kept_behind last (seats_of asides) (map seat ys) kept_all

  rights_have : (joined : List Rights) → rights_of asides ≡ joined → rights_of all ≡ joined ++ rights
  rights_have joined e =
      rights_append asides workers
      ∙ (ap (λ (rs : List Rights). rs ++ rights_of workers) e
      ∙ ap (λ (rs : List Rights). joined ++ rs) (rights_worked seat ended work gave fails took faults begun xs ys zip new_seats ∙ (ap (map (λ (s : SeatView). s.rights)) c.seats ∙ parted_rights begun rights)))

  rights_are : (joined : List Rights) → rights_of asides ≡ joined → fold united (fold without (fold without all_rights rights) further) (joined ++ rights) ≡ all_rights → last.rights ≡ all_rights
  rights_are joined e whole = rights_unite_so begun last rights further joined all c.first (rights_have joined e) u whole

  room_is : length asides ≡ length further → length rights + length further ≤ most_seats → last.room ≡ most_seats
  room_is e few =
      let two : length all ≡ length asides + length workers = length-append asides workers in
      let one : length workers ≡ length rights = count_worked seat ended work gave fails took faults begun xs ys zip new_seats ∙ (ap length c.seats ∙ parted_count_of begun rights) in
      let so : length all ≡ length rights + length further = omega (arith, e, one, two) in
      room_unites_so begun last rights further (rights_of asides) all c.first (rights_have (rights_of asides) refl) u so few

  same_origin : (done : SeatView) → done.origin ≡ begun.origin → done.origin ≡ last.origin
  same_origin done e = e ∙ sym u.origin

  down_still : (done : SeatView) → done.origin ≡ begun.origin → Kept last done → (bus_of done).down ≡ true → (bus_of last).down ≡ true
  down_still done o kept down = down_to_end done last (same_origin done o) u.sees.trace kept down_law down

  empty_still : (done : SeatView) → done.origin ≡ begun.origin → Kept last done → (lane : ℕ) → IsLane lane → (bus_of done).down ≡ true → next_out lane (bus_of done).bench ≡ None → next_out lane (bus_of last).bench ≡ None
  empty_still done o kept lane lane_is down none = empty_to_end done last (same_origin done o) u.sees.trace kept empty_law lane lane_is down none

  -- the lanes, of workers that all meet this
  module _ (P : WorkEnd → Type 0) (meet : EachEnd P (map ended ys)) where
    went : AllWent seat ended work gave fails took faults last begun P from is os ys
    went = all_went seat ended work gave fails took faults last begun P from is os xs ys c.works (zip_went seat ended work gave fails took faults last begun P xs ys zip c.fit new_seats kept_workers meet)

    reads : EachLane (ReaderWent seat ended work gave fails took faults last begun P) from is is_new
    reads = subst (EachLane (ReaderWent seat ended work gave fails took faults last begun P) from is) (sym (c.inlets ∙ went.inlets)) went.reads

    writes : EachLane (WriterWent seat ended work gave fails took faults last begun P) from os os_new
    writes = subst (EachLane (WriterWent seat ended work gave fails took faults last begun P) from os) (sym (c.outlets ∙ went.outlets)) went.writes

  -- if no call was refused
  down_of : (stepper : StepperWent seat ended work gave fails took faults last begun CameToEnd) (it : WorkEnd) → CameToEnd it → StepperEnds stepper.begun stepper.done it → (bus_of stepper.done).down ≡ true
  down_of stepper end.Over h e = absurd e
  down_of stepper end.Down h e = e
  down_of stepper end.Failed h e = absurd e
  down_of stepper end.Stopped h e = absurd h
  down_of stepper end.Full h e = absurd h
  down_of stepper end.NoMemory h e = absurd h

  empty_of : (lane : ℕ) (lost : List Out) (begun done : SeatView) (it : WorkEnd) → CameToEnd it → WriterEnds lane lost begun done it → (next_out lane (bus_of done).bench ≡ None) × ((bus_of done).down ≡ true)
  empty_of lane lost begun done end.Over h e = absurd e
  empty_of lane lost begun done end.Down h e = e
  empty_of lane lost begun done end.Failed h e = absurd e
  empty_of lane lost begun done end.Stopped h e = absurd h
  empty_of lane lost begun done end.Full h e = absurd h
  empty_of lane lost begun done end.NoMemory h e = absurd h

  module _ (meet : EachEnd CameToEnd (map ended ys)) where
    is_down : (bus_of last).down ≡ true
    is_down =
        let s = (went CameToEnd meet).stepper in
        down_still s.done s.origin s.kept (down_of s s.it s.meets s.steps.ends)

    is_empty : (lane : ℕ) → IsLane lane → from ≤ lane → lane + 1 ≤ from + length os → next_out lane (bus_of last).bench ≡ None
    is_empty lane lane_is low high =
        let at = lane_in (WriterWent seat ended work gave fails took faults last begun CameToEnd) from os os_new (writes CameToEnd meet) lane low high in
        let s = at.2 in
        let e = empty_of lane s.writes.last s.begun s.done s.it s.meets s.writes.ends in
        empty_still s.done s.origin s.kept lane lane_is e.1 e.0

  came : AreQuiet asides → NoneRefused (ends_of asides ++ map ended ys) → (core : CoreState) → Closes last core → AllCameToEnd all
  came quiet none core closes =
      came_to_end Mine last core all joins_all (quiet_append asides workers quiet (quiet_worked seat ended work gave fails took faults begun xs ys zip new_seats)) closes mine.called (subst NoneRefused (sym ends_are) none)

  to_end : AreQuiet asides → NoneRefused (ends_of asides ++ map ended ys) → (core : CoreState) → Closes last core → BusEnded gave fails took faults from begun last asides is is_new os os_new (map ended ys)
  to_end quiet none core closes =
      let both = came quiet none core closes in
      let meet = came_each seat ended work gave fails took faults begun xs ys zip new_seats (came_behind asides workers both) in
      record {
        asides_came = came_before asides workers both;
        workers_came = meet;
        lanes = each_ran seat ended work gave fails took faults last begun CameToEnd (λ it h. h) from is is_new os os_new (reads CameToEnd meet) (writes CameToEnd meet);
        down = is_down meet;
        empty = is_empty meet;
      }

  -- a call of a worker was refused because the log was full
  all_end : EachEnd (λ _. ⊤) (map ended ys)
  all_end = any_end (map ended ys)

  abbrev Found : Type 0
  Found = SomeLane (LaneRefused last.origin last.seen) from (views gave fails took faults is os) (views gave fails took faults is_new os_new) ⊎ HadNoRoom MakeStep last.origin last.seen

  count_new : length is_new ≡ length os_new
  count_new =
      sym (each_length (ReaderWent seat ended work gave fails took faults last begun (λ _. ⊤)) from is is_new (reads (λ _. ⊤) all_end))
      ∙ (c.count ∙ each_length (WriterWent seat ended work gave fails took faults last begun (λ _. ⊤)) from os os_new (writes (λ _. ⊤) all_end))

  placed : SomeLane (OfInlet gave fails took faults (LaneRefused last.origin last.seen)) from is is_new ⊎ (SomeLane (OfOutlet gave fails took faults (LaneRefused last.origin last.seen)) from os os_new ⊎ HadNoRoom MakeStep last.origin last.seen) → Found
  placed (inl r) = inl (reader_view gave fails took faults (LaneRefused last.origin last.seen) from is is_new os os_new c.count count_new r)
  placed (inr (inl w)) = inl (writer_view gave fails took faults (LaneRefused last.origin last.seen) from is is_new os os_new c.count count_new w)
  placed (inr (inr s)) = inr s

  refused : list_any is_full_end (map ended ys) ≡ true → Found
  refused h =
      let z = zip_went seat ended work gave fails took faults last begun (λ _. ⊤) xs ys zip c.fit new_seats kept_workers all_end in
      let s = some_refused seat ended work gave fails took faults last begun (λ _. ⊤) (sym u.origin) from is os xs ys c.works z h in
      placed
      (subst (λ (os' : List O). SomeLane (OfInlet gave fails took faults (LaneRefused last.origin last.seen)) from is is_new ⊎ (SomeLane (OfOutlet gave fails took faults (LaneRefused last.origin last.seen)) from os os' ⊎ HadNoRoom MakeStep last.origin last.seen)) (sym (c.outlets ∙ s.outlets))
      (subst (λ (is' : List I). SomeLane (OfInlet gave fails took faults (LaneRefused last.origin last.seen)) from is is' ⊎ (SomeLane (OfOutlet gave fails took faults (LaneRefused last.origin last.seen)) from os s.os_new ⊎ HadNoRoom MakeStep last.origin last.seen)) (sym (c.inlets ∙ s.inlets)) s.some))

  pub bus_came : BusCame seat ended work gave fails took faults from begun last rights further asides is is_new os os_new xs ys
  bus_came = record {
    bus = u.bus;
    origin = u.origin;
    rights_are = rights_are;
    room_is = room_is;
    sees = u.sees;
    kept = kept_asides;
    workers_kept = kept_workers;
    reads = reads (λ _. ⊤) all_end;
    writes = writes (λ _. ⊤) all_end;
    lanes = each_stopped seat ended work gave fails took faults last begun (λ _. ⊤) from is is_new os os_new (reads (λ _. ⊤) all_end) (writes (λ _. ⊤) all_end);
    down_still = down_still;
    empty_still = empty_still;
    refused = refused;
    to_end = to_end;
  }
