-- What is known of one bus of a pair, from what its workers have done.
use Rattle.std.proofs.Common.{◌≡◌, ◌⊎◌, ℕ, zero, suc, List, [], ◌∷◌, ◌++◌, map, length, true, Option, Some, None, refl, sym, ap, ◌∙◌, subst, arith}
use Rattle.std.specs.List.{All, list_any}
use Rattle.tb_edge.specs.Ends.{InletView}
use Rattle.tb_edge.specs.Jobs.{AllDone}
use Rattle.tb_edge.specs.declared.given.Taken.{Taken}
use Rattle.tb_log.specs.Shapes.{IsLane}
use Rattle.tb_log.specs.declared.entry.Entry.{Entry}
use Rattle.tb_tools.specs.Finding.{next_out}
use Rattle.tb_core.specs.Cores.{CoreState, MakeStep}
use Rattle.tb_lock.specs.declared.rights.Rights.{Rights}
use Rattle.tb_lock.specs.Rights.{all_rights, ticker_rights}
use Rattle.tb_lock.specs.Seats.{SeatView, first_seat, most_seats}
use Rattle.tb_lock.specs.Calls.{Closes}
use Rattle.tb_run.specs.declared.ends.WorkEnd.{WorkEnd}
use Rattle.tb_run.specs.declared.worker.Work.{Work}
use Rattle.tb_run.specs.declared.worker.Work.TheVariants.{Steps}
use Rattle.tb_run.specs.Jobs.{HasRight}
use Rattle.tb_run.specs.Joining.{JoinsAll}
use Rattle.tb_run.specs.Moving.{readers, writers, inlets_of, outlets_of}
use Rattle.tb_run.specs.Outcomes.{IsDone, LaneRan, LaneStopped}
use Rattle.tb_run.specs.Parting.{parted}
use Rattle.tb_run.specs.Reasons.{is_full_end}
use Rattle.tb_run.specs.Refusals.{HadNoRoom, LaneRefused}
use Rattle.tb_run.specs.Seats.{Adds, Marks}
use Rattle.tb_run.specs.Views.{EachLane, LaneView, SomeLane, views}
use Rattle.tb_run.specs.Workers.{bus_of}
use Rattle.tb_run.proofs.BusLemmas.{BusCame, BusEnded, BusIdle, bus_came, bus_idle, further_new}
use Rattle.tb_run.proofs.EndLemmas.{CameToEnd, NoneRefused}
use Rattle.tb_run.proofs.JoinLemmas.{FirstLaw, Kept, SecondLaw}
use Rattle.tb_run.proofs.RunLemmas.{Done}
use Rattle.tb_run.proofs.TraceLemmas.{DownLaw, EmptyLaw}
use Rattle.tb_run.proofs.WorkedLemmas.{EachNew, IsNew, Worked}
use Rattle.tb_pair.specs.Parts.{to_pipe}
use Rattle.tb_pair.specs.Passing.{IsPartOf}
use Rattle.tb_pair.proofs.PassLemmas.{part_of}
use Rattle.tb_pair_run.specs.Helpers.Parts.{lane_rights, pipe_seat_of, tick_seat_of, rest_of}
use Rattle.tb_pair_run.specs.Helpers.Running.{IsBack}
use Rattle.tb_pair_run.proofs.PartLemmas.{lane_count, rights_unite}

-- What the functions of a pair say of the parts of one bus: of the workers of lanes 2 to 16 and the stepper; of the worker that serves the pipe; and of the ticker.
pub record SideCourse {X I O : Type 0} (seat : X → SeatView) (ended : X → WorkEnd) (work : X → Work I O) (gave : I → Option InletView) (fails : I → ℕ) (took : O → Option (List Taken)) (faults : O → ℕ)
    (begun last : SeatView) (is is_new : List I) (os os_new : List O) (xs ys : List X) (pipe_begun pipe_done tick_begun tick_done : SeatView) (pipe_more tick_more : List Entry) (pipe_end tick_end : WorkEnd) : Type 0 where
  pub first : begun ≡ first_seat begun.bus begun.origin
  pub seats : map seat xs ≡ parted begun lane_rights
  pub works : map work xs ≡ readers 2 is ++ (writers 2 os ++ Steps ∷ [])
  pub fit : All (λ (x : X). HasRight (seat x) (work x)) xs
  pub done : AllDone (Done seat ended work gave fails took faults) xs ys
  pub pipe_is : pipe_begun ≡ pipe_seat_of begun
  pub tick_is : tick_begun ≡ tick_seat_of begun
  pub pipe_adds : Adds pipe_begun pipe_done pipe_more
  pub pipe_marks : Marks pipe_begun pipe_done pipe_end
  pub tick_adds : Adds tick_begun tick_done tick_more
  pub tick_marks : Marks tick_begun tick_done tick_end
  pub joins : JoinsAll (rest_of begun) (pipe_done ∷ tick_done ∷ map seat ys) last
  pub inlets : is_new ≡ inlets_of (map work ys)
  pub outlets : os_new ≡ outlets_of (map work ys)
  pub ins : length is ≡ 15
  pub outs : length os ≡ 15

-- a bus where neither memory nor room was wanting, and whose seat has closed it
pub record SideEnded (olds news : List LaneView) (last pipe_done : SeatView) (pipe_end tick_end : WorkEnd) : Type 0 where
  pub pipe_came : CameToEnd pipe_end
  pub tick_came : CameToEnd tick_end
  pub lanes : EachLane (LaneRan last.seen) 2 olds news
  -- where the worker that serves the pipe has found nothing left on its lane
  pub done : next_out 1 (bus_of pipe_done).bench ≡ None → (bus_of pipe_done).down ≡ true → IsDone (bus_of last)

-- a bus, whose lanes from 2 on are seen
pub record SideCame (olds news : List LaneView) (begun last pipe_begun pipe_done tick_begun tick_done : SeatView) (pipe_end tick_end : WorkEnd) (ends : List WorkEnd) : Type 0 where
  pub back : IsBack begun last
  pub pipe_part : IsPartOf pipe_begun pipe_done last
  pub pipe_kept : Kept last pipe_done
  pub pipe_origin : pipe_done.origin ≡ last.origin
  pub tick_part : IsPartOf tick_begun tick_done last
  pub tick_kept : Kept last tick_done
  pub tick_origin : tick_done.origin ≡ last.origin
  pub lanes : EachLane (LaneStopped last.seen) 2 olds news
  pub refused : list_any is_full_end ends ≡ true → SomeLane (LaneRefused last.origin last.seen) 2 olds news ⊎ HadNoRoom MakeStep last.origin last.seen
  pub ended : NoneRefused (pipe_end ∷ tick_end ∷ ends) → (core : CoreState) → Closes last core → SideEnded olds news last pipe_done pipe_end tick_end

abbrev further : List Rights
further = to_pipe ∷ ticker_rights ∷ []

module _ (first_law : FirstLaw) (second_law : SecondLaw) (down_law : DownLaw) (empty_law : EmptyLaw)
    {X I O : Type 0} (seat : X → SeatView) (ended : X → WorkEnd) (work : X → Work I O) (gave : I → Option InletView) (fails : I → ℕ) (took : O → Option (List Taken)) (faults : O → ℕ)
    (begun last : SeatView) (is is_new : List I) (os os_new : List O) (xs ys : List X) (pipe_begun pipe_done tick_begun tick_done : SeatView) (pipe_more tick_more : List Entry) (pipe_end tick_end : WorkEnd)
    (c : SideCourse seat ended work gave fails took faults begun last is is_new os os_new xs ys pipe_begun pipe_done tick_begun tick_done pipe_more tick_more pipe_end tick_end) where
  further_are_new : EachNew begun (pipe_seat_of begun ∷ tick_seat_of begun ∷ [])
  further_are_new = further_new begun lane_rights further c.first

  pipe_new : IsNew begun pipe_begun
  pipe_new = subst (IsNew begun) (sym c.pipe_is) further_are_new.0

  tick_new : IsNew begun tick_begun
  tick_new = subst (IsNew begun) (sym c.tick_is) further_are_new.1.0

  abbrev piper : Worked begun
  piper = record { begun = pipe_begun; done = pipe_done; new = pipe_new; more = pipe_more; adds = c.pipe_adds; end = Some pipe_end; marks = c.pipe_marks }

  abbrev ticker : Worked begun
  ticker = record { begun = tick_begun; done = tick_done; new = tick_new; more = tick_more; adds = c.tick_adds; end = Some tick_end; marks = c.tick_marks }

  abbrev asides : List (Worked begun)
  asides = piper ∷ ticker ∷ []

  the_bus : BusCame seat ended work gave fails took faults 2 begun last lane_rights further asides is is_new os os_new xs ys
  the_bus = bus_came first_law second_law down_law empty_law seat ended work gave fails took faults 2 begun last lane_rights further asides is is_new os os_new xs ys
      (record { first = c.first; seats = c.seats; works = c.works; fit = c.fit; done = c.done; joins = c.joins; inlets = c.inlets; outlets = c.outlets; count = c.ins ∙ sym c.outs })

  rights : last.rights ≡ all_rights
  rights =
      let pipe_has : pipe_begun.rights ≡ to_pipe = ap (λ (s : SeatView). s.rights) c.pipe_is in
      let tick_has : tick_begun.rights ≡ ticker_rights = ap (λ (s : SeatView). s.rights) c.tick_is in
      the_bus.rights_are (to_pipe ∷ ticker_rights ∷ [])
      (ap (λ (r : Rights). r ∷ tick_begun.rights ∷ []) pipe_has ∙ ap (λ (r : Rights). to_pipe ∷ r ∷ []) tick_has) rights_unite

  room : last.room ≡ most_seats
  room = the_bus.room_is refl (let k = lane_count in omega (arith, k))

  pipe_origin : pipe_done.origin ≡ last.origin
  pipe_origin = c.pipe_adds.origin ∙ (pipe_new.origin ∙ sym the_bus.origin)

  tick_origin : tick_done.origin ≡ last.origin
  tick_origin = c.tick_adds.origin ∙ (tick_new.origin ∙ sym the_bus.origin)

  module _ (none : NoneRefused (pipe_end ∷ tick_end ∷ map ended ys)) (core : CoreState) (closes : Closes last core) where
    the_end : BusEnded gave fails took faults 2 begun last asides is is_new os os_new (map ended ys)
    the_end = the_bus.to_end (tt, (tt, tt)) none core closes

    module _ (empty : next_out 1 (bus_of pipe_done).bench ≡ None) (down : (bus_of pipe_done).down ≡ true) where
      at : (lane : ℕ) → IsLane lane → next_out lane (bus_of last).bench ≡ None
      at zero is_lane = absurd (let low = is_lane.0 in omega (arith, low))
      at (suc zero) is_lane = the_bus.empty_still pipe_done (c.pipe_adds.origin ∙ pipe_new.origin) the_bus.kept.0 1 is_lane down empty
      at (suc (suc n)) is_lane = the_end.empty (suc (suc n)) is_lane (omega arith) (let k = c.outs in let high = is_lane.1 in omega (arith, k, high))

      is_done : IsDone (bus_of last)
      is_done = record { down = the_end.down; empty = at }

    side_ended : SideEnded (views gave fails took faults is os) (views gave fails took faults is_new os_new) last pipe_done pipe_end tick_end
    side_ended = record { pipe_came = the_end.asides_came.0; tick_came = the_end.asides_came.1.0; lanes = the_end.lanes; done = is_done }

  pub side_came : SideCame (views gave fails took faults is os) (views gave fails took faults is_new os_new) begun last pipe_begun pipe_done tick_begun tick_done pipe_end tick_end (map ended ys)
  side_came = record {
    back = record { bus = the_bus.bus; origin = the_bus.origin; rights = rights; room = room; sees = the_bus.sees };
    pipe_part = part_of pipe_begun pipe_done last pipe_new.seen c.pipe_adds.rights the_bus.kept.0;
    pipe_kept = the_bus.kept.0;
    pipe_origin = pipe_origin;
    tick_part = part_of tick_begun tick_done last tick_new.seen c.tick_adds.rights the_bus.kept.1.0;
    tick_kept = the_bus.kept.1.0;
    tick_origin = tick_origin;
    lanes = the_bus.lanes;
    refused = the_bus.refused;
    ended = side_ended;
  }

-- where there was no crew: the first seat was parted, and its parts were joined as they were
module _ (begun last pipe tick : SeatView) (seats : List SeatView) (first : begun ≡ first_seat begun.bus begun.origin) (parts : seats ≡ parted begun lane_rights)
    (pipe_is : pipe ≡ pipe_seat_of begun) (tick_is : tick ≡ tick_seat_of begun) (joins : JoinsAll (rest_of begun) (pipe ∷ tick ∷ seats) last) where
  idle_new : EachNew begun (pipe_seat_of begun ∷ tick_seat_of begun ∷ [])
  idle_new = further_new begun lane_rights further first

  idle_bus : BusIdle begun last lane_rights further (pipe ∷ tick ∷ [])
  idle_bus = bus_idle begun last lane_rights further (pipe ∷ tick ∷ []) seats first parts (subst (IsNew begun) (sym pipe_is) idle_new.0, (subst (IsNew begun) (sym tick_is) idle_new.1.0, tt)) joins

  idle_rights : last.rights ≡ all_rights
  idle_rights =
      let pipe_has : pipe.rights ≡ to_pipe = ap (λ (s : SeatView). s.rights) pipe_is in
      let tick_has : tick.rights ≡ ticker_rights = ap (λ (s : SeatView). s.rights) tick_is in
      idle_bus.rights_are (to_pipe ∷ ticker_rights ∷ []) (ap (λ (r : Rights). r ∷ tick.rights ∷ []) pipe_has ∙ ap (λ (r : Rights). to_pipe ∷ r ∷ []) tick_has) rights_unite

  pub side_idle : IsBack begun last × (last.seen ≡ [])
  side_idle = (record { bus = idle_bus.bus; origin = idle_bus.origin; rights = idle_rights; room = idle_bus.room_is refl (let k = lane_count in omega (arith, k)); sees = idle_bus.sees }, idle_bus.nothing)
