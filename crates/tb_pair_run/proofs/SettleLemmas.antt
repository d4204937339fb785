-- What the seats and the workers of a pair are, when they begin and when they have come back.
use Rattle.std.proofs.Common.{◌≡◌, ◌+◌, ℕ, List, [], ◌∷◌, ◌++◌, map, length, Option, Some, None, MatchOption, refl, sym, ap, ◌∙◌, subst}
use Rattle.std.specs.List.{All}
use Rattle.rtrb.specs.Ring.{IsPair, received, sent}
use Rattle.rtrb.specs.declared.consumer.Consumer.{Consumer}
use Rattle.rtrb.specs.declared.producer.Producer.{Producer}
use Rattle.atomic_table.specs.Seated.{TableId}
use Rattle.tb_edge.specs.Ends.{InletView, ClockView}
use Rattle.tb_edge.specs.declared.given.Taken.{Taken}
use Rattle.tb_lock.specs.Rights.{In, Out as Outs, has, Ticks as ToTick}
use Rattle.tb_lock.specs.Seats.{SeatView, first_seat}
use Rattle.tb_run.specs.declared.ends.WorkEnd.{WorkEnd}
use Rattle.tb_run.specs.declared.ends.RunWhy.{RunWhy}
use Rattle.tb_run.specs.declared.worker.Work.{Work}
use Rattle.tb_run.specs.declared.worker.Work.TheVariants.{Steps}
use Rattle.tb_run.specs.Moving.{readers, writers, inlets_of, outlets_of}
use Rattle.tb_run.specs.Parting.{parted}
use Rattle.tb_run.specs.Running.{FailsFor}
use Rattle.tb_run.proofs.PartLemmas.{left_bus}
use Rattle.tb_run.proofs.RunLemmas.{Done}
use Rattle.tb_run.proofs.WorkLemmas.{CanGatherLanes, lanes_done, lanes_same}
use Rattle.tb_pair.specs.declared.job.PipeReading.{PipeReading}
use Rattle.tb_pair.specs.declared.job.PipeWriting.{PipeWriting}
use Rattle.tb_pair.specs.declared.piece.Piece.{Piece}
use Rattle.tb_pair.specs.Jobs.{CanServe}
use Rattle.tb_pair.specs.Ticking.{CanTick, TicksPair}
use Rattle.tb_pair.specs.Workers.{ReadsPipe, WritesPipe}
use Rattle.tb_pair.proofs.PartLemmas.{pipe_in, pipe_out}
use Rattle.tb_pair.proofs.RingLemmas.{pair_stays}
use Rattle.tb_pair_run.specs.Helpers.Parts.{lane_rights, pipe_seat_of, tick_seat_of, rest_of}
use Rattle.tb_pair_run.specs.Helpers.Running.{CanFinish}
use Rattle.tb_pair_run.specs.Helpers.Teams.{TeamDone, TeamSame}
use Rattle.tb_pair_run.proofs.RunLemmas.{AllWorked, NoneWorked}

module _ (bus : TableId) (begun seat : SeatView) (first : begun ≡ first_seat bus begun.origin) where
  pub can_serve : seat ≡ pipe_seat_of begun → CanServe bus seat
  can_serve e = record {
    own = ap (λ (s : SeatView). s.bus) e ∙ (left_bus begun lane_rights ∙ ap (λ (s : SeatView). s.bus) first);
    reads = ap (λ (s : SeatView). has s.rights (In 1)) e ∙ pipe_in;
    writes = ap (λ (s : SeatView). has s.rights (Outs 1)) e ∙ pipe_out;
  }

  pub can_tick : seat ≡ tick_seat_of begun → CanTick bus seat
  can_tick e = record { own = ap (λ (s : SeatView). s.bus) e ∙ (left_bus begun lane_rights ∙ ap (λ (s : SeatView). s.bus) first); right = ap (λ (s : SeatView). has s.rights ToTick) e }

  pub rest_bus : seat ≡ rest_of begun → seat.bus ≡ bus
  rest_bus e = ap (λ (s : SeatView). s.bus) e ∙ (left_bus begun lane_rights ∙ ap (λ (s : SeatView). s.bus) first)

  pub first_so : begun ≡ first_seat begun.bus begun.origin
  first_so = first ∙ ap (λ (b : TableId). first_seat b begun.origin) (sym (ap (λ (s : SeatView). s.bus) first))

-- a bus may be finished whose workers have come back
pub record MayFinish {X I O : Type 0} (seat : X → SeatView) (work : X → Work I O) (bus : TableId) (home pipe tick : SeatView) (ys : List X) : Type 0 where
  pub can : CanFinish bus home pipe tick (length ys) (length (inlets_of (map work ys))) (length (outlets_of (map work ys)))
  pub buses : All (λ (x : X). (seat x).bus ≡ bus) ys

module _ {X I O : Type 0} (seat : X → SeatView) (ended : X → WorkEnd) (work : X → Work I O) (gave : I → Option InletView) (fails : I → ℕ) (took : O → Option (List Taken)) (faults : O → ℕ)
    (bus : TableId) (begun home : SeatView) (is : List I) (os : List O) (xs ys : List X) (pipe tick : SeatView)
    (first : begun ≡ first_seat bus begun.origin) (seats : map seat xs ≡ parted begun lane_rights) (works : map work xs ≡ readers 2 is ++ (writers 2 os ++ Steps ∷ [])) (ins : length is ≡ 15) (outs : length os ≡ 15)
    (home_is : home ≡ rest_of begun) (pipe_bus : pipe.bus ≡ bus) (tick_bus : tick.bus ≡ bus) where
  may_finish : CanGatherLanes seat ended work gave fails took faults begun.bus 15 ys → MayFinish seat work bus home pipe tick ys
  may_finish g = record {
    can = record { own = rest_bus bus begun home first home_is; pipe_own = pipe_bus; tick_own = tick_bus; workers_are = g.count; inlets_are = g.inlets; outlets_are = g.outlets };
    buses = subst (λ (b : TableId). All (λ (x : X). (seat x).bus ≡ b) ys) (ap (λ (s : SeatView). s.bus) first) g.buses;
  }

module _ {W Plan Walked X I O : Type 0} (seat : X → SeatView) (ended : X → WorkEnd) (work : X → Work I O) (gave : I → Option InletView) (fails : I → ℕ) (took : O → Option (List Taken)) (faults : O → ℕ)
    (most : ℕ) (clock clock' : Option ClockView) (clock_faults clock_faults' crew crew' : ℕ)
    (bus : TableId) (begun home : SeatView) (is : List I) (os : List O) (xs ys : List X) (tick_begun tick_done : SeatView)
    (others_bus : TableId) (others_begun others_home : SeatView) (others_is : List I) (others_os : List O) (others_xs others_ys : List X) (others_tick_begun others_tick_done : SeatView)
    (writing writing' : PipeWriting W Plan Walked) (reading reading' : PipeReading W Plan Walked) (tick others_tick : WorkEnd)
    (first : begun ≡ first_seat bus begun.origin) (seats : map seat xs ≡ parted begun lane_rights) (works : map work xs ≡ readers 2 is ++ (writers 2 os ++ Steps ∷ [])) (ins : length is ≡ 15) (outs : length os ≡ 15) (home_is : home ≡ rest_of begun)
    (others_first : others_begun ≡ first_seat others_bus others_begun.origin) (others_seats : map seat others_xs ≡ parted others_begun lane_rights) (others_works : map work others_xs ≡ readers 2 others_is ++ (writers 2 others_os ++ Steps ∷ []))
    (others_ins : length others_is ≡ 15) (others_outs : length others_os ≡ 15) (others_home_is : others_home ≡ rest_of others_begun)
    (writing_is : writing.seat ≡ pipe_seat_of begun) (tick_is : tick_begun ≡ tick_seat_of begun) (reading_is : reading.seat ≡ pipe_seat_of others_begun) (others_tick_is : others_tick_begun ≡ tick_seat_of others_begun)
    (pair : IsPair writing.pipe.end reading.pipe.end) (none_sent : sent writing.pipe.end ≡ []) (none_got : received reading.pipe.end ≡ []) where
  -- the crew did the jobs
  abbrev pub CrewDid : Type 0
  CrewDid =
      TeamDone (Done seat ended work gave fails took faults) writing writing' reading reading' xs ys others_xs others_ys
      × TicksPair most tick_begun tick_done others_tick_begun others_tick_done clock clock' clock_faults clock_faults' tick others_tick

  -- there was none
  abbrev pub CrewFailed : RunWhy → Type 0
  CrewFailed w =
      FailsFor w crew crew' × TeamSame writing writing' reading reading' xs ys others_xs others_ys × ((tick_done ≡ tick_begun) × (others_tick_done ≡ others_tick_begun) × (clock' ≡ clock))

  -- what settling both buses needs, and what is known of all
  pub record CameBack (failed : Option RunWhy) : Type 0 where
    pub one : MayFinish seat work bus home writing'.seat tick_done ys
    pub other : MayFinish seat work others_bus others_home reading'.seat others_tick_done others_ys
    pub ends : IsPair writing'.pipe.end reading'.pipe.end
    pub all :
        MatchOption failed
        (AllWorked seat ended work gave fails took faults most clock clock' clock_faults clock_faults' xs ys writing.seat writing'.seat tick_begun tick_done writing'.end tick others_xs others_ys reading.seat reading'.seat others_tick_begun others_tick_done reading'.end others_tick (sent writing'.pipe.end) (received reading'.pipe.end))
        (NoneWorked clock clock' crew crew' xs ys writing.seat writing'.seat tick_begun tick_done others_xs others_ys reading.seat reading'.seat others_tick_begun others_tick_done)

  same_bus : begun.bus ≡ bus
  same_bus = ap (λ (s : SeatView). s.bus) first

  others_same_bus : others_begun.bus ≡ others_bus
  others_same_bus = ap (λ (s : SeatView). s.bus) others_first

  writing_bus : writing.seat.bus ≡ bus
  writing_bus = (can_serve bus begun writing.seat first writing_is).own

  reading_bus : reading.seat.bus ≡ others_bus
  reading_bus = (can_serve others_bus others_begun reading.seat others_first reading_is).own

  tick_bus : tick_begun.bus ≡ bus
  tick_bus = (can_tick bus begun tick_begun first tick_is).own

  others_tick_bus : others_tick_begun.bus ≡ others_bus
  others_tick_bus = (can_tick others_bus others_begun others_tick_begun others_first others_tick_is).own

  pub came_back : (failed : Option RunWhy) → MatchOption failed CrewDid CrewFailed → CameBack failed
  came_back None m =
      let d = m.0 in
      let t = m.1 in
      record {
        one = may_finish seat ended work gave fails took faults bus begun home is os xs ys writing'.seat tick_done first seats works ins outs home_is (d.wrote.wrote.goes.adds.bus ∙ writing_bus) (t.first.adds.bus ∙ tick_bus)
            (lanes_done seat ended work gave fails took faults begun lane_rights 2 15 is os xs ys (first_so bus begun begun first) seats works ins outs d.worked);
        other = may_finish seat ended work gave fails took faults others_bus others_begun others_home others_is others_os others_xs others_ys reading'.seat others_tick_done others_first others_seats others_works others_ins others_outs others_home_is (d.read.read.goes.adds.bus ∙ reading_bus) (t.second.adds.bus ∙ others_tick_bus)
            (lanes_done seat ended work gave fails took faults others_begun lane_rights 2 15 others_is others_os others_xs others_ys (first_so others_bus others_begun others_begun others_first) others_seats others_works others_ins others_outs d.others_worked);
        ends = pair_stays writing.pipe.end writing'.pipe.end reading.pipe.end reading'.pipe.end pair d.wrote.ring d.read.ring;
        all = record {
          wrote = subst (λ (s : List Piece). WritesPipe writing.seat writing'.seat s (sent writing'.pipe.end) writing'.end) none_sent d.wrote.wrote;
          read = subst (λ (s : List Piece). ReadsPipe reading.seat reading'.seat s (received reading'.pipe.end) reading'.end) none_got d.read.read;
          worked = d.worked;
          others_worked = d.others_worked;
          ticks = t;
        };
      }
  came_back (Some w) m =
      let n = m.1 in
      let ws : writing'.seat ≡ writing.seat = ap (λ (j : PipeWriting W Plan Walked). j.seat) n.writes_same in
      let rs : reading'.seat ≡ reading.seat = ap (λ (j : PipeReading W Plan Walked). j.seat) n.reads_same in
      record {
        one = may_finish seat ended work gave fails took faults bus begun home is os xs ys writing'.seat tick_done first seats works ins outs home_is (ap (λ (s : SeatView). s.bus) ws ∙ writing_bus) (ap (λ (s : SeatView). s.bus) m.2.0 ∙ tick_bus)
            (lanes_same seat ended work gave fails took faults begun lane_rights 2 15 is os xs ys (first_so bus begun begun first) seats works ins outs n.workers_same);
        other = may_finish seat ended work gave fails took faults others_bus others_begun others_home others_is others_os others_xs others_ys reading'.seat others_tick_done others_first others_seats others_works others_ins others_outs others_home_is (ap (λ (s : SeatView). s.bus) rs ∙ reading_bus) (ap (λ (s : SeatView). s.bus) m.2.1 ∙ others_tick_bus)
            (lanes_same seat ended work gave fails took faults others_begun lane_rights 2 15 others_is others_os others_xs others_ys (first_so others_bus others_begun others_begun others_first) others_seats others_works others_ins others_outs n.others_same);
        ends = subst (λ (j : PipeWriting W Plan Walked). IsPair j.pipe.end reading'.pipe.end) (sym n.writes_same) (subst (λ (j : PipeReading W Plan Walked). IsPair writing.pipe.end j.pipe.end) (sym n.reads_same) pair);
        all = record {
          fails_for = m.0;
          writes_same = ws;
          reads_same = rs;
          workers_same = n.workers_same;
          others_same = n.others_same;
          tick_same = m.2.0;
          others_tick_same = m.2.1;
          clock_same = m.2.2;
        };
      }
