-- What a pair comes to, from what the functions of its run say of their parts.
use Rattle.std.proofs.Common.{◌≡◌, ℕ, List, [], ◌∷◌, ◌++◌, map, length, Option, Some, None, MatchOption, sym, ap, ◌∙◌, subst}
use Rattle.std.specs.List.{All}
use Rattle.atomic_table.specs.Seated.{TableId}
use Rattle.tb_edge.specs.Ends.{InletView, ClockView}
use Rattle.tb_edge.specs.Jobs.{AllDone}
use Rattle.tb_edge.specs.declared.given.Taken.{Taken}
use Rattle.tb_lock.specs.Seats.{SeatView, first_seat}
use Rattle.tb_run.specs.declared.ends.WorkEnd.{WorkEnd}
use Rattle.tb_run.specs.declared.ends.RunWhy.{RunWhy}
use Rattle.tb_run.specs.declared.worker.Work.{Work}
use Rattle.tb_run.specs.declared.worker.Work.TheVariants.{Steps}
use Rattle.tb_run.specs.Jobs.{HasRight}
use Rattle.tb_run.specs.Joining.{JoinsAll}
use Rattle.tb_run.specs.Moving.{readers, writers, inlets_of, outlets_of}
use Rattle.tb_run.specs.Parting.{parted}
use Rattle.tb_run.specs.Running.{FailsFor}
use Rattle.tb_run.specs.Views.{views}
use Rattle.tb_run.proofs.JoinLemmas.{FirstLaw, SecondLaw}
use Rattle.tb_run.proofs.LimitLemmas.{LaterLaw}
use Rattle.tb_run.proofs.RunLemmas.{Done}
use Rattle.tb_run.proofs.TraceLemmas.{DownLaw, EmptyLaw}
use Rattle.tb_run.proofs.WorkLemmas.{inlets_works, outlets_works}
use Rattle.tb_pair.specs.declared.piece.Piece.{Piece}
use Rattle.tb_pair.specs.Jobs.{CanServe}
use Rattle.tb_pair.specs.Ticking.{CanTick, TicksPair}
use Rattle.tb_pair.specs.Workers.{ReadsPipe, WritesPipe}
use Rattle.tb_pair_run.specs.Helpers.Parts.{lane_rights, pipe_seat_of, tick_seat_of, rest_of}
use Rattle.tb_pair_run.specs.Helpers.Reasons.{bus_why, no_crew, pair_why}
use Rattle.tb_pair_run.specs.Helpers.Running.{HasCome}
use Rattle.tb_pair_run.specs.Views.{PairView, pair_of}
use Rattle.tb_pair_run.specs.declared.ends.PairWhy.{PairWhy}
use Rattle.tb_pair_run.proofs.CameLemmas.{come}
use Rattle.tb_pair_run.proofs.IdleLemmas.{uncrewed}
use Rattle.tb_pair_run.proofs.SideLemmas.{side_came, side_idle}

-- one bus as it was begun, and as its seats became one again
pub record SideFacts {X I O : Type 0} (seat : X → SeatView) (work : X → Work I O) (begun last : SeatView) (is is_new : List I) (os os_new : List O) (xs ys : List X) (pipe_begun pipe_done tick_begun tick_done : SeatView) : Type 0 where
  pub first : begun ≡ first_seat begun.bus begun.origin
  pub seats : map seat xs ≡ parted begun lane_rights
  pub works : map work xs ≡ readers 2 is ++ (writers 2 os ++ Steps ∷ [])
  pub fit : All (λ (x : X). HasRight (seat x) (work x)) xs
  pub pipe_is : pipe_begun ≡ pipe_seat_of begun
  pub tick_is : tick_begun ≡ tick_seat_of begun
  pub joins : JoinsAll (rest_of begun) (pipe_done ∷ tick_done ∷ map seat ys) last
  pub inlets : is_new ≡ inlets_of (map work ys)
  pub outlets : os_new ≡ outlets_of (map work ys)
  pub ins : length is ≡ 15
  pub outs : length os ≡ 15

-- what was done
pub record AllWorked {X I O : Type 0} (seat : X → SeatView) (ended : X → WorkEnd) (work : X → Work I O) (gave : I → Option InletView) (fails : I → ℕ) (took : O → Option (List Taken)) (faults : O → ℕ)
    (most : ℕ) (clock clock' : Option ClockView) (clock_faults clock_faults' : ℕ) (xs ys : List X) (pipe_begun pipe_done tick_begun tick_done : SeatView) (writer tick : WorkEnd)
    (others_xs others_ys : List X) (others_pipe_begun others_pipe_done others_tick_begun others_tick_done : SeatView) (reader others_tick : WorkEnd) (sent got : List Piece) : Type 0 where
  pub wrote : WritesPipe pipe_begun pipe_done [] sent writer
  pub read : ReadsPipe others_pipe_begun others_pipe_done [] got reader
  pub worked : AllDone (Done seat ended work gave fails took faults) xs ys
  pub others_worked : AllDone (Done seat ended work gave fails took faults) others_xs others_ys
  pub ticks : TicksPair most tick_begun tick_done others_tick_begun others_tick_done clock clock' clock_faults clock_faults' tick others_tick

-- nothing was done
pub record NoneWorked {X : Type 0} (clock clock' : Option ClockView) (crew crew' : ℕ) (xs ys : List X) (pipe_begun pipe_done tick_begun tick_done : SeatView) (others_xs others_ys : List X) (others_pipe_begun others_pipe_done others_tick_begun others_tick_done : SeatView) (w : RunWhy) : Type 0 where
  pub fails_for : FailsFor w crew crew'
  pub writes_same : pipe_done ≡ pipe_begun
  pub reads_same : others_pipe_done ≡ others_pipe_begun
  pub workers_same : ys ≡ xs
  pub others_same : others_ys ≡ others_xs
  pub tick_same : tick_done ≡ tick_begun
  pub others_tick_same : others_tick_done ≡ others_tick_begun
  pub clock_same : clock' ≡ clock

module _ (first_law : FirstLaw) (second_law : SecondLaw) (down_law : DownLaw) (empty_law : EmptyLaw) (later : LaterLaw)
    {X I O : Type 0} (seat : X → SeatView) (ended : X → WorkEnd) (work : X → Work I O) (gave : I → Option InletView) (fails : I → ℕ) (took : O → Option (List Taken)) (faults : O → ℕ)
    (most : ℕ) (clock clock' : Option ClockView) (clock_faults clock_faults' crew crew' : ℕ) (failed : Option RunWhy) (it : PairWhy) (one_bus others_bus : TableId)
    (begun last : SeatView) (is is_new : List I) (os os_new : List O) (xs ys : List X) (pipe_begun pipe_done tick_begun tick_done : SeatView) (writer tick : WorkEnd)
    (others_begun others_last : SeatView) (others_is others_is_new : List I) (others_os others_os_new : List O) (others_xs others_ys : List X) (others_pipe_begun others_pipe_done others_tick_begun others_tick_done : SeatView) (reader others_tick : WorkEnd)
    (sent got known : List Piece)
    (one : SideFacts seat work begun last is is_new os os_new xs ys pipe_begun pipe_done tick_begun tick_done)
    (other : SideFacts seat work others_begun others_last others_is others_is_new others_os others_os_new others_xs others_ys others_pipe_begun others_pipe_done others_tick_begun others_tick_done)
    (can : CanServe one_bus pipe_begun) (others_can : CanServe others_bus others_pipe_begun) (can_tick : CanTick one_bus tick_begun) (others_can_tick : CanTick others_bus others_tick_begun) (met : got ++ known ≡ sent) where
  abbrev AllOf : Type 0
  AllOf = AllWorked seat ended work gave fails took faults most clock clock' clock_faults clock_faults' xs ys pipe_begun pipe_done tick_begun tick_done writer tick others_xs others_ys others_pipe_begun others_pipe_done others_tick_begun others_tick_done reader others_tick sent got

  abbrev NoneOf : RunWhy → Type 0
  NoneOf w = NoneWorked clock clock' crew crew' xs ys pipe_begun pipe_done tick_begun tick_done others_xs others_ys others_pipe_begun others_pipe_done others_tick_begun others_tick_done w

  abbrev pub Before : PairView
  Before = pair_of (views gave fails took faults is os) (views gave fails took faults others_is others_os) clock clock_faults crew

  abbrev pub After : PairView
  After = pair_of (views gave fails took faults is_new os_new) (views gave fails took faults others_is_new others_os_new) clock' clock_faults' crew'

  by_crew : AllOf → crew' ≡ crew → HasCome most Before After begun last others_begun others_last (pair_why (bus_why writer tick (map ended ys)) (bus_why reader others_tick (map ended others_ys)) tick others_tick)
  by_crew d calm =
      come later most (views gave fails took faults is os) (views gave fails took faults is_new os_new) (views gave fails took faults others_is others_os) (views gave fails took faults others_is_new others_os_new)
      clock clock' clock_faults clock_faults' crew crew' begun last pipe_begun pipe_done tick_begun tick_done writer tick (map ended ys)
      others_begun others_last others_pipe_begun others_pipe_done others_tick_begun others_tick_done reader others_tick (map ended others_ys) sent got known one_bus others_bus
      (record {
        one = side_came first_law second_law down_law empty_law seat ended work gave fails took faults begun last is is_new os os_new xs ys pipe_begun pipe_done tick_begun tick_done d.wrote.more (d.ticks.first.first ++ d.ticks.first.tail) writer tick
            (record { first = one.first; seats = one.seats; works = one.works; fit = one.fit; done = d.worked; pipe_is = one.pipe_is; tick_is = one.tick_is; pipe_adds = d.wrote.goes.adds; pipe_marks = d.wrote.marks; tick_adds = d.ticks.first.adds; tick_marks = d.ticks.first.marks; joins = one.joins; inlets = one.inlets; outlets = one.outlets; ins = one.ins; outs = one.outs });
        other = side_came first_law second_law down_law empty_law seat ended work gave fails took faults others_begun others_last others_is others_is_new others_os others_os_new others_xs others_ys others_pipe_begun others_pipe_done others_tick_begun others_tick_done d.read.more (d.ticks.second.first ++ d.ticks.second.tail) reader others_tick
            (record { first = other.first; seats = other.seats; works = other.works; fit = other.fit; done = d.others_worked; pipe_is = other.pipe_is; tick_is = other.tick_is; pipe_adds = d.read.goes.adds; pipe_marks = d.read.marks; tick_adds = d.ticks.second.adds; tick_marks = d.ticks.second.marks; joins = other.joins; inlets = other.inlets; outlets = other.outlets; ins = other.ins; outs = other.outs });
        wrote = d.wrote;
        read = d.read;
        met = met;
        ticks_are = d.ticks;
        can = can;
        others_can = others_can;
        can_tick = can_tick;
        others_can_tick = others_can_tick;
      })
      calm

  same_views : (js js' : List I) (ps ps' : List O) → js' ≡ js → ps' ≡ ps → views gave fails took faults js' ps' ≡ views gave fails took faults js ps
  same_views js js' ps ps' e f = ap (λ (s : List I). views gave fails took faults s ps') e ∙ ap (λ (s : List O). views gave fails took faults js s) f

  by_none : (w : RunWhy) → NoneOf w → clock_faults' ≡ clock_faults → HasCome most Before After begun last others_begun others_last (no_crew w)
  by_none w n calm =
      let i : is_new ≡ is = one.inlets ∙ (ap (λ (zs : List X). inlets_of (map work zs)) n.workers_same ∙ (ap (λ (ws : List (Work I O)). inlets_of ws) one.works ∙ inlets_works 2 is os)) in
      let o : os_new ≡ os = one.outlets ∙ (ap (λ (zs : List X). outlets_of (map work zs)) n.workers_same ∙ (ap (λ (ws : List (Work I O)). outlets_of ws) one.works ∙ outlets_works 2 is os)) in
      let j : others_is_new ≡ others_is = other.inlets ∙ (ap (λ (zs : List X). inlets_of (map work zs)) n.others_same ∙ (ap (λ (ws : List (Work I O)). inlets_of ws) other.works ∙ inlets_works 2 others_is others_os)) in
      let p : others_os_new ≡ others_os = other.outlets ∙ (ap (λ (zs : List X). outlets_of (map work zs)) n.others_same ∙ (ap (λ (ws : List (Work I O)). outlets_of ws) other.works ∙ outlets_works 2 others_is others_os)) in
      let first = side_idle begun last pipe_done tick_done (map seat ys) one.first (ap (map seat) n.workers_same ∙ one.seats) (n.writes_same ∙ one.pipe_is) (n.tick_same ∙ one.tick_is) one.joins in
      let second = side_idle others_begun others_last others_pipe_done others_tick_done (map seat others_ys) other.first (ap (map seat) n.others_same ∙ other.seats) (n.reads_same ∙ other.pipe_is) (n.others_tick_same ∙ other.tick_is) other.joins in
      uncrewed most (views gave fails took faults is os) (views gave fails took faults is_new os_new) (views gave fails took faults others_is others_os) (views gave fails took faults others_is_new others_os_new)
      clock clock' clock_faults clock_faults' crew crew' (same_views is is_new os os_new i o) (same_views others_is others_is_new others_os others_os_new j p) n.clock_same begun last others_begun others_last first.0 second.0 first.1 second.1 w n.fails_for calm

  pub pair_has_come : MatchOption failed AllOf NoneOf → MatchOption failed (crew' ≡ crew) (λ w. clock_faults' ≡ clock_faults)
      → MatchOption failed (it ≡ pair_why (bus_why writer tick (map ended ys)) (bus_why reader others_tick (map ended others_ys)) tick others_tick) (λ w. it ≡ no_crew w) → HasCome most Before After begun last others_begun others_last it
  pair_has_come m calm why = go failed m calm why
    where
      go : (o : Option RunWhy) → MatchOption o AllOf NoneOf → MatchOption o (crew' ≡ crew) (λ w. clock_faults' ≡ clock_faults)
          → MatchOption o (it ≡ pair_why (bus_why writer tick (map ended ys)) (bus_why reader others_tick (map ended others_ys)) tick others_tick) (λ w. it ≡ no_crew w) → HasCome most Before After begun last others_begun others_last it
      go None m calm why = subst (HasCome most Before After begun last others_begun others_last) (sym why) (by_crew m calm)
      go (Some w) m calm why = subst (HasCome most Before After begun last others_begun others_last) (sym why) (by_none w m calm)
