-- The result of a run before the bus is closed: the theorems about its bus, its log's writer and its clock together.
use Rattle.std.proofs.Common.{◌≡◌, ◌+◌, ℕ, List, [], ◌∷◌, ◌++◌, map, length, Bool, true, false, ◌||◌, Option, Some, None, refl, sym, ap, ◌∙◌, subst, inl, inr, ⊎_elim, append_assoc, append-nil, arith}
use Rattle.std.specs.List.{All, list_any}
use Rattle.tb_edge.specs.Ends.{InletView, ClockView}
use Rattle.tb_edge.specs.Faults.{Rose}
use Rattle.tb_edge.specs.Sinks.{WritesPrefix}
use Rattle.tb_edge.specs.Jobs.{AllDone}
use Rattle.tb_edge.specs.declared.given.Taken.{Taken}
use Rattle.tb_log.specs.LogText.{log_text, log_text_from}
use Rattle.tb_log.specs.declared.entry.Entry.{Entry}
use Rattle.tb_core.specs.Cores.{CoreState}
use Rattle.tb_lock.specs.declared.rights.Rights.{Rights}
use Rattle.tb_lock.specs.Rights.{Ticks as ToTick, all_rights, no_rights, has, ticker_rights}
use Rattle.tb_lock.specs.Seats.{SeatView, first_seat, kept_of, handed_on, most_seats}
use Rattle.tb_lock.specs.Calls.{Closes}
use Rattle.tb_write.specs.Writers.{WriterView}
use Rattle.tb_run.specs.declared.ends.WorkEnd.{WorkEnd}
use Rattle.tb_run.specs.declared.ends.WorkEnd.TheVariants as end
use Rattle.tb_run.specs.declared.ends.LogEnd.{LogEnd}
use Rattle.tb_run.specs.declared.ends.LogEnd.TheVariants as log
use Rattle.tb_run.specs.declared.worker.Work.{Work}
use Rattle.tb_run.specs.declared.worker.Work.TheVariants.{Steps}
use Rattle.tb_run.specs.Jobs.{HasRight}
use Rattle.tb_run.specs.Joining.{JoinsAll}
use Rattle.tb_run.specs.Logging.{LogDone, Logged}
use Rattle.tb_run.specs.Moving.{readers, writers, inlets_of, outlets_of}
use Rattle.tb_run.specs.Outcomes.{IsDone, TellsFirst}
use Rattle.tb_run.specs.Refusals.{WasRefused}
use Rattle.tb_run.specs.Views.{OutsideView, views}
use Rattle.tb_run.specs.Parting.{parted, left_after}
use Rattle.tb_run.specs.Parts.{job_rights}
use Rattle.tb_run.specs.Reasons.{reason_of, of_log, of_clock, is_no_memory, is_full_end}
use Rattle.tb_run.specs.Running.{ComesTo, HasCome, HasRun, IsPut, IsStopped, PutsPrefix}
use Rattle.tb_run.specs.Seats.{Adds}
use Rattle.tb_run.specs.Workers.{ClockFaults, TicksBus, TickerEnds, bus_of}
use Rattle.tb_run.proofs.BusLemmas.{BusCame, BusEnded, bus_came, further_new}
use Rattle.tb_run.proofs.ClockLemmas.{clock_ran, clock_refused, clock_stopped, TickerWhole}
use Rattle.tb_run.proofs.EndLemmas.{CameToEnd, NoneRefused}
use Rattle.tb_run.proofs.JoinLemmas.{FirstLaw, SecondLaw}
use Rattle.tb_run.proofs.LogLemmas.{text_append}
use Rattle.tb_run.proofs.PartLemmas.{job_count, rights_unite}
use Rattle.tb_run.proofs.RunLemmas.{Done}
use Rattle.tb_run.proofs.TraceLemmas.{DownLaw, EmptyLaw}
use Rattle.tb_run.proofs.WorkedLemmas.{EachNew, IsNew, Worked}

-- what was written is a prefix of the text of a longer log
pub prefix_more : (put_old put_new : Option (List ℕ)) (seen more : List Entry) → WritesPrefix put_old put_new (log_text seen) → WritesPrefix put_old put_new (log_text (seen ++ more))
prefix_more put_old put_new seen more p =
    let after : List ℕ = log_text_from (1 + length seen) more in
    record {
      rest = p.rest ++ after;
      owes = record {
        put = p.owes.put;
        takes = p.owes.takes;
        is_all = sym (append_assoc p.owes.put p.rest after) ∙ (ap (λ (t : List ℕ). t ++ after) p.owes.is_all ∙ sym (text_append 1 seen more));
      };
    }

pub prefix_of_put : (log : List Entry) (writer : WriterView) (put_old put_new : Option (List ℕ)) (faults_old faults_new : ℕ) → IsPut log writer put_old put_new faults_old faults_new → WritesPrefix put_old put_new (log_text log)
prefix_of_put log writer put_old put_new faults_old faults_new p =
    subst (λ (l : List Entry). WritesPrefix put_old put_new (log_text l)) (sym p.is)
    (prefix_more put_old put_new p.written p.rest (record { rest = []; owes = record { put = log_text p.written; takes = p.put; is_all = append-nil (log_text p.written) } }))

-- What the functions of a run say of its parts.
pub record Course {X I O : Type 0} (seat : X → SeatView) (ended : X → WorkEnd) (work : X → Work I O) (gave : I → Option InletView) (fails : I → ℕ) (took : O → Option (List Taken)) (faults : O → ℕ)
    (most : ℕ) (begun last : SeatView) (is is_new : List I) (os os_new : List O) (xs ys : List X) (tick_begun tick_done log_begun log_done : SeatView) (tick_end : WorkEnd) (log_end : LogEnd)
    (clock_old clock_new : Option ClockView) (clock_faults_old clock_faults_new : ℕ) (put_old put_new : Option (List ℕ)) (out_faults_old out_faults_new : ℕ) (writer : WriterView) : Type 0 where
  pub first : begun ≡ first_seat begun.bus begun.origin
  pub seats : map seat xs ≡ parted begun job_rights
  pub works : map work xs ≡ readers 1 is ++ (writers 1 os ++ Steps ∷ [])
  pub rights : All (λ (x : X). HasRight (seat x) (work x)) xs
  pub done : AllDone (Done seat ended work gave fails took faults) xs ys
  pub tick_is : tick_begun ≡ handed_on ticker_rights (left_after begun job_rights)
  pub log_is : log_begun ≡ handed_on no_rights (kept_of ticker_rights (left_after begun job_rights))
  pub ticks : TicksBus (λ count. count ≡ most) most tick_begun tick_done clock_old clock_new clock_faults_old clock_faults_new tick_end
  pub logs : LogDone log_begun log_done writer put_old put_new out_faults_old out_faults_new log_end
  pub joins : JoinsAll (kept_of no_rights (kept_of ticker_rights (left_after begun job_rights))) (log_done ∷ tick_done ∷ map seat ys) last
  pub inlets : is_new ≡ inlets_of (map work ys)
  pub outlets : os_new ≡ outlets_of (map work ys)
  pub lanes : length os ≡ 16
  pub count : length is ≡ length os

pub logs_add : (begun done : SeatView) (writer : WriterView) (put_old put_new : Option (List ℕ)) (f g : ℕ) (it : LogEnd) → LogDone begun done writer put_old put_new f g it → Adds begun done []
logs_add begun done writer put_old put_new f g log.Over d = d.adds
logs_add begun done writer put_old put_new f g log.Out d = d.0.adds
logs_add begun done writer put_old put_new f g log.NoMemory d = d.0.adds

module _ (first_law : FirstLaw) (second_law : SecondLaw) (down_law : DownLaw) (empty_law : EmptyLaw)
    {X I O : Type 0} (seat : X → SeatView) (ended : X → WorkEnd) (work : X → Work I O) (gave : I → Option InletView) (fails : I → ℕ) (took : O → Option (List Taken)) (faults : O → ℕ)
    (most : ℕ) (begun last : SeatView) (is is_new : List I) (os os_new : List O) (xs ys : List X) (tick_begun tick_done log_begun log_done : SeatView) (tick_end : WorkEnd) (log_end : LogEnd)
    (clock_old clock_new : Option ClockView) (clock_faults_old clock_faults_new : ℕ) (put_old put_new : Option (List ℕ)) (out_faults_old out_faults_new : ℕ) (writer : WriterView)
    (crew_faults_old crew_faults_new : ℕ)
    (c : Course seat ended work gave fails took faults most begun last is is_new os os_new xs ys tick_begun tick_done log_begun log_done tick_end log_end clock_old clock_new clock_faults_old clock_faults_new put_old put_new out_faults_old out_faults_new writer) where
  abbrev Before : OutsideView
  Before = record { lanes = views gave fails took faults is os; clock = clock_old; clock_faults = clock_faults_old; crew_faults = crew_faults_old; put = put_old; out_faults = out_faults_old }

  abbrev After : OutsideView
  After = record { lanes = views gave fails took faults is_new os_new; clock = clock_new; clock_faults = clock_faults_new; crew_faults = crew_faults_new; put = put_new; out_faults = out_faults_new }

  -- the seats that were passed on in addition to those of the workers of the lanes
  abbrev further : List Rights
  further = ticker_rights ∷ no_rights ∷ []

  further_are_new : EachNew begun (handed_on ticker_rights (left_after begun job_rights) ∷ handed_on no_rights (kept_of ticker_rights (left_after begun job_rights)) ∷ [])
  further_are_new = further_new begun job_rights further c.first

  tick_new : IsNew begun tick_begun
  tick_new = subst (IsNew begun) (sym c.tick_is) further_are_new.0

  log_new : IsNew begun log_begun
  log_new = subst (IsNew begun) (sym c.log_is) further_are_new.1.0

  abbrev ticker : Worked begun
  ticker = record { begun = tick_begun; done = tick_done; new = tick_new; more = c.ticks.first ++ c.ticks.tail; adds = c.ticks.adds; end = Some tick_end; marks = c.ticks.marks }

  abbrev logger : Worked begun
  logger = record { begun = log_begun; done = log_done; new = log_new; more = []; adds = logs_add log_begun log_done writer put_old put_new out_faults_old out_faults_new log_end c.logs; end = None; marks = tt }

  abbrev asides : List (Worked begun)
  asides = logger ∷ ticker ∷ []

  -- the bus alone
  the_bus : BusCame seat ended work gave fails took faults 1 begun last job_rights further asides is is_new os os_new xs ys
  the_bus = bus_came first_law second_law down_law empty_law seat ended work gave fails took faults 1 begun last job_rights further asides is is_new os os_new xs ys
      (record { first = c.first; seats = c.seats; works = c.works; fit = c.rights; done = c.done; joins = c.joins; inlets = c.inlets; outlets = c.outlets; count = c.count })

  rights : last.rights ≡ all_rights
  rights =
      let log_has : log_begun.rights ≡ no_rights = ap (λ (s : SeatView). s.rights) c.log_is in
      let tick_has : tick_begun.rights ≡ ticker_rights = ap (λ (s : SeatView). s.rights) c.tick_is in
      the_bus.rights_are (no_rights ∷ ticker_rights ∷ [])
      (ap (λ (r : Rights). r ∷ tick_begun.rights ∷ []) log_has ∙ ap (λ (r : Rights). no_rights ∷ r ∷ []) tick_has) rights_unite

  room : last.room ≡ most_seats
  room = the_bus.room_is refl (let k = job_count in let two : length further ≡ 2 = refl in let most : most_seats ≡ 64 = refl in omega (arith, k, two, most))

  -- the clock
  tick_right : has tick_begun.rights ToTick ≡ true
  tick_right = ap (λ (s : SeatView). has s.rights ToTick) c.tick_is

  stopped : IsStopped most last.seen Before After
  stopped = record {
    lanes = the_bus.lanes;
    clock = clock_stopped most tick_begun tick_done last clock_old clock_new clock_faults_old clock_faults_new tick_end c.ticks tick_right tick_new.seen the_bus.kept.1.0;
  }

  -- if no call was refused
  module _ (logged : Logged log_begun log_done writer put_old put_new out_faults_old out_faults_new) (none : NoneRefused (tick_end ∷ map ended ys)) (core : CoreState) (closes : Closes last core) where
    the_end : BusEnded gave fails took faults 1 begun last asides is is_new os os_new (map ended ys)
    the_end = the_bus.to_end (logged.called, (tt, tt)) none core closes

    ticker_whole : (Failed : Type 0) → (tick_end ≡ end.Failed → Rose clock_faults_old clock_faults_new → Failed) → (it : WorkEnd) → tick_end ≡ it → CameToEnd it →
        TickerWhole most tick_begun tick_done last clock_old clock_new clock_faults_old clock_faults_new tick_end c.ticks tick_right tick_new.seen the_bus.kept.1.0 Failed it
    ticker_whole Failed fails end.Over e h = tt
    ticker_whole Failed fails end.Down e h = tt
    ticker_whole Failed fails end.Failed e h = fails e
    ticker_whole Failed fails end.Stopped e h = absurd h
    ticker_whole Failed fails end.Full e h = absurd h
    ticker_whole Failed fails end.NoMemory e h = absurd h

    bus_done : IsDone (bus_of last)
    bus_done = record { down = the_end.down; empty = λ lane is. the_end.empty lane is is.0 (let n = c.lanes in let high = is.1 in omega arith) }

    has_run : (Failed : Type 0) → (tick_end ≡ end.Failed → Rose clock_faults_old clock_faults_new → Failed) → HasRun most Failed last Before After
    has_run Failed failing = record {
      lanes = the_end.lanes;
      clock = clock_ran most tick_begun tick_done last clock_old clock_new clock_faults_old clock_faults_new tick_end c.ticks tick_right tick_new.seen the_bus.kept.1.0 Failed (ticker_whole Failed failing tick_end refl the_end.asides_came.1.0);
      done = bus_done;
    }

  -- what was written
  is_put : Logged log_begun log_done writer put_old put_new out_faults_old out_faults_new → IsPut last.seen writer put_old put_new out_faults_old out_faults_new
  is_put l = record {
    written = l.written;
    rest = l.rest ++ the_bus.kept.0.rest;
    is = the_bus.kept.0.begins ∙ (ap (λ (s : List Entry). s ++ the_bus.kept.0.rest) l.seen ∙ append_assoc l.written l.rest the_bus.kept.0.rest);
    so_many = l.so_many;
    held = l.held;
    put = l.put;
    calm = l.calm;
  }

  puts_part : WritesPrefix put_old put_new (log_text log_done.seen) → PutsPrefix last.seen Before After
  puts_part p = subst (λ (l : List Entry). WritesPrefix put_old put_new (log_text l)) (sym the_bus.kept.0.begins) (prefix_more put_old put_new log_done.seen the_bus.kept.0.rest p)

  puts_some : Logged log_begun log_done writer put_old put_new out_faults_old out_faults_new → PutsPrefix last.seen Before After
  puts_some l = prefix_of_put last.seen writer put_old put_new out_faults_old out_faults_new (is_put l)

  abbrev TickerEndsOf : WorkEnd → Type 0
  TickerEndsOf it =
      TickerEnds (λ count. count ≡ most)
      (record { old = tick_begun; new = tick_done; faults_old = clock_faults_old; faults_new = clock_faults_new; count = length c.ticks.first; last = c.ticks.last; tail = c.ticks.tail; ended = c.ticks.ended }) it

  -- a call was refused because the log was full
  refused_one : list_any is_full_end (tick_end ∷ map ended ys) ≡ true → WasRefused most Before After last.origin last.seen
  refused_one e = go tick_end refl c.ticks.ends e
    where
      others : list_any is_full_end (map ended ys) ≡ true → WasRefused most Before After last.origin last.seen
      others h = ⊎_elim (λ lane. inl lane) (λ step. inr (inr (inr step))) (the_bus.refused h)

      go : (it : WorkEnd) → tick_end ≡ it → TickerEndsOf it → (is_full_end it || list_any is_full_end (map ended ys)) ≡ true → WasRefused most Before After last.origin last.seen
      go end.Full is t h =
          ⊎_elim (λ tick. inr (inl tick)) (λ none. inr (inr (inl none)))
          (clock_refused most tick_begun tick_done last clock_old clock_new clock_faults_old clock_faults_new tick_end c.ticks tick_right tick_new.seen the_bus.kept.1.0 is (c.ticks.adds.origin ∙ (tick_new.origin ∙ sym the_bus.origin)) t)
      go end.Over is t h = others h
      go end.Down is t h = others h
      go end.Stopped is t h = others h
      go end.Failed is t h = others h
      go end.NoMemory is t h = others h

  of_tick : Logged log_begun log_done writer put_old put_new out_faults_old out_faults_new → NoneRefused (tick_end ∷ map ended ys) → (it : WorkEnd) → tick_end ≡ it → TickerEndsOf it → ComesTo most Before After last writer (of_clock it)
  of_tick l none end.Over e t = (is_put l, stopped, λ core closes. has_run l none core closes ⊥ (λ f r. let no : end.Over ≡ end.Failed = sym e ∙ f in absurd (let b : ⊥ = cc in b)))
  of_tick l none end.Down e t = (is_put l, stopped, λ core closes. has_run l none core closes ⊥ (λ f r. let no : end.Down ≡ end.Failed = sym e ∙ f in absurd (let b : ⊥ = cc in b)))
  of_tick l none end.Stopped e t = (is_put l, stopped, λ core closes. has_run l none core closes ⊥ (λ f r. let no : end.Stopped ≡ end.Failed = sym e ∙ f in absurd (let b : ⊥ = cc in b)))
  of_tick l none end.Full e t = (is_put l, stopped, λ core closes. has_run l none core closes ⊥ (λ f r. let no : end.Full ≡ end.Failed = sym e ∙ f in absurd (let b : ⊥ = cc in b)))
  of_tick l none end.NoMemory e t = (is_put l, stopped, λ core closes. has_run l none core closes ⊥ (λ f r. let no : end.NoMemory ≡ end.Failed = sym e ∙ f in absurd (let b : ⊥ = cc in b)))
  of_tick l none end.Failed e t = (is_put l, stopped, λ core closes. has_run l none core closes (Rose clock_faults_old clock_faults_new) (λ f r. r), t.1)

  outcome : (m f : Bool) → list_any is_no_memory (tick_end ∷ map ended ys) ≡ m → list_any is_full_end (tick_end ∷ map ended ys) ≡ f → (it : LogEnd) → LogDone log_begun log_done writer put_old put_new out_faults_old out_faults_new it → ComesTo most Before After last writer (of_log m f tick_end it)
  outcome true f me fe log.Over d = (puts_some d, stopped)
  outcome false true me fe log.Over d = (is_put d, stopped, refused_one fe)
  outcome false false me fe log.Over d = of_tick d (me, fe) tick_end refl c.ticks.ends
  outcome true f me fe log.Out d = (puts_part d.1, stopped)
  outcome false f me fe log.Out d = (puts_part d.1, stopped, d.2)
  outcome m f me fe log.NoMemory d = (puts_part d.1, stopped)

  -- the first reason, where the crew did the jobs
  module _ (calm : crew_faults_new ≡ crew_faults_old) (core : CoreState) (closes : Closes last core) where
    first_by_clock : Logged log_begun log_done writer put_old put_new out_faults_old out_faults_new → (it : WorkEnd) → CameToEnd it → ClockFaults clock_faults_old clock_faults_new it → TellsFirst Before After (of_clock it)
    first_by_clock l end.Over h f = (calm, l.calm, f)
    first_by_clock l end.Down h f = (calm, l.calm, f)
    first_by_clock l end.Failed h f = (calm, l.calm, f)
    first_by_clock l end.Stopped h f = absurd h
    first_by_clock l end.Full h f = absurd h
    first_by_clock l end.NoMemory h f = absurd h

    first : (m f : Bool) → list_any is_no_memory (tick_end ∷ map ended ys) ≡ m → list_any is_full_end (tick_end ∷ map ended ys) ≡ f → (it : LogEnd) → LogDone log_begun log_done writer put_old put_new out_faults_old out_faults_new it → TellsFirst Before After (of_log m f tick_end it)
    first true f me fe log.Over d = tt
    first false true me fe log.Over d = (calm, d.calm)
    first false false me fe log.Over d = first_by_clock d tick_end (the_end d (me, fe) core closes).asides_came.1.0 c.ticks.faults
    first true f me fe log.Out d = tt
    first false f me fe log.Out d = (calm, d.2)
    first m f me fe log.NoMemory d = tt

  pub come : crew_faults_new ≡ crew_faults_old → HasCome most Before After begun last writer (reason_of tick_end (map ended ys) log_end)
  come calm = record {
    bus = the_bus.bus;
    origin = the_bus.origin;
    rights = rights;
    room = room;
    sees = the_bus.sees;
    outcome = outcome (list_any is_no_memory (tick_end ∷ map ended ys)) (list_any is_full_end (tick_end ∷ map ended ys)) refl refl log_end c.logs;
    first = λ core closes. first calm core closes (list_any is_no_memory (tick_end ∷ map ended ys)) (list_any is_full_end (tick_end ∷ map ended ys)) refl refl log_end c.logs;
  }
