-- A run that didn't begin: nothing was logged, and the environment is unchanged.
use Rattle.std.proofs.Common.{◌≡◌, ◌≤◌, ◌+◌, ℕ, List, [], ◌∷◌, ◌++◌, length, false, Option, refl, sym, ap, ◌∙◌, subst, inl, arith}
use Rattle.std.specs.Prelude.{IsTrue}
use Rattle.std.specs.List.{list_all}
use Rattle.tb_edge.specs.Ends.{ClockView}
use Rattle.tb_edge.specs.Faults.{Rose}
use Rattle.tb_edge.specs.Sinks.{WritesPrefix}
use Rattle.tb_log.specs.LogText.{log_text}
use Rattle.tb_log.specs.Proper.{is_proper_entry}
use Rattle.tb_log.specs.declared.entry.Entry.{Entry}
use Rattle.tb_core.specs.Cores.{CoreState}
use Rattle.tb_lock.specs.declared.rights.Rights.{Rights}
use Rattle.tb_lock.specs.Rights.{all_rights, no_rights, ticker_rights}
use Rattle.tb_lock.specs.Seats.{SeatView, first_seat, kept_of, handed_on, most_seats}
use Rattle.tb_lock.proofs.HistoryLemmas.{sparse_nil}
use Rattle.tb_write.specs.Writers.{WriterView}
use Rattle.tb_run.specs.declared.ends.RunWhy.{RunWhy}
use Rattle.tb_run.specs.declared.ends.RunWhy.TheVariants as why
use Rattle.tb_run.specs.declared.worker.Work.{Work}
use Rattle.tb_run.specs.Clocks.{ClockStopped}
use Rattle.tb_run.specs.Joining.{JoinsAll}
use Rattle.tb_run.specs.Moving.{readers, writers, inlets_of, outlets_of}
use Rattle.tb_run.specs.Outcomes.{LaneStopped, IsRunOf, Runs, TellsFirst}
use Rattle.tb_run.specs.Views.{EachLane, LaneView, OutsideView}
use Rattle.tb_run.specs.Parting.{parted, left_after}
use Rattle.tb_run.specs.Parts.{job_rights}
use Rattle.tb_run.specs.Running.{ComesTo, HasCome, IsStopped, FailsFor}
use Rattle.tb_run.proofs.BusLemmas.{BusIdle, bus_idle, further_new}
use Rattle.tb_run.proofs.LogLemmas.{prefix_none}
use Rattle.tb_run.proofs.PartLemmas.{job_count, rights_unite}
use Rattle.tb_run.proofs.ReadLemmas.{and_given_none}
use Rattle.tb_run.proofs.WorkedLemmas.{EachNew, IsNew, sees_nothing}
use Rattle.tb_run.proofs.TickLemmas.{ticked_none}
use Rattle.tb_run.proofs.WriteLemmas.{and_taken_none}

-- a lane that nothing has happened to
lane_same : (lane : ℕ) (view : LaneView) → LaneStopped [] lane view view
lane_same lane view = record {
  fed = [];
  last = [];
  over = false;
  gave = sym (and_given_none view.gave);
  lines = tt;
  one = omega arith;
  whole = λ over. refl;
  put = [];
  lost = [];
  handed = refl;
  took = sym (and_taken_none view.took);
  one_lost = omega arith;
  failed = inl refl;
  cuts = inl (omega arith);
}

lanes_same : (lane : ℕ) (views : List LaneView) → EachLane (LaneStopped []) lane views views
lanes_same lane [] = tt
lanes_same lane (view ∷ views) = (lane_same lane view, lanes_same (lane + 1) views)

clock_same : (most : ℕ) (clock : Option ClockView) (Failed : Type 0) → ClockStopped [] most clock clock Failed
clock_same most clock Failed = record {
  last = 0;
  ended = false;
  told = sym (ticked_none clock);
  one = omega arith;
  whole = λ e. refl;
  within = omega arith;
  time = record { first = []; tail = []; is = refl; ticks = tt; last = inl refl };
  why = inl refl;
}

pub nothing_stopped : (most : ℕ) (old new : OutsideView) → new.lanes ≡ old.lanes → new.clock ≡ old.clock → IsStopped most [] old new
nothing_stopped most old new lanes clock = record {
  lanes = subst (EachLane (LaneStopped []) 1 old.lanes) (sym lanes) (lanes_same 1 old.lanes);
  clock = subst (λ (o : Option ClockView). ClockStopped [] most old.clock o (Rose old.clock_faults new.clock_faults)) (sym clock) (clock_same most old.clock (Rose old.clock_faults new.clock_faults));
}

pub nothing_put : (old new : OutsideView) → new.put ≡ old.put → WritesPrefix old.put new.put (log_text [])
nothing_put old new e = subst (λ (o : Option (List ℕ)). WritesPrefix old.put o (log_text [])) (sym e) (prefix_none old.put (log_text []))

-- a core that is returned as it was
pub unbegun : (most : ℕ) (outside : OutsideView) (core : CoreState) → core.log ≡ [] → Runs most outside outside core.origin core why.NoMemory
unbegun most outside core none =
    let st = nothing_stopped most outside outside refl refl in
    record {
      origin_is = refl;
      history = subst (IsRunOf core.origin) (sym none) (record { trace = tt; sparse = sparse_nil });
      proper = subst (λ (l : List Entry). IsTrue (list_all is_proper_entry l)) (sym none) refl;
      within = subst (λ (l : List Entry). length l ≤ core.origin.limit) (sym none) (let z : length {A = Entry} [] ≤ core.origin.limit = omega arith in z);
      outcome = subst (λ (l : List Entry). WritesPrefix outside.put outside.put (log_text l) × EachLane (LaneStopped l) 1 outside.lanes outside.lanes × ClockStopped l most outside.clock outside.clock (Rose outside.clock_faults outside.clock_faults)) (sym none)
          (nothing_put outside outside refl, st.lanes, st.clock);
      first = tt;
    }

-- a seat that was not parted
pub unparted : (most : ℕ) (outside : OutsideView) (begun : SeatView) (writer : WriterView) → begun ≡ first_seat begun.bus begun.origin → HasCome most outside outside begun begun writer why.NoMemory
unparted most outside begun writer first =
    let seen : begun.seen ≡ [] = ap (λ (s : SeatView). s.seen) first in
    record {
      bus = refl;
      origin = refl;
      rights = ap (λ (s : SeatView). s.rights) first;
      room = ap (λ (s : SeatView). s.room) first;
      sees = sees_nothing begun seen;
      outcome = subst (λ (l : List Entry). WritesPrefix outside.put outside.put (log_text l) × IsStopped most l outside outside) (sym seen) (nothing_put outside outside refl, nothing_stopped most outside outside refl refl);
      first = λ core closes. tt;
    }

-- where there was no crew: the first seat was parted, and its parts were joined as they were
module _ (most : ℕ) (old new : OutsideView) (begun last tick log : SeatView) (seats : List SeatView) (writer : WriterView) (w : RunWhy)
    (first : begun ≡ first_seat begun.bus begun.origin) (parts : seats ≡ parted begun job_rights)
    (tick_is : tick ≡ handed_on ticker_rights (left_after begun job_rights)) (log_is : log ≡ handed_on no_rights (kept_of ticker_rights (left_after begun job_rights)))
    (joins : JoinsAll (kept_of no_rights (kept_of ticker_rights (left_after begun job_rights))) (log ∷ tick ∷ seats) last)
    (lanes : new.lanes ≡ old.lanes) (clock : new.clock ≡ old.clock) (put : new.put ≡ old.put) (fails : FailsFor w old.crew_faults new.crew_faults)
    (clock_calm : new.clock_faults ≡ old.clock_faults) (out_calm : new.out_faults ≡ old.out_faults) where
  abbrev further : List Rights
  further = ticker_rights ∷ no_rights ∷ []

  further_are_new : EachNew begun (handed_on ticker_rights (left_after begun job_rights) ∷ handed_on no_rights (kept_of ticker_rights (left_after begun job_rights)) ∷ [])
  further_are_new = further_new begun job_rights further first

  the_bus : BusIdle begun last job_rights further (log ∷ tick ∷ [])
  the_bus = bus_idle begun last job_rights further (log ∷ tick ∷ []) seats first parts (subst (IsNew begun) (sym log_is) further_are_new.1.0, (subst (IsNew begun) (sym tick_is) further_are_new.0, tt)) joins

  rights : last.rights ≡ all_rights
  rights =
      let log_has : log.rights ≡ no_rights = ap (λ (s : SeatView). s.rights) log_is in
      let tick_has : tick.rights ≡ ticker_rights = ap (λ (s : SeatView). s.rights) tick_is in
      the_bus.rights_are (no_rights ∷ ticker_rights ∷ []) (ap (λ (r : Rights). r ∷ tick.rights ∷ []) log_has ∙ ap (λ (r : Rights). no_rights ∷ r ∷ []) tick_has) rights_unite

  outcome : (v : RunWhy) → FailsFor v old.crew_faults new.crew_faults → ComesTo most old new last writer v
  outcome why.Crew f = (put, lanes, clock, the_bus.nothing, f)
  outcome why.NoMemory f =
      subst (λ (l : List Entry). WritesPrefix old.put new.put (log_text l) × IsStopped most l old new) (sym the_bus.nothing) (nothing_put old new put, nothing_stopped most old new lanes clock)
  outcome why.Ended f = absurd f
  outcome why.Clock f = absurd f
  outcome why.Out f = absurd f
  outcome why.Events f = absurd f

  first_reason : (v : RunWhy) → FailsFor v old.crew_faults new.crew_faults → TellsFirst old new v
  first_reason why.Crew f = (f, out_calm, clock_calm)
  first_reason why.NoMemory f = tt
  first_reason why.Ended f = absurd f
  first_reason why.Clock f = absurd f
  first_reason why.Out f = absurd f
  first_reason why.Events f = absurd f

  pub uncrewed : HasCome most old new begun last writer w
  uncrewed = record {
    bus = the_bus.bus;
    origin = the_bus.origin;
    rights = rights;
    room = the_bus.room_is refl (let k = job_count in let two : length further ≡ 2 = refl in let most : most_seats ≡ 64 = refl in omega (arith, k, two, most));
    sees = the_bus.sees;
    outcome = outcome w fails;
    first = λ core closes. first_reason w fails;
  }

-- the ends of the lanes are in the works in order
pub works_inlets : {I O : Type 0} (lane : ℕ) (is : List I) (rest : List (Work I O)) → inlets_of (readers lane is ++ rest) ≡ is ++ inlets_of rest
works_inlets lane [] rest = refl
works_inlets {I} lane (i ∷ is) rest = ap (λ (s : List I). i ∷ s) (works_inlets (lane + 1) is rest)

pub readers_outlets : {I O : Type 0} (lane : ℕ) (is : List I) (rest : List (Work I O)) → outlets_of (readers lane is ++ rest) ≡ outlets_of rest
readers_outlets lane [] rest = refl
readers_outlets lane (i ∷ is) rest = readers_outlets (lane + 1) is rest

pub writers_inlets : {I O : Type 0} (lane : ℕ) (os : List O) (rest : List (Work I O)) → inlets_of (writers lane os ++ rest) ≡ inlets_of rest
writers_inlets lane [] rest = refl
writers_inlets lane (o ∷ os) rest = writers_inlets (lane + 1) os rest

pub works_outlets : {I O : Type 0} (lane : ℕ) (os : List O) (rest : List (Work I O)) → outlets_of (writers lane os ++ rest) ≡ os ++ outlets_of rest
works_outlets lane [] rest = refl
works_outlets {I} {O} lane (o ∷ os) rest = ap (λ (s : List O). o ∷ s) (works_outlets (lane + 1) os rest)
