-- The result of a run after its bus was closed and the rest of the log was written.
use Rattle.std.proofs.Common.{◌≡◌, ◌≤◌, ◌+◌, ◌⊎◌, ℕ, List, ◌++◌, length, drop, Option, sym, ap, ◌∙◌, subst, inl, inr, append_assoc, length-append, arith}
use Rattle.std.specs.Prelude.{IsTrue}
use Rattle.std.specs.List.{list_all}
use Rattle.tb_edge.specs.Ends.{ClockView}
use Rattle.tb_edge.specs.Faults.{Rose}
use Rattle.tb_edge.specs.Sinks.{Writes, WritesPrefix, and_more}
use Rattle.tb_log.specs.LogText.{log_text, log_text_from}
use Rattle.tb_log.specs.Proper.{is_proper_entry}
use Rattle.tb_log.specs.declared.entry.Entry.{Entry}
use Rattle.tb_bus.specs.declared.origin.Origin.{Origin}
use Rattle.tb_core.specs.Cores.{CoreState}
use Rattle.tb_lock.specs.Seats.{SeatView}
use Rattle.tb_lock.specs.Calls.{Closes}
use Rattle.tb_write.specs.Writers.{WriterView}
use Rattle.tb_run.specs.declared.ends.RunWhy.{RunWhy}
use Rattle.tb_run.specs.declared.ends.RunWhy.TheVariants as why
use Rattle.tb_run.specs.Outcomes.{IsRunOf, RunOutcome, Runs, TellsFirst}
use Rattle.tb_run.specs.Views.{LaneView, OutsideView}
use Rattle.tb_run.specs.Running.{ComesTo, GoesToRest, HasCome, IsAfterRest, IsPut, IsStopped, rest_text}
use Rattle.tb_run.specs.Seats.{SeesTrace}
use Rattle.tb_run.proofs.LimitLemmas.{LaterLaw, full_at_limit, was_full}
use Rattle.tb_run.proofs.LogLemmas.{drop_after, more_on, text_append}

-- the rest of a log may be written
pub may_rest : (most : ℕ) (old new : OutsideView) (seat : SeatView) (writer : WriterView) (it : RunWhy) → ComesTo most old new seat writer it → GoesToRest seat.seen writer it
may_rest most old new seat writer why.Ended c = (c.0.held, let n = length-append c.0.written c.0.rest in let e = ap length c.0.is in let m = c.0.so_many in omega (arith, n, e, m))
may_rest most old new seat writer why.Clock c = (c.0.held, let n = length-append c.0.written c.0.rest in let e = ap length c.0.is in let m = c.0.so_many in omega (arith, n, e, m))
may_rest most old new seat writer why.Events c = (c.0.held, let n = length-append c.0.written c.0.rest in let e = ap length c.0.is in let m = c.0.so_many in omega (arith, n, e, m))
may_rest most old new seat writer why.Out c = tt
may_rest most old new seat writer why.NoMemory c = tt
may_rest most old new seat writer why.Crew c = tt

module _ (seen : List Entry) (writer : WriterView) (put_old put_mid put_new : Option (List ℕ)) (faults_old faults_mid faults_new : ℕ) (p : IsPut seen writer put_old put_mid faults_old faults_mid) where
  rest_is : rest_text seen writer ≡ log_text_from (1 + length p.written) p.rest
  rest_is =
      let dropped : drop writer.written seen ≡ p.rest =
      ap (drop writer.written) p.is ∙ (ap (λ (n : ℕ). drop n (p.written ++ p.rest)) (sym p.so_many) ∙ drop_after p.written p.rest) in
      let number : writer.written + 1 ≡ 1 + length p.written = (let m = p.so_many in omega (arith, m)) in
      ap (λ (l : List Entry). log_text_from (writer.written + 1) l) dropped ∙ ap (λ (n : ℕ). log_text_from n p.rest) number

  text_is : log_text p.written ++ rest_text seen writer ≡ log_text seen
  text_is = ap (λ (t : List ℕ). log_text p.written ++ t) rest_is ∙ (sym (text_append 1 p.written p.rest) ∙ ap log_text (sym p.is))

  pub all_put : Writes put_mid put_new (rest_text seen writer) → Writes put_old put_new (log_text seen)
  all_put w =
      w ∙ (ap (λ (o : Option (List ℕ)). and_more o (rest_text seen writer)) p.put ∙ (more_on put_old (log_text p.written) (rest_text seen writer) ∙ ap (and_more put_old) text_is))

  pub some_put : WritesPrefix put_mid put_new (rest_text seen writer) → WritesPrefix put_old put_new (log_text seen)
  some_put w = record {
    rest = w.rest;
    owes = record {
      put = log_text p.written ++ w.owes.put;
      takes = w.owes.takes ∙ (ap (λ (o : Option (List ℕ)). and_more o w.owes.put) p.put ∙ more_on put_old (log_text p.written) w.owes.put);
      is_all = append_assoc (log_text p.written) w.owes.put w.rest ∙ (ap (λ (t : List ℕ). log_text p.written ++ t) w.owes.is_all ∙ text_is);
    };
  }

  pub rose_since : Rose faults_mid faults_new → Rose faults_old faults_new
  rose_since (inl up) = inl (let same = p.calm in omega (arith, same, up))
  rose_since (inr top) = inr top

module _ (law : LaterLaw) (most : ℕ) (old : OutsideView) (lanes : List LaneView) (clock : Option ClockView) (clock_faults crew_faults : ℕ) (put_mid put_new : Option (List ℕ)) (faults_mid faults_new : ℕ)
    (begun seat : SeatView) (writer : WriterView) (core : CoreState) (closes : Closes seat core) (within : length core.log ≤ core.origin.limit)
    (proper : IsTrue (list_all is_proper_entry core.log)) where
  abbrev Mid : OutsideView
  Mid = record { lanes = lanes; clock = clock; clock_faults = clock_faults; crew_faults = crew_faults; put = put_mid; out_faults = faults_mid }

  abbrev New : OutsideView
  New = record { lanes = lanes; clock = clock; clock_faults = clock_faults; crew_faults = crew_faults; put = put_new; out_faults = faults_new }

  -- the core as the seat knows it
  abbrev Known : CoreState
  Known = record { origin = seat.origin; log = seat.seen; stopped = core.stopped; spare = core.spare }

  known : (P : CoreState → Type 0) → P Known → P core
  known P p =
      let one : P (record { origin = core.origin; log = seat.seen; stopped = core.stopped; spare = core.spare }) =
      subst (λ (o : Origin). P (record { origin = o; log = seat.seen; stopped = core.stopped; spare = core.spare })) (sym closes.origin) p in
      subst (λ (l : List Entry). P (record { origin = core.origin; log = l; stopped = core.stopped; spare = core.spare })) (sym closes.log) one

  few : length seat.seen ≤ seat.origin.limit
  few = subst (λ (l : List Entry). length l ≤ seat.origin.limit) closes.log (subst (λ (o : Origin). length core.log ≤ o.limit) closes.origin within)

  by_sink : (it : RunWhy) → IsPut seat.seen writer old.put put_mid old.out_faults faults_mid → IsStopped most seat.seen old Mid →
      ((it ≡ why.Out) × WritesPrefix put_mid put_new (rest_text seat.seen writer) × Rose faults_mid faults_new) ⊎ ((it ≡ why.NoMemory) × WritesPrefix put_mid put_new (rest_text seat.seen writer)) →
      RunOutcome most old New Known it
  by_sink it p st (inl e) =
      subst (RunOutcome most old New Known) (sym e.0)
      (some_put seat.seen writer old.put put_mid put_new old.out_faults faults_mid faults_new p e.1, st.lanes, st.clock, rose_since seat.seen writer old.put put_mid put_new old.out_faults faults_mid faults_new p e.2)
  by_sink it p st (inr e) = subst (RunOutcome most old New Known) (sym e.0) (some_put seat.seen writer old.put put_mid put_new old.out_faults faults_mid faults_new p e.1, st.lanes, st.clock)

  outcome : (w it : RunWhy) → SeesTrace seat → ComesTo most old Mid seat writer w → IsAfterRest seat.seen writer w it put_mid put_new faults_mid faults_new → RunOutcome most old New Known it
  outcome why.Ended it sees c (inr e) = by_sink it c.0 c.1 e
  outcome why.Ended it sees c (inl e) =
      let run = c.2 core closes in
      subst (RunOutcome most old New Known) (sym e.0) (all_put seat.seen writer old.put put_mid put_new old.out_faults faults_mid faults_new c.0 e.1, run.lanes, run.clock, run.done)
  outcome why.Clock it sees c (inr e) = by_sink it c.0 c.1 e
  outcome why.Clock it sees c (inl e) =
      let run = c.2 core closes in
      subst (RunOutcome most old New Known) (sym e.0) (all_put seat.seen writer old.put put_mid put_new old.out_faults faults_mid faults_new c.0 e.1, run.lanes, run.clock, run.done, c.3)
  outcome why.Events it sees c (inr e) = by_sink it c.0 c.1 e
  outcome why.Events it sees c (inl e) =
      subst (RunOutcome most old New Known) (sym e.0)
      (all_put seat.seen writer old.put put_mid put_new old.out_faults faults_mid faults_new c.0 e.1, c.1.lanes, c.1.clock, full_at_limit law seat.origin seat.seen sees.trace (was_full most old Mid seat.origin seat.seen c.2) few, c.2)
  outcome why.Out it sees c e =
      subst (RunOutcome most old New Known) (sym e.0) (
        subst (λ (o : Option (List ℕ)). WritesPrefix old.put o (log_text seat.seen)) (sym e.1) c.0,
        c.1.lanes,
        c.1.clock,
        subst (λ (n : ℕ). Rose old.out_faults n) (sym e.2) c.2,
      )
  outcome why.NoMemory it sees c e =
      subst (RunOutcome most old New Known) (sym e.0) (subst (λ (o : Option (List ℕ)). WritesPrefix old.put o (log_text seat.seen)) (sym e.1) c.0, c.1.lanes, c.1.clock)
  outcome why.Crew it sees c e = subst (RunOutcome most old New Known) (sym e.0) (e.1 ∙ c.0, c.1, c.2, c.3, c.4)

  -- the first reason
  first_by_sink : (it : RunWhy) → crew_faults ≡ old.crew_faults → faults_mid ≡ old.out_faults →
      ((it ≡ why.Out) × WritesPrefix put_mid put_new (rest_text seat.seen writer) × Rose faults_mid faults_new) ⊎ ((it ≡ why.NoMemory) × WritesPrefix put_mid put_new (rest_text seat.seen writer)) →
      TellsFirst old New it
  first_by_sink it crew same (inl e) = subst (TellsFirst old New) (sym e.0) (crew, subst (λ (n : ℕ). Rose n faults_new) same e.2)
  first_by_sink it crew same (inr e) = subst (TellsFirst old New) (sym e.0) tt

  first : (w it : RunWhy) → TellsFirst old Mid w → IsAfterRest seat.seen writer w it put_mid put_new faults_mid faults_new → TellsFirst old New it
  first why.Ended it t (inr e) = first_by_sink it t.0 t.1 e
  first why.Ended it t (inl e) = subst (TellsFirst old New) (sym e.0) (t.0, e.2 ∙ t.1, t.2)
  first why.Clock it t (inr e) = first_by_sink it t.0 t.1 e
  first why.Clock it t (inl e) = subst (TellsFirst old New) (sym e.0) (t.0, e.2 ∙ t.1, t.2)
  first why.Events it t (inr e) = first_by_sink it t.0 t.1 e
  first why.Events it t (inl e) = subst (TellsFirst old New) (sym e.0) (t.0, e.2 ∙ t.1)
  first why.Out it t e = subst (TellsFirst old New) (sym e.0) (t.0, subst (λ (n : ℕ). Rose old.out_faults n) (sym e.2) t.1)
  first why.NoMemory it t e = subst (TellsFirst old New) (sym e.0) tt
  first why.Crew it t e = subst (TellsFirst old New) (sym e.0) (t.0, e.2 ∙ t.1, t.2)

  pub closed : (w it : RunWhy) → HasCome most old Mid begun seat writer w → IsAfterRest core.log writer w it put_mid put_new faults_mid faults_new → Runs most old New begun.origin core it
  closed w it come after = record {
    origin_is = closes.origin ∙ come.origin;
    history = known (λ (k : CoreState). IsRunOf k.origin k.log) (record { trace = come.sees.trace; sparse = come.sees.sparse });
    proper = proper;
    within = within;
    outcome = known (λ (k : CoreState). RunOutcome most old New k it)
        (outcome w it come.sees come.outcome (subst (λ (l : List Entry). IsAfterRest l writer w it put_mid put_new faults_mid faults_new) closes.log after));
    first = first w it (come.first core closes) (subst (λ (l : List Entry). IsAfterRest l writer w it put_mid put_new faults_mid faults_new) closes.log after);
  }
