-- The outcome of a command has its headline.
use Rattle.std.proofs.Common.{◌≡◌, ◌≤◌, ◌<◌, ◌^◌, ℕ, List, Option, Result, Ok, Err, refl, ap, inl, inr, arith}
use Rattle.tb_cli.specs.declared.command.Command.{Command}
use Rattle.tb_cli.specs.declared.command.Command.TheVariants as command
use Rattle.tb_cli.specs.declared.fault.WordFault.{WordFault}
use Rattle.tb_cli.specs.Table.{IsWithin}
use Rattle.tb_cli.specs.Words.{asked}
use Rattle.tb_cli.proofs.Ranges.{asked-within}
use Rattle.tb_bus.specs.Buses.{start}
use Rattle.tb_bus.specs.Traces.{replay}
use Rattle.tb_edge.specs.Faults.{Rose}
use Rattle.tb_edge.specs.Sinks.{Writes}
use Rattle.tb_headline.specs.Words.{EndsTicks, HasCutCause, Heard, IsReadToEnd, Ticked, Took}
use Rattle.tb_headline.proofs.Clocks.{ran-ends, ran-over, ran-ticked, stopped-ends, stopped-ticked}
use Rattle.tb_headline.proofs.Entries.{idle-at_quiet, one-text, shut_down-by_step}
use Rattle.tb_headline.proofs.Lanes.{each-weaker, ran-cuts, ran-heard, ran-read, ran-took, stopped-cuts, stopped-heard, stopped-took}
use Rattle.tb_log.specs.LogText.{log_text}
use Rattle.tb_log.specs.declared.entry.Entry.{Entry}
use Rattle.tb_run.specs.Clocks.{ClockRan, ClockStopped}
use Rattle.tb_run.specs.Outcomes.{IsDone, LaneRan, LaneStopped}
use Rattle.tb_run.specs.Views.{EachLane, OutsideView}
use Rattle.tb_run.specs.declared.ends.RunWhy.{RunWhy}
use Rattle.tb_run.specs.declared.ends.RunWhy.TheVariants as why
use Rattle.tb_sim.specs.Simulation.{limits_of, sim_start}
use Rattle.tb_sim.specs.declared.ends.SimEnd.{SimEnd}
use Rattle.tb_sim.proofs.SimTraces.{one-sim}
use Rattle.tb_top.specs.Headline.{CompleteRun, RunHeadline, RunLog}
use Rattle.tb_top.specs.Headlines.{HasHeadline}
use Rattle.tb_top.specs.Outcomes.{CommandOutcome, Comes}
use Rattle.tb_top.specs.Reporting.{Reported}
use Rattle.tb_top.specs.Run.{IsRun, IsUntouched, LiveOutcome, RunRequest}
use Rattle.tb_top.specs.RunCalls.{ClockFailed, NothingHappened, RunCall}
use Rattle.tb_top.specs.Sim.{IsSimOf, PutsLog, PutsPrefix, Request, SimOutcome, origin_for}
use Rattle.tb_top.specs.SimHeadline.{SimHeadline, SimLog, WritesLog, WritesPart}
use Rattle.tb_top.specs.Views.{Seen}
use Rattle.tb_top.specs.declared.fault.Fault.{Fault}
use Rattle.tb_top.specs.declared.fault.Fault.TheVariants.{Script, Feed, Words, File, Out, Clock, Crew, Limit, NoMemory, Log, Stranger}
use Rattle.tb_top.specs.declared.status.Status.{Status}
use Rattle.tb_top.specs.declared.status.Bound.TheVariants as bound
use Rattle.tb_top.proofs.OneLog.{run-log, sim-log}
use Rattle.tb_top.proofs.SparseSims.{sparse-sim}

few-entries : (events : ℕ) → events ≤ 4000000 → events < 2 ^ 64
few-entries events few = omega (arith, few)

-- A run.
module _ (held : List ℕ → Option (List ℕ)) (request : RunRequest) (old new : OutsideView) (few : request.events ≤ 4000000) where
  abbrev call : RunCall
  call = record { told = held request.script; request = request; old = old; new = new }

  abbrev log-of : (missing : ℕ) (Failed : Type 0) (it : RunWhy) (run : IsRun held request old new it) → EachLane (Heard missing run.back.log) 1 old.lanes new.lanes → EachLane (Took missing run.back.log) 1 old.lanes new.lanes →
      EachLane (HasCutCause run.back.log) 1 old.lanes new.lanes → Ticked missing request.ticks run.back.log old.clock new.clock → EndsTicks request.ticks Failed run.back.log new.clock → RunLog missing Failed call
  log-of missing Failed it run heard took cuts ticked ends = record {
    bus = start run.back.origin;
    log = run.back.log;
    the_bus_starts_with_the_accepted_script = record { program = run.program; accepted = run.has; starts = ap start run.runs.origin_is };
    the_log_is_a_trace_of_the_bus = run.runs.history.trace;
    no_other_log_has_its_text = one-text run.back.log (run-log held request old new it (few-entries request.events few) run);
    each_inlet_gave_its_inputs = heard;
    each_outlet_took_what_it_sends = took;
    each_cut_has_a_failure = cuts;
    its_ticks_are_the_clocks = ticked;
    ticks_end_for_a_reason = ends;
    it_is_quiet_only_if_no_step_is_possible = idle-at_quiet (start run.back.origin) run.back.log run.runs.history.trace;
    it_is_never_quiet_twice_in_a_row = run.runs.history.sparse;
  }

  complete : (Failed : Type 0) (it : RunWhy) (run : IsRun held request old new it) → Writes old.put new.put (log_text run.back.log) → EachLane (LaneRan run.back.log) 1 old.lanes new.lanes →
      ClockRan run.back.log request.ticks old.clock new.clock Failed → IsDone (replay (start run.back.origin) run.back.log) → CompleteRun Failed call
  complete Failed it run put lanes clock done =
      let log = run.back.log in
      record {
        run = log-of 0 Failed it run (each-weaker (LaneRan log) (Heard 0 log) (ran-heard log) 1 old.lanes new.lanes lanes) (each-weaker (LaneRan log) (Took 0 log) (ran-took log) 1 old.lanes new.lanes lanes)
            (each-weaker (LaneRan log) (HasCutCause log) (ran-cuts log) 1 old.lanes new.lanes lanes) (ran-ticked log request.ticks Failed old.clock new.clock clock) (ran-ends log request.ticks Failed old.clock new.clock clock);
        the_text_of_the_log_was_written = put;
        each_inlet_is_read_to_its_end = each-weaker (LaneRan log) (IsReadToEnd log) (ran-read log) 1 old.lanes new.lanes lanes;
        the_clock_is_read_to_its_end = ran-over log request.ticks Failed old.clock new.clock clock;
        the_bus_is_down_and_nothing_is_queued = done;
        a_finish_halt_or_shutdown_was_logged = shut_down-by_step run.back.origin log run.runs.history.trace done.down;
      }

  abbrev stopped : (it : RunWhy) (run : IsRun held request old new it) → EachLane (LaneStopped run.back.log) 1 old.lanes new.lanes → ClockStopped run.back.log request.ticks old.clock new.clock (Rose old.clock_faults new.clock_faults) →
      RunLog 1 (ClockFailed call) call
  stopped it run lanes clock =
      let log = run.back.log in
      log-of 1 (ClockFailed call) it run (each-weaker (LaneStopped log) (Heard 1 log) (stopped-heard log) 1 old.lanes new.lanes lanes) (each-weaker (LaneStopped log) (Took 1 log) (stopped-took log) 1 old.lanes new.lanes lanes)
      (each-weaker (LaneStopped log) (HasCutCause log) (stopped-cuts log) 1 old.lanes new.lanes lanes) (stopped-ticked log request.ticks (ClockFailed call) old.clock new.clock clock)
      (stopped-ends log request.ticks (ClockFailed call) old.clock new.clock clock)

  untouched : IsUntouched old new → NothingHappened call
  untouched same = record { put = same.0; lanes = same.1.lanes; clock = same.1.clock }

  run-headline : {A : Type 0} (answer : Result A Fault) → LiveOutcome held request old new answer → RunHeadline call answer
  run-headline (Ok done) run = complete ⊥ why.Ended run run.runs.outcome.0 run.runs.outcome.1 run.runs.outcome.2 run.runs.outcome.3
  run-headline (Err Clock) run = (complete (ClockFailed call) why.Clock run run.runs.outcome.0 run.runs.outcome.1 run.runs.outcome.2 run.runs.outcome.3, run.runs.outcome.4)
  run-headline (Err (Limit bound.Events)) run = (stopped why.Events run run.runs.outcome.1 run.runs.outcome.2, run.runs.outcome.0)
  run-headline (Err (Limit bound.Steps)) run = absurd run
  run-headline (Err Out) run = (stopped why.Out run run.runs.outcome.1 run.runs.outcome.2, run.runs.outcome.0)
  run-headline (Err NoMemory) (inl same) = inl (untouched same)
  run-headline (Err NoMemory) (inr run) = inr (stopped why.NoMemory run run.runs.outcome.1 run.runs.outcome.2, run.runs.outcome.0)
  run-headline (Err Crew) run = record { put = run.runs.outcome.0; lanes = run.runs.outcome.1; clock = run.runs.outcome.2 }
  run-headline (Err (Script fault)) outcome = untouched outcome.1
  run-headline (Err File) same = untouched same
  run-headline (Err (Feed fault)) outcome = absurd outcome
  run-headline (Err (Words fault)) outcome = absurd outcome
  run-headline (Err (Log wrong)) outcome = absurd outcome
  run-headline (Err Stranger) outcome = absurd outcome

-- A simulation.
module _ (held : List ℕ → Option (List ℕ)) (request : Request) (few : request.events ≤ 4000000) where
  sim-is : (log : List Entry) (last : SimEnd) → IsSimOf held request log last → SimLog held request last log
  sim-is log last it = record {
    program = it.program;
    inputs = it.inputs;
    the_script_is_accepted = it.has;
    these_are_the_inputs_of_the_feed = it.fed;
    the_log_is_that_of_the_simulation = it.simulated;
    the_simulation_has_no_other_log = λ other end is.
        let origin = origin_for request it.program in
        let same = one-sim (limits_of request.steps origin) (sim_start (start origin) it.inputs) other log end last is it.simulated in
        (same.0, same.1);
    the_log_is_a_trace_of_the_script = it.trace;
    no_other_log_has_its_text = one-text log (sim-log held request log last (few-entries request.events few) it);
    it_is_quiet_only_if_no_step_is_possible = idle-at_quiet (start (origin_for request it.program)) log it.trace;
    it_is_never_quiet_twice_in_a_row = sparse-sim (limits_of request.steps (origin_for request it.program)) (sim_start (start (origin_for request it.program)) it.inputs) log last it.simulated;
  }

  sim-wrote : (last : SimEnd) (old new : Option (List ℕ)) → PutsLog held request old new last → WritesLog held request last old new
  sim-wrote last old new (log, it, put) = (log, sim-is log last it, put)

  sim-part : (old new : Option (List ℕ)) → PutsPrefix held request old new → WritesPart held request old new
  sim-part old new (log, last, it, put) = (last, log, sim-is log last it, put)

  sim-headline : {A : Type 0} (old new : Option (List ℕ)) (answer : Result A Fault) → SimOutcome held request old new answer → SimHeadline held request old new answer
  sim-headline old new (Ok done) put = sim-wrote _ old new put
  sim-headline old new (Err (Limit bound.Steps)) put = sim-wrote _ old new put
  sim-headline old new (Err (Limit bound.Events)) put = sim-wrote _ old new put
  sim-headline old new (Err Out) put = sim-part old new put
  sim-headline old new (Err (Script fault)) outcome = outcome.1
  sim-headline old new (Err (Feed fault)) outcome = outcome.2
  sim-headline old new (Err File) same = same
  sim-headline old new (Err NoMemory) (inl same) = inl same
  sim-headline old new (Err NoMemory) (inr put) = inr (sim-part old new put)
  sim-headline old new (Err Clock) outcome = absurd outcome
  sim-headline old new (Err Crew) outcome = absurd outcome
  sim-headline old new (Err (Words fault)) outcome = absurd outcome
  sim-headline old new (Err (Log wrong)) outcome = absurd outcome
  sim-headline old new (Err Stranger) outcome = absurd outcome

-- Any command.
headline-by : {A : Type 0} (words : List (List ℕ)) (it : Result Command WordFault) (old new : Seen) (answer : Result A Fault) → asked words ≡ it → CommandOutcome it old new answer → HasHeadline it old new answer
headline-by words (Ok (command.Run script connects ticks events)) old new answer is outcome =
    let within : IsWithin (command.Run script connects ticks events) = asked-within words (command.Run script connects ticks events) is in
    run-headline old.held (record { script = script; connects = connects; ticks = ticks; events = events }) old.outside new.outside within.2.1 answer outcome
headline-by words (Ok (command.Sim script feed connects steps events)) old new answer is outcome =
    let within : IsWithin (command.Sim script feed connects steps events) = asked-within words (command.Sim script feed connects steps events) is in
    (sim-headline old.held (record { script = script; feed = feed; connects = connects; steps = steps; events = events }) within.2.1 old.outside.put new.outside.put answer outcome.0, outcome.1)
headline-by words (Ok (command.Check script)) old new answer is outcome = tt
headline-by words (Ok (command.Ring n k)) old new answer is outcome = tt
headline-by words (Ok (command.Verify script log connects)) old new answer is outcome = tt
headline-by words (Ok (command.Iface script tool)) old new answer is outcome = tt
headline-by words (Err fault) old new answer is outcome = tt

pub has-headline : {A : Type 0} (words : List (List ℕ)) (old new : Seen) (answer : Result A Fault) → CommandOutcome (asked words) old new answer → HasHeadline (asked words) old new answer
has-headline words old new answer outcome = headline-by words (asked words) old new answer refl outcome

pub headline-reported : {A : Type 0} (words : List (List ℕ)) (old new : Seen) (told more : Option (List ℕ)) (status : Status) → Reported {A = A} (Comes (asked words) old new) told more status →
    Reported {A = A} (HasHeadline (asked words) old new) told more status
headline-reported words old new told more status (answer, comes, reports) = (answer, has-headline words old new answer comes.outcome, reports)
