-- The outcome of a pair has its headline.
use Rattle.std.proofs.Common.{◌≡◌, ◌≤◌, ◌<◌, ◌^◌, ℕ, List, [], ◌∷◌, Result, Ok, Err, refl, ap, inl, inr, arith}
use Rattle.tb_body.specs.declared.program.Program.{Program}
use Rattle.tb_bus.specs.Buses.{start}
use Rattle.tb_cli.specs.declared.fault.WordFault.{WordFault}
use Rattle.tb_cli.specs.declared.pair_command.PairCommand.{PairCommand}
use Rattle.tb_cli.specs.Table.{IsPairWithin}
use Rattle.tb_cli.specs.Words.{asked_pair}
use Rattle.tb_cli.proofs.Ranges.{asked_pair-within}
use Rattle.tb_core.specs.Cores.{CoreState}
use Rattle.tb_headline.specs.Words.{HasCutCause, Heard, IsReadToEnd, Took}
use Rattle.tb_headline.proofs.Entries.{idle-at_quiet, shut_down-by_step}
use Rattle.tb_headline.proofs.Lanes.{each-weaker, ran-cuts, ran-heard, ran-read, ran-took, stopped-cuts, stopped-heard, stopped-took}
use Rattle.tb_load.specs.Loading.{HasProgram}
use Rattle.tb_run.specs.Outcomes.{LaneRan, LaneStopped}
use Rattle.tb_run.specs.Views.{LaneView}
use Rattle.tb_pair_run.specs.Outcomes.{BothRan, BusOutcome, IsLogOf}
use Rattle.tb_pair_run.specs.Views.{EachFromTwo}
use Rattle.tb_pair_run.specs.declared.ends.BusWhy.{BusWhy}
use Rattle.tb_pair_run.specs.declared.ends.BusWhy.TheVariants as bus_why
use Rattle.tb_pair_run.specs.declared.ends.PairWhy.{PairWhy}
use Rattle.tb_pair_run.specs.declared.ends.PairWhy.TheVariants as why
use Rattle.tb_pair_top.specs.Headline.{BusEnded, BusLog, Ended, EndedWithPart, PairEnded, PairHeadline, PairLogs}
use Rattle.tb_pair_top.specs.Headlines.{HasHeadline}
use Rattle.tb_pair_top.specs.Outcomes.{ArePut, CommandOutcome, Comes, HaveRun, IsPair, Outcome, PutsBoth, PutsPart, RunOutcome, pair_origin}
use Rattle.tb_pair_top.specs.PairCalls.{ClockFailed, HaveOneText, PairCall, Side, WroteBoth, first_of, second_of}
use Rattle.tb_pair_top.specs.Views.{Seen}
use Rattle.tb_pair_top.specs.declared.fault.PairFault.{PairFault}
use Rattle.tb_pair_top.specs.declared.fault.PairFault.TheVariants.{Script, Words, File, Out, Clock, Crew, Limit, NoMemory}
use Rattle.tb_pair_top.proofs.TwoLogs.{log-is, two-logs}

few-entries : (events : ℕ) → events ≤ 4000000 → events < 2 ^ 64
few-entries events few = omega (arith, few)

-- each lane from 2 on, by a claim that follows
from-two : (P Q : ℕ → LaneView → LaneView → Type 0) → ((lane : ℕ) (old new : LaneView) → P lane old new → Q lane old new) → (olds news : List LaneView) → EachFromTwo P olds news → EachFromTwo Q olds news
from-two P Q weaker (old ∷ olds) (new ∷ news) e = (e.0, each-weaker P Q weaker 2 olds news e.1)
from-two P Q weaker [] [] e = absurd e
from-two P Q weaker [] (new ∷ news) e = absurd e
from-two P Q weaker (old ∷ olds) [] e = absurd e

-- One of the two buses.
module _ (side : Side) (program : Program) (has : HasProgram side.told program) (back : CoreState) (is : IsLogOf (pair_origin program side.events) back) where
  abbrev log-of : (missing : ℕ) → EachFromTwo (Heard missing back.log) side.old side.new → EachFromTwo (Took missing back.log) side.old side.new → EachFromTwo (HasCutCause back.log) side.old side.new → BusLog missing side back.log
  log-of missing heard took cuts = record {
    bus = start back.origin;
    the_bus_starts_with_the_accepted_script = record { program = program; accepted = has; starts = ap start is.origin_is };
    the_log_is_a_trace_of_the_bus = is.history.trace;
    each_inlet_gave_its_inputs = heard;
    each_outlet_took_what_it_sends = took;
    each_cut_has_a_failure = cuts;
    it_is_quiet_only_if_no_step_is_possible = idle-at_quiet (start back.origin) back.log is.history.trace;
    it_is_never_quiet_twice_in_a_row = is.history.sparse;
  }

  stopped : EachFromTwo (LaneStopped back.log) side.old side.new → BusLog 1 side back.log
  stopped lanes =
      let log = back.log in
      log-of 1 (from-two (LaneStopped log) (Heard 1 log) (stopped-heard log) side.old side.new lanes) (from-two (LaneStopped log) (Took 1 log) (stopped-took log) side.old side.new lanes)
      (from-two (LaneStopped log) (HasCutCause log) (stopped-cuts log) side.old side.new lanes)

  bus-ended : (Refused : Type 0) (it : BusWhy) → BusOutcome Refused side.old side.new back it → BusEnded side back.log it
  bus-ended Refused bus_why.Ended outcome =
      let log = back.log in
      let lanes = outcome.0 in
      record {
        run = log-of 0 (from-two (LaneRan log) (Heard 0 log) (ran-heard log) side.old side.new lanes) (from-two (LaneRan log) (Took 0 log) (ran-took log) side.old side.new lanes)
            (from-two (LaneRan log) (HasCutCause log) (ran-cuts log) side.old side.new lanes);
        each_inlet_is_read_to_its_end = from-two (LaneRan log) (IsReadToEnd log) (ran-read log) side.old side.new lanes;
        the_bus_is_down_and_nothing_is_queued = outcome.1;
        a_finish_halt_or_shutdown_was_logged = shut_down-by_step back.origin log is.history.trace outcome.1.down;
      }
  bus-ended Refused bus_why.Events outcome = stopped outcome.0
  bus-ended Refused bus_why.NoMemory outcome = stopped outcome

-- Both.
module _ (call : PairCall) (few : call.command.events ≤ 4000000) (first second : Program) (has : HasProgram (first_of call).told first) (others_has : HasProgram (second_of call).told second) where
  one-text : (back others_back : CoreState) → IsLogOf (pair_origin first call.command.events) back → IsLogOf (pair_origin second call.command.events) others_back → HaveOneText back.log others_back.log
  one-text back others_back is others_is one other one_is other_is same =
      let limit = few-entries call.command.events few in
      two-logs one other back.log others_back.log one_is other_is (log-is (pair_origin first call.command.events) back is limit) (log-is (pair_origin second call.command.events) others_back others_is limit) same

  logs-of : (Failed : Type 0) (back others_back : CoreState) (its others : BusWhy) → IsLogOf (pair_origin first call.command.events) back → IsLogOf (pair_origin second call.command.events) others_back →
      BothRan call.command.ticks call.old.outside.run call.new.outside.run back others_back its others Failed → PairLogs Failed call back.log others_back.log its others
  logs-of Failed back others_back its others is others_is ran = record {
    the_first_bus_ended = bus-ended (first_of call) first has back is _ its ran.first;
    the_second_bus_ended = bus-ended (second_of call) second others_has others_back others_is _ others ran.second;
    no_other_two_logs_have_their_text = one-text back others_back is others_is;
    the_pipe_passes_on_what_the_first_bus_sends = ran.pipe;
    their_ticks_are_the_clocks = ran.clock;
  }

  ran-as : (it : PairWhy) → (it ≡ why.Crew → ⊥) → (ran : HaveRun call.command.ticks (pair_origin first call.command.events) (pair_origin second call.command.events) call.old.outside.run call.new.outside.run it) →
      PairEnded call it ran.back.log ran.others_back.log
  ran-as why.Ended not ran = logs-of ⊥ ran.back ran.others_back bus_why.Ended bus_why.Ended ran.runs.first ran.runs.second ran.runs.outcome
  ran-as why.Clock not ran = (logs-of (ClockFailed call) ran.back ran.others_back bus_why.Ended bus_why.Ended ran.runs.first ran.runs.second ran.runs.outcome.0, ran.runs.outcome.1)
  ran-as why.Events not ran =
      let some = ran.runs.outcome in
      (some.why, some.others_why, some.is, logs-of (ClockFailed call) ran.back ran.others_back some.why some.others_why ran.runs.first ran.runs.second some.ran)
  ran-as why.NoMemory not ran =
      let some = ran.runs.outcome in
      (some.why, some.others_why, some.is, logs-of (ClockFailed call) ran.back ran.others_back some.why some.others_why ran.runs.first ran.runs.second some.ran)
  ran-as why.Crew not ran = absurd (not refl)

  not-crew : (it : PairWhy) → ArePut it → it ≡ why.Crew → ⊥
  not-crew why.Ended are e = absurd (let no : ◌≡◌ {A = PairWhy} why.Ended why.Crew = e in cc)
  not-crew why.Clock are e = absurd (let no : ◌≡◌ {A = PairWhy} why.Clock why.Crew = e in cc)
  not-crew why.Events are e = absurd (let no : ◌≡◌ {A = PairWhy} why.Events why.Crew = e in cc)
  not-crew why.Crew are e = are
  not-crew why.NoMemory are e = are

  not-crew-memory : why.NoMemory ≡ why.Crew → ⊥
  not-crew-memory e = absurd (let no : ◌≡◌ {A = PairWhy} why.NoMemory why.Crew = e in cc)

  whole : (it : PairWhy) → ArePut it → PutsBoth call.command.ticks (pair_origin first call.command.events) (pair_origin second call.command.events) call.old.outside call.new.outside it → Ended call (WroteBoth call) it
  whole it are (ran, put) = (ran.back.log, ran.others_back.log, ran-as it (not-crew it are) ran, put)

  part : PutsPart call.command.ticks (pair_origin first call.command.events) (pair_origin second call.command.events) call.old.outside call.new.outside → EndedWithPart call
  part (it, are, ran, put) = (it, are, (ran.back.log, ran.others_back.log, ran-as it (not-crew it are) ran, put))

  run-headline : {A : Type 0} (answer : Result A PairFault) → RunOutcome call.command.ticks (pair_origin first call.command.events) (pair_origin second call.command.events) call.old.outside call.new.outside answer → PairHeadline call answer
  run-headline (Ok done) outcome = whole why.Ended tt outcome
  run-headline (Err Clock) outcome = whole why.Clock tt outcome
  run-headline (Err Limit) outcome = whole why.Events tt outcome
  run-headline (Err Out) outcome = part outcome
  run-headline (Err Crew) (ran, put) =
      let nothing = ran.runs.outcome.0 in
      record { put = put; lanes = nothing.lanes; others = nothing.others; clock = nothing.clock }
  run-headline (Err NoMemory) (inl same) = inl same
  run-headline (Err NoMemory) (inr (inl (ran, put))) = inr (inl (ran.back.log, ran.others_back.log, ran-as why.NoMemory not-crew-memory ran, put))
  run-headline (Err NoMemory) (inr (inr outcome)) = inr (inr (part outcome))
  run-headline (Err (Script fault)) outcome = absurd outcome
  run-headline (Err (Words fault)) outcome = absurd outcome
  run-headline (Err File) outcome = absurd outcome

-- The answers of a requested pair.
module _ (command : PairCommand) (old new : Seen) (few : command.events ≤ 4000000) where
  abbrev call : PairCall
  call = record { command = command; old = old; new = new }

  ran-headline : {A : Type 0} (answer : Result A PairFault) → IsPair command old new answer → PairHeadline call answer
  ran-headline answer pair = run-headline call few pair.one pair.other pair.has pair.others_has answer pair.outcome

  command-headline : {A : Type 0} (answer : Result A PairFault) → CommandOutcome command old new answer → PairHeadline call answer
  command-headline (Ok done) pair = ran-headline (Ok done) pair
  command-headline (Err Clock) pair = ran-headline (Err Clock) pair
  command-headline (Err Limit) pair = ran-headline (Err Limit) pair
  command-headline (Err Out) pair = ran-headline (Err Out) pair
  command-headline (Err Crew) pair = ran-headline (Err Crew) pair
  command-headline (Err (Script fault)) stops = stops.1
  command-headline (Err File) stops = stops.1
  command-headline (Err (Words fault)) pair = absurd pair.outcome
  command-headline (Err NoMemory) (inl same) = inl same.1
  command-headline (Err NoMemory) (inr (inl stops)) = inl stops.1
  command-headline {A} (Err NoMemory) (inr (inr pair)) = ran-headline {A = A} (Err NoMemory) pair

headline-by : {A : Type 0} (words : List (List ℕ)) (it : Result PairCommand WordFault) (old new : Seen) (answer : Result A PairFault) → asked_pair words ≡ it → Outcome it old new answer → HasHeadline it old new answer
headline-by words (Ok command) old new answer is outcome =
    let within : IsPairWithin command = asked_pair-within words command is in
    command-headline command old new within.1.1 answer outcome
headline-by words (Err fault) old new answer is outcome = outcome.3

pub has-headline : {A : Type 0} (words : List (List ℕ)) (old new : Seen) (answer : Result A PairFault) → Comes (asked_pair words) old new answer → HasHeadline (asked_pair words) old new answer
has-headline words old new answer comes = headline-by words (asked_pair words) old new answer refl comes.outcome
