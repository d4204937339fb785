-- A call of `pair`, as the headline speaks of it: the call, and each of its two buses.
use Rattle.std.specs.Prelude.{◌≡◌, ℕ, List, Option}
use Rattle.tb_body.specs.declared.program.Program.{Program}
use Rattle.tb_cli.specs.declared.pair_command.PairCommand.{PairCommand}
use Rattle.tb_headline.specs.Words.{Bus, Entry, LaneView, Rose, Writes, WritesPrefix, start}
use Rattle.tb_load.specs.Loading.{HasProgram}
use Rattle.tb_log_read.specs.Lines.{IsLog}
use Rattle.tb_pair_run.specs.Views.{EachFromTwo, IsSame}
use Rattle.tb_pair_top.specs.Outcomes.{pair_origin, pair_text}
use Rattle.tb_pair_top.specs.Views.{Seen}

-- the requested pair, and the views of the environment before and after the call
pub record PairCall : Type 0 where
  pub command : PairCommand
  pub old : Seen
  pub new : Seen

-- a bus of a pair: the reported content of its script's file, the limit of its log, and the views
-- of its lanes before and after the call
pub record Side : Type 0 where
  pub told : Option (List ℕ)
  pub events : ℕ
  pub old : List LaneView
  pub new : List LaneView

abbrev pub first_of : PairCall → Side
first_of call = record {
  told = call.old.held call.command.first;
  events = call.command.events;
  old = call.old.outside.run.lanes;
  new = call.new.outside.run.lanes;
}

abbrev pub second_of : PairCall → Side
second_of call = record {
  told = call.old.held call.command.second;
  events = call.command.events;
  old = call.old.outside.run.others;
  new = call.new.outside.run.others;
}

-- The script is accepted, and this is the bus with which its program starts.
pub record StartsWithScript (side : Side) (bus : Bus) : Type 0 where
  pub program : Program
  pub accepted : HasProgram side.told program
  pub starts : bus ≡ start (pair_origin program side.events)

-- the text of both logs was written, and nothing else
abbrev pub WroteBoth : PairCall → List Entry → List Entry → Type 0
WroteBoth call log others_log =
    Writes call.old.outside.put call.new.outside.put (pair_text log others_log)

-- a prefix of the text of both logs was written, and nothing else
abbrev pub WrotePart : PairCall → List Entry → List Entry → Type 0
WrotePart call log others_log =
    WritesPrefix call.old.outside.put call.new.outside.put (pair_text log others_log)

-- nothing was written
abbrev pub WroteNothing : PairCall → Type 0
WroteNothing call = call.new.outside.put ≡ call.old.outside.put

-- the clock failed
abbrev pub ClockFailed : PairCall → Type 0
ClockFailed call = Rose call.old.outside.run.clock_faults call.new.outside.run.clock_faults

-- no other two logs have the text of these two
abbrev pub HaveOneText : List Entry → List Entry → Type 0
HaveOneText log others_log =
    (one other : List Entry) → IsLog one → IsLog other
    → pair_text one other ≡ pair_text log others_log → (one ≡ log) × (other ≡ others_log)

-- nothing was written, given, or taken
pub record NothingHappened (call : PairCall) : Type 0 where
  pub put : WroteNothing call
  pub lanes : EachFromTwo IsSame call.old.outside.run.lanes call.new.outside.run.lanes
  pub others : EachFromTwo IsSame call.old.outside.run.others call.new.outside.run.others
  pub clock : call.new.outside.run.clock ≡ call.old.outside.run.clock
