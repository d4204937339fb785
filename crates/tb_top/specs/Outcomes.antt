-- The answers of the program's call, by the command that its arguments request: the written bytes,
-- the requested files, and the effects on lanes and clock.
use Rattle.std.specs.Prelude.{◌≡◌, ◌≢◌, ℕ, List, [], ◌∷◌, Option, option_to_list, Result, Ok, Err}
use Rattle.tb_cli.specs.declared.command.Command.{Command}
use Rattle.tb_cli.specs.declared.command.Command.TheVariants as command
use Rattle.tb_cli.specs.declared.fault.WordFault.{WordFault}
use Rattle.tb_cli.specs.declared.fault.WordFault.TheVariants as word
use Rattle.tb_top.specs.Asking.{Asks}
use Rattle.tb_top.specs.Causes.{IsCaused}
use Rattle.tb_top.specs.Check.{CheckOutcome}
use Rattle.tb_top.specs.Iface.{IfaceOutcome}
use Rattle.tb_top.specs.Ring.{RingOutcome}
use Rattle.tb_top.specs.Run.{IsUntouched, LiveOutcome}
use Rattle.tb_top.specs.Sim.{Request, SimOutcome}
use Rattle.tb_top.specs.Verify.{VerifyOutcome, VerifyRequest}
use Rattle.tb_top.specs.Views.{IsLeft, Seen}
use Rattle.tb_top.specs.declared.fault.Fault.{Fault}
use Rattle.tb_top.specs.declared.fault.Fault.TheVariants.{Words}

-- the claims about an answer, by the command that the arguments request, or by the error of the
-- arguments
abbrev pub CommandOutcome : {A : Type 0} → Result Command WordFault → Seen → Seen → Result A Fault
    → Type 0
CommandOutcome (Err fault) old new answer =
    (answer ≡ Err (Words fault)) × (fault ≢ word.NoMemory) × IsUntouched old.outside new.outside
CommandOutcome (Ok (command.Check script)) old new answer =
    CheckOutcome (old.held script) old.outside.put new.outside.put answer
    × IsLeft old.outside new.outside
CommandOutcome (Ok (command.Sim script feed connects steps events)) old new answer =
    SimOutcome old.held (record {
      script = script;
      feed = feed;
      connects = connects;
      steps = steps;
      events = events;
    }) old.outside.put new.outside.put answer
    × IsLeft old.outside new.outside
CommandOutcome (Ok (command.Ring n k)) old new answer =
    RingOutcome n k old.outside.put new.outside.put answer × IsLeft old.outside new.outside
CommandOutcome (Ok (command.Run script connects ticks events)) old new answer =
    LiveOutcome old.held (record {
      script = script;
      connects = connects;
      ticks = ticks;
      events = events;
    }) old.outside new.outside answer
CommandOutcome (Ok (command.Verify script log connects)) old new answer =
    VerifyOutcome old.held (record {
      script = script;
      log = log;
      connects = connects;
    }) old.outside.put new.outside.put answer
    × IsLeft old.outside new.outside
CommandOutcome (Ok (command.Iface script tool)) old new answer =
    IfaceOutcome (old.held script) tool old.outside.put new.outside.put answer
    × IsLeft old.outside new.outside

-- the names of the requested files, in order
abbrev pub files_of : Result Command WordFault → List (List ℕ)
files_of (Err fault) = []
files_of (Ok (command.Check script)) = script ∷ []
files_of (Ok (command.Sim script feed connects steps events)) = script ∷ option_to_list feed
files_of (Ok (command.Ring n k)) = []
files_of (Ok (command.Run script connects ticks events)) = script ∷ []
files_of (Ok (command.Verify script log connects)) = script ∷ log ∷ []
files_of (Ok (command.Iface script tool)) = script ∷ []

-- This answer may come with these written bytes, counts of failures, requested files, and effects
-- on lanes and clock.
pub record Comes {A : Type 0} (asked : Result Command WordFault) (old new : Seen)
    (answer : Result A Fault) : Type 0 where
  pub outcome : CommandOutcome asked old new answer
  pub caused : IsCaused old new answer
  pub asks : Asks old.held (files_of asked) old.asked new.asked answer
