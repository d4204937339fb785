-- The headline of a command, by the answer of the program's call: `run` and `sim` have one.
use Rattle.std.specs.Prelude.{Result, Ok, ⊤}
use Rattle.tb_cli.specs.declared.command.Command.{Command}
use Rattle.tb_cli.specs.declared.command.Command.TheVariants as command
use Rattle.tb_cli.specs.declared.fault.WordFault.{WordFault}
use Rattle.tb_top.specs.Headline.{RunHeadline}
use Rattle.tb_top.specs.SimHeadline.{SimHeadline}
use Rattle.tb_top.specs.Views.{IsLeft, Seen}
use Rattle.tb_top.specs.declared.fault.Fault.{Fault}

abbrev pub HasHeadline : {A : Type 0}
    → Result Command WordFault → Seen → Seen → Result A Fault → Type 0
HasHeadline (Ok (command.Run script connects ticks events)) old new answer =
    RunHeadline (record {
      told = old.held script;
      request = record { script = script; connects = connects; ticks = ticks; events = events };
      old = old.outside;
      new = new.outside;
    }) answer
-- a simulation uses no lane, clock, or crew
HasHeadline (Ok (command.Sim script feed connects steps events)) old new answer =
    SimHeadline old.held (record {
      script = script;
      feed = feed;
      connects = connects;
      steps = steps;
      events = events;
    }) old.outside.put new.outside.put answer
    × IsLeft old.outside new.outside
HasHeadline _ old new answer = ⊤
