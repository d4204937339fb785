-- The headline of a pair, by the answer of the program's call and the pair that the arguments
-- request.
use Rattle.std.specs.Prelude.{◌≡◌, Result, Ok, Err}
use Rattle.tb_cli.specs.declared.fault.WordFault.{WordFault}
use Rattle.tb_cli.specs.declared.pair_command.PairCommand.{PairCommand}
use Rattle.tb_pair_top.specs.Headline.{PairHeadline}
use Rattle.tb_pair_top.specs.Views.{Seen}
use Rattle.tb_pair_top.specs.declared.fault.PairFault.{PairFault}

abbrev pub HasHeadline : {A : Type 0}
    → Result PairCommand WordFault → Seen → Seen → Result A PairFault → Type 0
HasHeadline (Ok command) old new answer =
    PairHeadline (record { command = command; old = old; new = new }) answer
HasHeadline (Err fault) old new answer = new.outside ≡ old.outside
