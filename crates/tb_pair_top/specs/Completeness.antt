-- The conditions on the files and on the environment for which a pair ends well, unless a log is
-- full or memory runs out.
use Rattle.std.specs.Prelude.{◌≡◌, ◌≤◌, ℕ, List, Option, Some, length}
use Rattle.tb_body.specs.declared.program.Program.{Program}
use Rattle.tb_edge.specs.Faults.{Rose}
use Rattle.tb_load.specs.Loading.{most_bytes}
use Rattle.tb_script.specs.Findings.{IsFound, Program'}
use Rattle.tb_pair_top.specs.Views.{Seen}

-- the reported content of a script's file is at most as long as allowed, and has a program
pub record HoldsScript (told : Option (List ℕ)) : Type 0 where
  pub bytes : List ℕ
  pub is : told ≡ Some bytes
  pub few : length bytes ≤ most_bytes
  pub program : Program
  pub found : IsFound bytes (Program' program)

-- the counts of failures of the files, the sink of the logs, the clock and the crew didn't rise
pub record NothingFailed (old new : Seen) : Type 0 where
  pub files : Rose old.file_faults new.file_faults → ⊥
  pub out : Rose old.outside.out_faults new.outside.out_faults → ⊥
  pub clock : Rose old.outside.run.clock_faults new.outside.run.clock_faults → ⊥
  pub crew : Rose old.outside.run.crew_faults new.outside.run.crew_faults → ⊥
