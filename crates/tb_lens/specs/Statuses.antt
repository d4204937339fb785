-- The exit status of the program.
use Rattle.std.specs.Prelude.{ℕ}
use Rattle.tb_lens.specs.declared.status.Status.{Status}
use Rattle.tb_lens.specs.declared.status.Status.TheVariants as status

-- the exit status for each status of a call
abbrev pub status_number : Status → ℕ
status_number status.Fine = 0
status_number status.Found = 1
status_number status.Trouble = 2
