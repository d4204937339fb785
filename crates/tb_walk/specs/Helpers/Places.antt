-- The first position and the end of a branch's part, by the operator at the branch's position.
use Rattle.std.specs.Prelude.{ℕ}
use Rattle.tb_process_steps.specs.Processes.{Process}
use Rattle.tb_code.specs.Entries.{outset}
use Rattle.tb_code.specs.Positions.{op_at, root}
use Rattle.tb_code.specs.declared.behind.Behind.{Behind}

-- the first position of the part
abbrev pub root_at : Process → ℕ → ℕ
root_at whole at = root (op_at whole at) at

-- the effect of the part's end
abbrev pub outset_at : Process → ℕ → Behind
outset_at whole at = outset (op_at whole at)
