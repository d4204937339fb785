-- The state of a tool that an action needs.
use Rattle.std.specs.Prelude.{ℕ, Bool}
use Rattle.tb_tools.specs.Lanes.{BenchState}
use Rattle.tb_tools.specs.Acts.{can_leave, can_eval, is_taken_at, is_live_at}
use Rattle.tb_search.specs.declared.exchanging.Need.{Need}
use Rattle.tb_search.specs.declared.exchanging.Need.TheVariants.{Leaving, Idle, Taken, Live}

-- whether the tool of a lane meets the need
abbrev pub meets : Need → ℕ → BenchState → Bool
meets Leaving = can_leave
meets Idle = can_eval
meets Taken = is_taken_at
meets Live = is_live_at
