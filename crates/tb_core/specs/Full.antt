-- What a log shows after it had no capacity for the entry of a call.
use Rattle.std.specs.Prelude.{◌≡◌, ◌<◌, ◌+◌, ◌⊎◌, ℕ, max, List, length, ⊤}
use Rattle.tb_log.specs.Limits.{log_size, most_size}
use Rattle.tb_log.specs.Shapes.{IsInputInShape, IsLane}
use Rattle.tb_log.specs.declared.entry.Entry.{Entry}
use Rattle.tb_bus.specs.declared.origin.Origin.{Origin}
use Rattle.tb_core.specs.Cores.{Call, HandIn, MakeStep, HandOut}

-- The log has as many entries as its limit, or has no capacity for an entry of this size: 131,072, the size that two terms can have
-- together, or if this is larger, the size of the largest command.
abbrev pub IsAtLimit : ℕ → Origin → List Entry → Type 0
IsAtLimit largest origin log = (length log ≡ origin.limit) ⊎ (most_size < log_size log + max 131072 largest)

-- the arguments of a call are in range: an input in shape, or a lane from 1 to 16
abbrev pub MayCall : Call → Type 0
MayCall (HandIn input) = IsInputInShape input
MayCall MakeStep = ⊤
MayCall (HandOut lane) = IsLane lane
