use Rattle.std.proofs.Common.{◌≡◌, ◌++◌, take, drop}
use Rattle.tb_why.specs.Ends.{while_up}
use Rattle.tb_why.proofs.following.up_len.Given as goal

-- the entries so far leave the bus up
abbrev pub invariant-loop-index : goal.invariant-loop-index
invariant-loop-index l = while_up l.entries ≡ take l.index l.entries ++ while_up (drop l.index l.entries)
