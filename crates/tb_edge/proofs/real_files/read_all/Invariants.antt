-- What was read so far is counted, and kept where it is within the limit.
use Rattle.std.proofs.Common.{◌-◌, ◌^◌}
use Rattle.tb_edge.proofs.Transfers.{IsRead}
use Rattle.tb_edge.proofs.real_files.read_all.Given as goal

abbrev pub invariant-loop-bytes : goal.invariant-loop-bytes
invariant-loop-bytes g l = IsRead (g.F.Read.remaining l.initial.file) (g.F.Read.remaining l.file) l.bytes.items l.len l.most

abbrev pub decreases-loop-bytes : goal.decreases-loop-bytes
decreases-loop-bytes g l = 2 ^ 64 - l.len
