use Rattle.tb_edge.proofs.Transfers.{IsRead-more}
use Rattle.tb_edge.proofs.real_files.read_all.Goals as goal

pub loop-bytes-preserved : goal.loop-bytes-preserved
loop-bytes-preserved g c =
    let kept = c.in_ok-len-in_default.ensures in
    IsRead-more _ _ _ _ _ _ _ _ _ c.loop-bytes.invariant c.in_ok-count.ensures.given kept.counted kept.kept
