use Rattle.std.proofs.Common.{◌≡◌, ap, arith, get_or, length}
use Rattle.tb_living.proofs.NoteLemmas.{put-more}
use Rattle.tb_living.proofs.inboxes.put_all.Goals as goal

pub loop-note-preserved : goal.loop-note-preserved
loop-note-preserved g c =
    let left : c.len.result ≡ length c.pop.new.self.items = omega (arith, c.len.ensures) in
    put-more c.args.all.now.items c.loop-note.all.items c.put_at.new.all.items c.args.indices.now c.args.copies.items c.loop-note.copies.items c.pop.new.self.items c.in-Some.note _ c.requires.apart c.loop-note.invariant
    c.in-Some.ensures.items (ap (λ n. get_or c.args.indices.now n 0) left) c.put_at.ensures.held c.put_at.ensures.others
