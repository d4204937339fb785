use Rattle.std.proofs.Common.{arith, subst}
use Rattle.tb_lock.specs.declared.rights.Rights.{Rights}
use Rattle.tb_lock.specs.Rights.{AreAmong}
use Rattle.tb_lock.proofs.ShareLemmas.{splits}
use Rattle.tb_lock.proofs.share.part.Goals as goal

pub split_seat-requires : goal.split_seat-requires
split_seat-requires g c =
    let words = c.requires.board.0 in
    let me = c.args.holder.now.me in (
      c.requires.holder,
      omega arith,
      splits c.args.board.now.key.origin c.args.holder.now.id me.0 g.H.HandsOn.rights (subst (λ (r : Rights). AreAmong r me.0.rights) c.requires.picked c.requires.rights) c.requires.room c.requires.idle.1,
    )
