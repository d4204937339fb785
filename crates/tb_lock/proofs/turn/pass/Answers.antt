use Rattle.std.proofs.Common.{arith}
use Rattle.tb_lock.proofs.PassLemmas.{passes}
use Rattle.tb_lock.proofs.turn.pass.Goals as goal

pub fetch_add-requires : goal.fetch_add-requires
fetch_add-requires g c =
    let may = c.requires.may in
    let words = c.requires.board.0 in
    (c.requires.holder, omega arith, passes c.args.board.now.key.origin c.args.board.now.table_id.slots c.args.holder.now.id c.args.holder.now.me may.ticket may.core may.stage may.slot may.origin may.log)
