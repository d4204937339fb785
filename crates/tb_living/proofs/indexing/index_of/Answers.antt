use Rattle.std.proofs.Common.{arith}
use Rattle.tb_living.proofs.IndexLemmas.{room-all, roomier}
use Rattle.tb_living.proofs.indexing.index_of.Goals as goal

pub loop-number-preserved : goal.loop-number-preserved
loop-number-preserved c =
    let more = roomier c.loop-number.index c.make_room.new.self c.args.numbers.now c.loop-number.number-index (omega arith) c.make_room.ensures.same c.in_ok-make_room.ensures.room c.loop-number.invariant.nothing c.loop-number.invariant.room in
    record { nothing = more.0; room = more.1 }

pub returns-clause-room : goal.returns-clause-room
returns-clause-room c = room-all c.loop-number.index c.args.numbers.now c.loop-number.number-index (omega arith) c.loop-number.invariant.room
