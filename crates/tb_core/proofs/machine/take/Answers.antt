use Rattle.std.proofs.Common.{◌∙◌, refl, sym}
use Rattle.tb_log.specs.declared.entry.Entry.TheVariants.{Gave}
use Rattle.tb_core.proofs.CoreLemmas.{room-kept}
use Rattle.tb_core.proofs.machine.take.Goals as goal

pub returns-then-not-room_for_size-clause-full : goal.returns-then-not-room_for_size-clause-full
returns-then-not-room_for_size-clause-full g c is out found =
    sym (c.room_for_size.ensures (Gave c.args.lane out) (c.requires.sized out found)) ∙ c.if-not-room_for_size.true

pub push_gave-requires-clause-room : goal.push_gave-requires-clause-room
push_gave-requires-clause-room g c =
    let logged = c.hand_out-given.result.logged in
    let entry = Gave c.args.lane logged in
    room-kept c.args.log.now c.reserve.new.self entry entry c.in_ok-reserve.ensures.limit c.in_ok-reserve.ensures.entries refl
    (sym (c.room_for_size.ensures entry (c.requires.sized logged c.hand_out-given.ensures.logged)) ∙ c.if-not-room_for_size.false)

pub returns-clause-room : goal.returns-clause-room
returns-clause-room g c =
    let given = c.hand_out-given.result.given in
    sym (c.room_for_size.ensures (Gave c.args.lane given) (c.requires.sized given c.hand_out-given.ensures.given)) ∙ c.if-not-room_for_size.false
