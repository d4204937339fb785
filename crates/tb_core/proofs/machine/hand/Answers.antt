use Rattle.std.proofs.Common.{◌≡◌, ◌∙◌, ap, sym, arith, true}
use Rattle.tb_log.specs.declared.entry.Entry.TheVariants.{Fed}
use Rattle.tb_log.specs.Limits.{has_room}
use Rattle.tb_bus.specs.Traces.{fed}
use Rattle.tb_core.specs.Helpers.LiveBuses.{bus_of}
use Rattle.tb_core.proofs.CoreLemmas.{room-kept, room-long}
use Rattle.tb_core.proofs.machine.hand.Goals as goal

pub returns-then-not-room_for_size-clause-full : goal.returns-then-not-room_for_size-clause-full
returns-then-not-room_for_size-clause-full g c is =
    sym (c.room_for_size.ensures (Fed c.args.input (fed (bus_of g.W.Walker.view c.args.bus.now) c.args.input).reply) c.input_size-size.ensures) ∙ c.if-not-room_for_size.true

pub feed-requires-clause-few : goal.feed-requires-clause-few
feed-requires-clause-few g c =
    let entry = Fed c.args.input (fed (bus_of g.W.Walker.view c.args.bus.now) c.args.input).reply in
    let room : has_room c.args.log.now.limit c.args.log.now.entries entry ≡ true = sym (c.room_for_size.ensures entry c.input_size-size.ensures) ∙ c.if-not-room_for_size.false in
    let left = room-long c.args.log.now.limit c.args.log.now.entries entry room in
    omega arith

pub push_fed-requires-clause-room : goal.push_fed-requires-clause-room
push_fed-requires-clause-room g c =
    let entry = Fed c.args.input (fed (bus_of g.W.Walker.view c.args.bus.now) c.args.input).reply in
    room-kept c.args.log.now c.reserve.new.self entry (Fed c.args.input c.in_ok-reply.reply) c.in_ok-reserve.ensures.limit c.in_ok-reserve.ensures.entries (ap (Fed c.args.input) c.in_ok-reply.ensures.reply)
    (sym (c.room_for_size.ensures entry c.input_size-size.ensures) ∙ c.if-not-room_for_size.false)

pub returns-clause-room : goal.returns-clause-room
returns-clause-room g c =
    sym (c.room_for_size.ensures (Fed c.args.input (fed (bus_of g.W.Walker.view c.args.bus.now) c.args.input).reply) c.input_size-size.ensures) ∙ c.if-not-room_for_size.false

pub feed-requires-clause-tools : goal.feed-requires-clause-tools
feed-requires-clause-tools g c =
    let entry = Fed c.args.input (fed (bus_of g.W.Walker.view c.args.bus.now) c.args.input).reply in
    let room : has_room c.args.log.now.limit c.args.log.now.entries entry ≡ true = sym (c.room_for_size.ensures entry c.input_size-size.ensures) ∙ c.if-not-room_for_size.false in
    let left = room-long c.args.log.now.limit c.args.log.now.entries entry room in
    omega arith
