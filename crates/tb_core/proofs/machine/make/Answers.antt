use Rattle.std.proofs.Common.{◌≡◌, ◌∙◌, arith, refl, sym, true}
use Rattle.tb_log.specs.Limits.{has_room}
use Rattle.tb_log.specs.declared.entry.Entry.TheVariants.{Did}
use Rattle.tb_bus.specs.Steps.{label_of}
use Rattle.tb_core.specs.Helpers.LiveBuses.{move_in}
use Rattle.tb_core.proofs.CoreLemmas.{room-kept, room-long}
use Rattle.tb_core.proofs.machine.make.Goals as goal

pub returns-then-not-room_for_size-clause-full : goal.returns-then-not-room_for_size-clause-full
returns-then-not-room_for_size-clause-full g c is =
    let label = label_of (move_in g.W.Walker.view c.args.bus.now c.args.candidate) in
    sym (c.room_for_size.ensures (Did label) c.shown_size-size.ensures) ∙ c.if-not-room_for_size.true

pub make-requires-clause-can : goal.make-requires-clause-can
make-requires-clause-can g c =
    let label = label_of (move_in g.W.Walker.view c.args.bus.now c.args.candidate) in
    let log = c.args.log.now in
    let room : has_room log.limit log.entries (Did label) ≡ true = sym (c.room_for_size.ensures (Did label) c.shown_size-size.ensures) ∙ c.if-not-room_for_size.false in
    record {
      room = room-kept log c.reserve_step.new.self (Did label) (Did label) c.in_ok-reserve_step.ensures.limit c.in_ok-reserve_step.ensures.entries refl room;
      spare = c.in_ok-reserve_step.ensures.spare;
      reserved = c.in_ok-reserve_step.ensures.reserved ∙ c.shown_size-size.ensures;
    }

pub returns-clause-room : goal.returns-clause-room
returns-clause-room g c =
    let label = label_of (move_in g.W.Walker.view c.args.bus.now c.args.candidate) in
    sym (c.room_for_size.ensures (Did label) c.shown_size-size.ensures) ∙ c.if-not-room_for_size.false

pub make-requires-clause-next : goal.make-requires-clause-next
make-requires-clause-next g c =
    let label = label_of (move_in g.W.Walker.view c.args.bus.now c.args.candidate) in
    let log = c.args.log.now in
    let room : has_room log.limit log.entries (Did label) ≡ true = sym (c.room_for_size.ensures (Did label) c.shown_size-size.ensures) ∙ c.if-not-room_for_size.false in
    let long = room-long log.limit log.entries (Did label) room in
    let next = c.requires.next in
    let few = c.requires.few in
    omega arith

pub make-requires-clause-tools : goal.make-requires-clause-tools
make-requires-clause-tools g c =
    let label = label_of (move_in g.W.Walker.view c.args.bus.now c.args.candidate) in
    let log = c.args.log.now in
    let room : has_room log.limit log.entries (Did label) ≡ true = sym (c.room_for_size.ensures (Did label) c.shown_size-size.ensures) ∙ c.if-not-room_for_size.false in
    let long = room-long log.limit log.entries (Did label) room in
    let tools = c.requires.tools in
    let few = c.requires.few in
    omega arith
