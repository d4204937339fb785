use Rattle.std.proofs.Common.{◌∙◌, ◌++◌, ◌∷◌, [], ap, refl, slice_get}
use Rattle.tb_bus.specs.Buses.{opened_one}
use Rattle.tb_living.proofs.ReadLemmas.{on-err}
use Rattle.tb_core.proofs.SetLemmas.{stands-moved}
use Rattle.tb_core.proofs.CreateLemmas.{created-changed}
use Rattle.tb_living.proofs.IndexLemmas.{keeps-same, keeps-self}
use Rattle.tb_core.proofs.bus.LiveBus.create.Goals as goal

pub returns-in_err-reserve-clause-err : goal.returns-in_err-reserve-clause-err
returns-in_err-reserve-clause-err g c =
    let bus = c.args.self.now in
    on-err c.from_residual-in_err-reserve.result (stands-moved g.W.Walker.view bus bus.living c.reserve.new.self bus.index c.requires.sound refl c.reserve.ensures.items (keeps-self bus.index))

pub returns-in_err-make_room-clause-err : goal.returns-in_err-make_room-clause-err
returns-in_err-make_room-clause-err g c =
    let bus = c.args.self.now in
    on-err c.from_residual-in_err-make_room.result
    (stands-moved g.W.Walker.view bus bus.living c.reserve.new.self c.make_room.new.self c.requires.sound refl c.reserve.ensures.items (keeps-same bus.index c.make_room.new.self c.make_room.ensures.same))

pub returns-in_err-push-clause-err : goal.returns-in_err-push-clause-err
returns-in_err-push-clause-err g c =
    on-err c.from_residual-in_err-push.result
    (stands-moved g.W.Walker.view c.args.self.now c.push.new.self c.reserve.new.self c.make_room.new.self c.requires.sound c.in_err-push.ensures.items c.reserve.ensures.items
    (keeps-same c.args.self.now.index c.make_room.new.self c.make_room.ensures.same))

pub returns-clause-changed : goal.returns-clause-changed
returns-clause-changed g c at within =
    let living = c.in_ok-living.living in
    created-changed g.W.Walker.view c.args.self.now at c.args.process c.args.actuals c.args.slot living c.push.new.self c.push_reserved.new.self c.make_room.new.self c.requires.sound within
    c.in_ok-push.ensures.items (c.push_reserved.ensures.items ∙ ap (λ numbers. numbers ++ c.args.self.now.marks.next_number ∷ []) c.reserve.ensures.items)
    c.in_ok-living.ensures.number c.in_ok-living.ensures.live
    (c.in_ok-living.ensures.procs ∙ ap (λ bodies. opened_one c.args.self.now.marks.next_number c.args.process c.args.actuals (slice_get bodies c.args.process)) c.as_slice-bodies.ensures)
    c.in_ok-living.ensures.unmarked (keeps-same c.args.self.now.index c.make_room.new.self c.make_room.ensures.same) c.in_ok-make_room.ensures.room
