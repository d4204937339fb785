use Rattle.std.proofs.Common.{false, not}
use Rattle.tb_living.specs.Indexes.{IsRightFor}
use Rattle.tb_core.specs.Helpers.LiveBuses.{settings_in}
use Rattle.tb_living.proofs.IndexLemmas.{keeps-self, keeps-turned}
use Rattle.tb_living.proofs.ReadLemmas.{all-there, read-there, read-through}
use Rattle.tb_living.proofs.RestLemmas.{rested-stale, rested-turned}
use Rattle.tb_core.proofs.SetLemmas.{stands-turned}
use Rattle.tb_core.proofs.bus.LiveBus.settle_at.Goals as goal

pub turn-requires : goal.turn-requires
turn-requires g c =
    let bus = c.args.self.now in
    let living = c.get-living.result.now in
    (all-there (IsRightFor bus.index) bus.living.items c.args.at living c.requires.sound.indexed.each (read-there bus.living.items c.args.at living c.requires.within (read-through c.args.self.now.living.items c.args.at _ _ c.get-living.ensures c.index.ensures))).room

pub returns-clause-same : goal.returns-clause-same
returns-clause-same g c =
    let bus = c.args.self.now in
    let living = c.get-living.result.now in
    let rest = c.in_ok-rest.rest in
    stands-turned g.W.Walker.view bus c.turn.new.index bus.roused c.args.at living (not rest) c.requires.sound (read-there bus.living.items c.args.at living c.requires.within (read-through c.args.self.now.living.items c.args.at _ _ c.get-living.ensures c.index.ensures)) c.turn.ensures
    (rested-turned (settings_in bus) bus.stirred bus.index c.turn.new.index living rest c.turn.ensures c.in_ok-rest.ensures)

pub returns-then-not-living-clause-settled : goal.returns-then-not-living-clause-settled
returns-then-not-living-clause-settled g c =
    let bus = c.args.self.now in
    let living = c.get-living.result.now in (
      living,
      read-there bus.living.items c.args.at living c.requires.within (read-through c.args.self.now.living.items c.args.at _ _ c.get-living.ensures c.index.ensures),
      rested-stale (settings_in bus) false bus.index living c.if-not-living.true,
      λ other ne. keeps-self bus.index other,
    )

pub returns-clause-settled : goal.returns-clause-settled
returns-clause-settled g c =
    let bus = c.args.self.now in
    let living = c.get-living.result.now in
    let rest = c.in_ok-rest.rest in (
      living,
      read-there bus.living.items c.args.at living c.requires.within (read-through c.args.self.now.living.items c.args.at _ _ c.get-living.ensures c.index.ensures),
      rested-turned (settings_in bus) false bus.index c.turn.new.index living rest c.turn.ensures c.in_ok-rest.ensures,
      keeps-turned bus.index c.turn.new.index living.number (not rest) c.turn.ensures,
    )
