use Rattle.std.proofs.Common.{◌∙◌, ap, true}
use Rattle.tb_index.specs.Indexes.{is_awake}
use Rattle.tb_search.specs.Candidates.{Row}
use Rattle.tb_search.proofs.PlaceLemmas.{row-is}
use Rattle.tb_living.specs.Indexes.{IsRightFor}
use Rattle.tb_core.specs.Helpers.LiveBuses.{settings_in}
use Rattle.tb_living.proofs.ReadLemmas.{all-there, read-there, read-through}
use Rattle.tb_living.proofs.RestLemmas.{rested-awake, turned-awake}
use Rattle.tb_core.proofs.SetLemmas.{stands-turned}
use Rattle.tb_core.proofs.bus.LiveBus.rouse_at.Goals as goal

pub wake-requires : goal.wake-requires
wake-requires g c =
    let bus = c.args.self.now in
    let living = c.get.result.now in
    record { room = (all-there (IsRightFor bus.index) bus.living.items c.args.at living c.requires.sound.indexed.each (read-there bus.living.items c.args.at living c.requires.within (read-through c.args.self.now.living.items c.args.at _ _ c.get.ensures c.index.ensures))).room }

pub returns-clause-same : goal.returns-clause-same
returns-clause-same g c =
    let bus = c.args.self.now in
    let living = c.get.result.now in
    stands-turned g.W.Walker.view bus c.wake.new.self c.push.new.self c.args.at living true c.requires.sound (read-there bus.living.items c.args.at living c.requires.within (read-through c.args.self.now.living.items c.args.at _ _ c.get.ensures c.index.ensures)) c.wake.ensures
    (rested-awake (settings_in bus) bus.stirred c.wake.new.self living c.wake.ensures.own_awake)

pub returns-clause-kept : goal.returns-clause-kept
returns-clause-kept g c = turned-awake c.args.self.now.index c.wake.new.self c.get.result.now.number c.wake.ensures

pub returns-clause-awake : goal.returns-clause-awake
returns-clause-awake g c =
    ap (λ (r : Row). is_awake c.wake.new.self r.number) (row-is c.args.self.now.living.items c.args.at c.get.result.now c.requires.within (read-through c.args.self.now.living.items c.args.at _ _ c.get.ensures c.index.ensures)) ∙ c.wake.ensures.own_awake
