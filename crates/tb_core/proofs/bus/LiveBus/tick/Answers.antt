use Rattle.tb_core.proofs.TickLemmas.{all-few, bus-ticked, sound-ticked}
use Rattle.tb_core.proofs.bus.LiveBus.tick.Goals as goal

pub tick_all-requires : goal.tick_all-requires
tick_all-requires g c = all-few g.W.Walker.view c.args.self.now c.requires.sound c.requires.few

pub returns-clause-sound : goal.returns-clause-sound
returns-clause-sound g c = sound-ticked g.W.Walker.view c.args.self.now c.tick_all.new.all c.requires.sound c.tick_all.ensures

pub returns-clause-bus : goal.returns-clause-bus
returns-clause-bus g c = bus-ticked g.W.Walker.view c.args.self.now c.tick_all.new.all c.requires.sound c.tick_all.ensures
