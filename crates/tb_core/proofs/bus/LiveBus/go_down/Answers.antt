use Rattle.tb_core.proofs.BenchLemmas.{sound-down}
use Rattle.tb_core.proofs.bus.LiveBus.go_down.Goals as goal

pub returns-clause-sound : goal.returns-clause-sound
returns-clause-sound g c = sound-down g.W.Walker.view c.args.self.now c.down.new.self c.requires c.show_lanes.ensures
