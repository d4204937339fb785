use Rattle.std.proofs.Common.{◌-◌, length}
use Rattle.tb_core.specs.Helpers.LiveBuses.{StandsAs, settings_in}
use Rattle.tb_living.proofs.RestLemmas.{AreSettledBelow}
use Rattle.tb_core.proofs.bus.LiveBus.settle_speakers.Given as goal

abbrev pub decreases-loop-at : goal.decreases-loop-at
decreases-loop-at g l = length l.self.living.items - l.at

abbrev pub invariant-loop-at : goal.invariant-loop-at
invariant-loop-at g l = record {
  same : StandsAs g.W.Walker.view l.fn.self l.self;
  settled : AreSettledBelow (settings_in l.self) l.self.index l.at l.self.living.items;
}
