use Rattle.std.proofs.Common.{◌≡◌, ◌-◌, length}
use Rattle.tb_core.specs.Helpers.LiveBuses.{StandsAs}
use Rattle.tb_core.proofs.RouseLemmas.{AreAwakeBelow}
use Rattle.tb_core.proofs.bus.LiveBus.rouse_marked.Given as goal

abbrev pub decreases-loop-at : goal.decreases-loop-at
decreases-loop-at g l = length l.self.living.items - l.at

abbrev pub invariant-loop-at : goal.invariant-loop-at
invariant-loop-at g l = record {
  same : StandsAs g.W.Walker.view l.fn.self l.self;
  alone : l.self ≡ record l.fn.self { index = l.self.index; roused = l.self.roused };
  awake : AreAwakeBelow l.mark l.self.index l.at l.self.living.items;
}
