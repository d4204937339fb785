use Rattle.std.proofs.Common.{◌≡◌, take}
use Rattle.std.specs.List.{All}
use Rattle.tb_living.specs.Indexes.{IsAwakeAt}
use Rattle.tb_core.specs.Helpers.LiveBuses.{StandsAs}
use Rattle.tb_core.proofs.bus.LiveBus.rouse.Given as goal

abbrev pub invariant-loop-at : goal.invariant-loop-at
invariant-loop-at g l = record {
  same : StandsAs g.W.Walker.view l.fn.self l.self;
  alone : l.self ≡ record l.fn.self { index = l.self.index; roused = l.self.roused };
  awake : All (IsAwakeAt l.self.index l.fn.self.living.items) (take l.at-index l.indices);
}
