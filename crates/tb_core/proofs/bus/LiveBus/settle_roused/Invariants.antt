use Rattle.std.proofs.Common.{◌≡◌, length}
use Rattle.tb_core.specs.Helpers.LiveBuses.{StandsAs}
use Rattle.tb_core.proofs.bus.LiveBus.settle_roused.Given as goal

abbrev pub invariant-loop-index : goal.invariant-loop-index
invariant-loop-index g l = record {
  same : StandsAs g.W.Walker.view l.fn.self l.self;
  end : l.index-end ≡ length l.self.roused.items;
}
