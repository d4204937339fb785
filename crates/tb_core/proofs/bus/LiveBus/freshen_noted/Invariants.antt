use Rattle.std.proofs.Common.{◌≡◌, drop, length}
use Rattle.std.specs.List.{All}
use Rattle.tb_living.specs.Lives.{IsFreshOr}
use Rattle.tb_core.specs.Helpers.LiveBuses.{StandsAs}
use Rattle.tb_core.proofs.bus.LiveBus.freshen_noted.Given as goal

abbrev pub invariant-loop-index : goal.invariant-loop-index
invariant-loop-index g l = record {
  same : StandsAs g.W.Walker.view l.fn.self l.self;
  stale : l.self.stale ≡ l.fn.self.stale;
  end : l.index-end ≡ length l.self.stale.items;
  fresh : All (IsFreshOr (drop l.index l.self.stale.items)) l.self.living.items;
}
