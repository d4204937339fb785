use Rattle.std.proofs.Common.{◌≡◌, length}
use Rattle.tb_core.specs.Helpers.LiveBuses.{StandsAs}
use Rattle.tb_core.proofs.TickLemmas.{AreFreshBelow}
use Rattle.tb_core.proofs.bus.LiveBus.freshen_all.Given as goal

abbrev pub invariant-loop-at : goal.invariant-loop-at
invariant-loop-at g l = record {
  same : StandsAs g.W.Walker.view l.fn.self l.self;
  end : l.at-end ≡ length l.self.living.items;
  fresh : AreFreshBelow l.at l.self.living.items;
}
