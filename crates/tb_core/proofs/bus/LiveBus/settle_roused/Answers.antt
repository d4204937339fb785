use Rattle.std.proofs.Common.{◌∙◌, ap, length, sym}
use Rattle.tb_core.specs.declared.bus.LiveBus.{LiveBus}
use Rattle.tb_core.proofs.SetLemmas.{stands-roused, stands-then}
use Rattle.tb_core.proofs.bus.LiveBus.settle_roused.Goals as goal

pub loop-index-preserved : goal.loop-index-preserved
loop-index-preserved g c = record {
  same = stands-then g.W.Walker.view c.args.self.now c.loop-index.self c.settle_number.new.self c.loop-index.invariant.same c.settle_number.ensures.same;
  end = c.loop-index.invariant.end ∙ ap (λ (b : LiveBus _ _ _). length b.roused.items) (sym c.settle_number.ensures.alone);
}

pub returns-in_err-settle_number : goal.returns-in_err-settle_number
returns-in_err-settle_number g c = record { same = stands-then g.W.Walker.view c.args.self.now c.loop-index.self c.settle_number.new.self c.loop-index.invariant.same c.settle_number.ensures.same }

pub returns : goal.returns
returns g c = record { same = stands-roused g.W.Walker.view c.args.self.now c.loop-index.self c.clear.new.self c.loop-index.invariant.same }
