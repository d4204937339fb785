use Rattle.std.proofs.Common.{◌+◌, Option, subst, sym}
use Rattle.tb_run.specs.declared.ends.WorkEnd.{WorkEnd}
use Rattle.tb_pair.specs.Helpers.Ticking.{Ticked, TickedMore}
use Rattle.tb_pair.proofs.TickerLemmas.{can_still, hands_tick, past_all}
use Rattle.tb_pair.proofs.ticker.tick.Goals as goal

pub returns-in-None : goal.returns-in-None
returns-in-None g c = record {
  ticked = λ begun given t.
      subst (λ (s : Option WorkEnd). TickedMore begun c.hand-bus.new.seat (given + 1) s c.hand-bus.result) (sym c.in-None.is)
      (hands_tick begun c.args.bus.now.seat c.hand-bus.new.seat given (subst (λ (s : Option WorkEnd). Ticked begun c.args.bus.now.seat given s) c.in-None.is t) c.hand-bus.result c.hand-bus.ensures);
  can = can_still c.args.bus.now.post.now.shared c.args.bus.now.seat c.hand-bus.new.seat c.hand-bus.result c.requires c.hand-bus.ensures;
}

pub returns-in-Some-clause-ticked : goal.returns-in-Some-clause-ticked
returns-in-Some-clause-ticked g c = λ begun given t. past_all c.args.bus.now.end begun c.args.bus.now.seat given c.in-Some.field-0 c.in-Some.is t
