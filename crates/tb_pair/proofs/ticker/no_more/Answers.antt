use Rattle.std.proofs.Common.{Option, refl, subst, sym}
use Rattle.tb_run.specs.declared.ends.WorkEnd.{WorkEnd}
use Rattle.tb_pair.specs.Helpers.Ticking.{SaysSo}
use Rattle.tb_pair.proofs.ticker.no_more.Goals as goal

pub returns-in-Some : goal.returns-in-Some
returns-in-Some g c = subst (λ (s : Option WorkEnd). SaysSo s c.args.bus.now.seat c.args.bus.now.seat c.args.wanted c.in-Some.it) (sym c.in-Some.is) (refl, refl)

pub returns-in-None : goal.returns-in-None
returns-in-None g c = subst (λ (s : Option WorkEnd). SaysSo s c.args.bus.now.seat c.say_so.new.bus.seat c.args.wanted c.say_so.result) (sym c.in-None.is) c.say_so.ensures
