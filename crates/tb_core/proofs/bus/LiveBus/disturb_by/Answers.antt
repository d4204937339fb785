use Rattle.std.proofs.Common.{ap, subst, sym}
use Rattle.tb_tools.specs.Acts.{event_taken, value_taken}
use Rattle.tb_tools.specs.Lanes.{BenchState}
use Rattle.tb_bus.specs.Exchanges.{behind, bench_after}
use Rattle.tb_bus.specs.declared.action.ToolAction.{ToolAction}
use Rattle.tb_bus.specs.declared.action.ToolAction.TheVariants as does
use Rattle.tb_living.specs.Spoken.{around}
use Rattle.tb_living.proofs.SpokenLemmas.{spoken-can}
use Rattle.tb_core.specs.Helpers.LiveBuses.{IsSound}
use Rattle.tb_core.specs.declared.bus.LiveBus.{LiveBus}
use Rattle.tb_core.proofs.QuietLemmas.{quiet-acknowledged, quiet-asked, quiet-event_taken, quiet-told, quiet-value_taken, roused-since}
use Rattle.tb_core.proofs.bus.LiveBus.disturb_by.Goals as goal

pub returns-in_ok-rouse_lane-in-TakeValue-clause-quiet : goal.returns-in_ok-rouse_lane-in-TakeValue-clause-quiet
returns-in_ok-rouse_lane-in-TakeValue-clause-quiet g c calm =
    let view = g.W.Walker.view in
    let old = c.args.self.now in
    let mid = c.rouse_lane.new.self in
    let exchange = c.args.exchange.now in
    let lanes = ap (λ (b : LiveBus _ _ _). b.bench) c.rouse_lane.ensures.alone in
    let roused = roused-since old mid exchange.lane c.rouse_lane.ensures.alone c.in_ok-rouse_lane-in-TakeValue.ensures.awake in
    subst (λ (d : ToolAction). IsSound view (record mid { bench = bench_after (around old.origin.program.tools old.bench) d exchange })) (sym c.in-TakeValue.is)
    (subst (λ (b : BenchState). IsSound view (record mid { bench = value_taken exchange.lane b })) lanes (quiet-value_taken view mid c.rouse_lane.ensures.same.sound exchange.lane roused))

pub returns-in_ok-rouse_lane-in-TakeEvent-clause-quiet : goal.returns-in_ok-rouse_lane-in-TakeEvent-clause-quiet
returns-in_ok-rouse_lane-in-TakeEvent-clause-quiet g c calm =
    let view = g.W.Walker.view in
    let old = c.args.self.now in
    let mid = c.rouse_lane-in-TakeEvent.new.self in
    let exchange = c.args.exchange.now in
    let lanes = ap (λ (b : LiveBus _ _ _). b.bench) c.rouse_lane-in-TakeEvent.ensures.alone in
    let roused = roused-since old mid exchange.lane c.rouse_lane-in-TakeEvent.ensures.alone c.in_ok-rouse_lane-in-TakeEvent.ensures.awake in
    subst (λ (d : ToolAction). IsSound view (record mid { bench = bench_after (around old.origin.program.tools old.bench) d exchange })) (sym c.in-TakeEvent.is)
    (subst (λ (b : BenchState). IsSound view (record mid { bench = event_taken exchange.event exchange.lane b })) lanes (quiet-event_taken view mid c.rouse_lane-in-TakeEvent.ensures.same.sound exchange.lane roused exchange.event))

pub returns-in-Eval-clause-quiet : goal.returns-in-Eval-clause-quiet
returns-in-Eval-clause-quiet g c calm =
    let view = g.W.Walker.view in
    let old = c.args.self.now in
    let exchange = c.args.exchange.now in
    let can = spoken-can old.origin.program.tools old.bench c.args.does.now exchange c.requires.can (does.Eval c.in-Eval.field-0) c.in-Eval.is in
    subst (λ (d : ToolAction). IsSound view (record old { bench = bench_after (around old.origin.program.tools old.bench) d exchange })) (sym c.in-Eval.is)
    (quiet-asked view old c.requires.sound (behind c.in-Eval.field-0) exchange.lane can)

pub returns-in-Do-clause-quiet : goal.returns-in-Do-clause-quiet
returns-in-Do-clause-quiet g c calm =
    let view = g.W.Walker.view in
    let old = c.args.self.now in
    let exchange = c.args.exchange.now in
    let can = spoken-can old.origin.program.tools old.bench c.args.does.now exchange c.requires.can (does.Do c.in-Do.field-0) c.in-Do.is in
    subst (λ (d : ToolAction). IsSound view (record old { bench = bench_after (around old.origin.program.tools old.bench) d exchange })) (sym c.in-Do.is)
    (quiet-told view old c.requires.sound (behind c.in-Do.field-0) exchange.lane can)

pub returns-in-Acknowledge-clause-quiet : goal.returns-in-Acknowledge-clause-quiet
returns-in-Acknowledge-clause-quiet g c calm =
    let view = g.W.Walker.view in
    let old = c.args.self.now in
    let exchange = c.args.exchange.now in
    let can = spoken-can old.origin.program.tools old.bench c.args.does.now exchange c.requires.can (does.Acknowledge c.in-Acknowledge.field-0) c.in-Acknowledge.is in
    subst (λ (d : ToolAction). IsSound view (record old { bench = bench_after (around old.origin.program.tools old.bench) d exchange })) (sym c.in-Acknowledge.is)
    (quiet-acknowledged view old c.requires.sound exchange.event exchange.lane can)
