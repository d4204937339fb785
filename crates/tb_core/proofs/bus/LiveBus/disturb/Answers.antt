use Rattle.std.proofs.Common.{ap, subst, sym}
use Rattle.tb_log.specs.declared.entry.ToolLine.{ToolLine}
use Rattle.tb_log.specs.declared.entry.ToolLine.TheVariants.{Value, Event}
use Rattle.tb_tools.specs.Inputs.{put_line}
use Rattle.tb_tools.specs.Lanes.{BenchState}
use Rattle.tb_core.specs.Helpers.LiveBuses.{IsSound}
use Rattle.tb_core.specs.declared.bus.LiveBus.{LiveBus}
use Rattle.tb_core.proofs.QuietLemmas.{quiet-event, quiet-value, roused-since}
use Rattle.tb_core.proofs.bus.LiveBus.disturb.Goals as goal

pub returns-in_ok-rouse_lane-in-Value-clause-quiet : goal.returns-in_ok-rouse_lane-in-Value-clause-quiet
returns-in_ok-rouse_lane-in-Value-clause-quiet g c calm declared =
    let view = g.W.Walker.view in
    let old = c.args.self.now in
    let mid = c.rouse_lane.new.self in
    let lane = c.args.lane in
    let lanes = ap (λ (b : LiveBus _ _ _). b.bench) c.rouse_lane.ensures.alone in
    let roused = roused-since old mid lane c.rouse_lane.ensures.alone c.in_ok-rouse_lane-in-Value.ensures.awake in
    subst (λ (l : ToolLine). IsSound view (record mid { bench = (put_line declared l lane old.bench).bench })) (sym c.in-Value.is)
    (subst (λ (b : BenchState). IsSound view (record mid { bench = (put_line declared (Value c.in-Value.field-0) lane b).bench })) lanes
    (quiet-value view mid c.rouse_lane.ensures.same.sound lane roused declared c.in-Value.field-0))

pub returns-in_ok-rouse_lane-in-Event-clause-quiet : goal.returns-in_ok-rouse_lane-in-Event-clause-quiet
returns-in_ok-rouse_lane-in-Event-clause-quiet g c calm declared =
    let view = g.W.Walker.view in
    let old = c.args.self.now in
    let mid = c.rouse_lane-in-Event.new.self in
    let lane = c.args.lane in
    let lanes = ap (λ (b : LiveBus _ _ _). b.bench) c.rouse_lane-in-Event.ensures.alone in
    let roused = roused-since old mid lane c.rouse_lane-in-Event.ensures.alone c.in_ok-rouse_lane-in-Event.ensures.awake in
    subst (λ (l : ToolLine). IsSound view (record mid { bench = (put_line declared l lane old.bench).bench })) (sym c.in-Event.is)
    (subst (λ (b : BenchState). IsSound view (record mid { bench = (put_line declared (Event c.in-Event.field-0) lane b).bench })) lanes
    (quiet-event view mid c.rouse_lane-in-Event.ensures.same.sound lane roused declared c.in-Event.field-0))
