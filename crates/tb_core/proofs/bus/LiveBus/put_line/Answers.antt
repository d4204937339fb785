use Rattle.std.proofs.Common.{◌≤◌, ◌∙◌, ap, subst, sym}
use Rattle.tb_tools.specs.Inputs.{Answer, put_line}
use Rattle.tb_tools.specs.Lanes.{BenchState, most_tools}
use Rattle.tb_bus.specs.Buses.{Bus}
use Rattle.tb_bus.specs.Traces.{declares}
use Rattle.tb_living.proofs.ReadLemmas.{on-err}
use Rattle.tb_core.specs.Helpers.LiveBuses.{IsSound, bus_of}
use Rattle.tb_core.specs.declared.bus.LiveBus.{LiveBus}
use Rattle.tb_core.proofs.BenchLemmas.{bus-since, line-same, origin-since, sound-since, stands-bench}
use Rattle.tb_core.proofs.bus.LiveBus.put_line.Goals as goal

pub line-requires-clause-room : goal.line-requires-clause-room
line-requires-clause-room g c = subst (λ (b : BenchState). b.next_tool ≤ most_tools) (sym (ap (λ (b : LiveBus _ _ _). b.bench) c.disturb.ensures.alone)) c.requires.tools

pub returns-in_err-reply-clause-sound : goal.returns-in_err-reply-clause-sound
returns-in_err-reply-clause-sound g c =
    let mid = c.disturb.new.self in
    let same = stands-bench g.W.Walker.view mid c.line.new.self c.disturb.ensures.same.sound c.in_err-reply.ensures.err in
    same.sound

pub returns-in_err-reply-clause-err : goal.returns-in_err-reply-clause-err
returns-in_err-reply-clause-err g c =
    let mid = c.disturb.new.self in
    let same = stands-bench g.W.Walker.view mid c.line.new.self c.disturb.ensures.same.sound c.in_err-reply.ensures.err in
    on-err c.from_residual-in_err-reply.result (same.bus ∙ c.disturb.ensures.same.bus)

pub returns-clause-sound : goal.returns-clause-sound
returns-clause-sound g c =
    let view = g.W.Walker.view in
    let old = c.args.self.now in
    let mid = c.disturb.new.self in
    let lanes = ap (λ (b : LiveBus _ _ _). b.bench) c.disturb.ensures.alone in
    let declared = c.is_declared-declared.result in
    let there = c.in_ok-reply.ensures.ok ∙ ap (λ (b : BenchState). let answer : Answer = put_line declared c.in_ok-line.line c.args.lane b in answer.bench) lanes in
    sound-since view old mid c.stir_if.new.self c.disturb.ensures.same c.disturb.ensures.alone c.line.new.self c.in_ok-stirs.stirs c.stir_if.ensures c.show_lanes.ensures
    (λ calm. subst (λ (b : BenchState). IsSound view (record mid { bench = b })) (sym there) (c.in_ok-stirs.ensures.quiet calm declared))

pub returns-clause-origin : goal.returns-clause-origin
returns-clause-origin g c = origin-since g.W.Walker.view c.args.self.now c.disturb.new.self c.stir_if.new.self c.disturb.ensures.same c.disturb.ensures.alone c.line.new.self c.in_ok-stirs.stirs c.stir_if.ensures

pub returns-clause-bus : goal.returns-clause-bus
returns-clause-bus g c =
    let view = g.W.Walker.view in
    let old = c.args.self.now in
    let mid = c.disturb.new.self in
    let lanes = ap (λ (b : LiveBus _ _ _). b.bench) c.disturb.ensures.alone in
    let declared = c.is_declared-declared.ensures ∙ ap (λ ks. declares ks c.args.line.now) c.as_slice.ensures in
    let same = line-same c.is_declared-declared.result (declares old.origin.program.tools c.args.line.now) c.in_ok-line.line c.args.line.now c.args.lane mid.bench old.bench declared c.in_ok-line.ensures lanes in
    bus-since view old mid c.stir_if.new.self c.disturb.ensures.same c.disturb.ensures.alone c.line.new.self c.in_ok-stirs.stirs c.stir_if.ensures
    ∙ ap (λ (b : BenchState). let it : Bus = record (bus_of view old) { bench = b } in it) (c.in_ok-reply.ensures.ok ∙ ap (λ (a : Answer). a.bench) same)

pub returns-clause-reply : goal.returns-clause-reply
returns-clause-reply g c =
    let old = c.args.self.now in
    let mid = c.disturb.new.self in
    let lanes = ap (λ (b : LiveBus _ _ _). b.bench) c.disturb.ensures.alone in
    let declared = c.is_declared-declared.ensures ∙ ap (λ ks. declares ks c.args.line.now) c.as_slice.ensures in
    let same = line-same c.is_declared-declared.result (declares old.origin.program.tools c.args.line.now) c.in_ok-line.line c.args.line.now c.args.lane mid.bench old.bench declared c.in_ok-line.ensures lanes in
    c.in_ok-reply.ensures.reply ∙ ap (λ (a : Answer). a.reply) same
