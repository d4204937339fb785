use Rattle.std.proofs.Common.{◌∙◌, ◌∷◌, [], ap, sym, true, false, rules}
use Rattle.tb_log.specs.declared.entry.Entry.TheVariants.{Fed}
use Rattle.tb_bus.specs.Buses.{Bus}
use Rattle.tb_bus.specs.Traces.{fed}
use Rattle.tb_bus.proofs.TraceLemmas.{legal-fed}
use Rattle.tb_core.specs.Cores.{HandIn}
use Rattle.tb_core.specs.Helpers.LiveBuses.{bus_of}
use Rattle.tb_core.proofs.CoreLemmas.{bus-seen, fed-next, fed-on, fed-within, full-seen, logs-on, represents-on, room-long, still-next}
use Rattle.tb_core.proofs.ToolLemmas.{fed-tools}
use Rattle.tb_core.proofs.machine.Core.hand_in.Goals as goal

pub invariant_of-self-2 : goal.invariant_of-self-2
invariant_of-self-2 g c =
    let old = c.self.inside.bus in
    let bus = bus_of g.W.Walker.view old in
    let entries = Fed c.args.input c.in_ok-reply.reply ∷ [] in
    represents-on g.W.Walker.view old c.hand.new.bus c.self.inside.log c.hand.new.log entries c.self.invariant c.hand.ensures.sound c.hand.ensures.origin c.hand.ensures.limit
    c.in_ok-reply.ensures.log c.in_ok-reply.ensures.bus (legal-fed bus c.args.input c.in_ok-reply.reply c.requires c.in_ok-reply.ensures.reply)
    (fed-within bus (bus_of g.W.Walker.view c.hand.new.bus) c.args.input (Fed c.args.input c.in_ok-reply.reply) c.in_ok-reply.ensures.bus)
    (still-next bus (bus_of g.W.Walker.view c.hand.new.bus) entries (ap (λ (b : Bus). b.next_number) c.in_ok-reply.ensures.bus ∙ fed-next bus c.args.input))
    (fed-tools bus (bus_of g.W.Walker.view c.hand.new.bus) c.args.input (Fed c.args.input c.in_ok-reply.reply) c.in_ok-reply.ensures.bus)
    (room-long c.self.inside.log.limit c.self.inside.log.entries (Fed c.args.input (fed bus c.args.input).reply) c.in_ok-reply.ensures.room)

pub returns-clause-reply : goal.returns-clause-reply
returns-clause-reply g c =
    let core = c.self.inside in
    c.in_ok-reply.ensures.reply
    ∙ ap (λ (b : Bus). (fed b c.args.input).reply) (sym (bus-seen (bus_of g.W.Walker.view core.bus) core.bus.origin core.log core.stopped c.args.self.now c.self.invariant.bus_is c.self.view_is))

pub returns-clause-logs : goal.returns-clause-logs
returns-clause-logs g c =
    let core = c.self.inside in
    let bus = bus_of g.W.Walker.view core.bus in
    let same = bus-seen bus core.bus.origin core.log core.stopped c.args.self.now c.self.invariant.bus_is c.self.view_is in
    let reply = c.in_ok-reply.ensures.reply ∙ ap (λ (b : Bus). (fed b c.args.input).reply) (sym same) in
    rw (← reply)
    (logs-on bus core.bus.origin (c.hand.new.bus).origin core.log c.hand.new.log (Fed c.args.input c.in_ok-reply.reply ∷ []) core.stopped c.args.self.now c.self.invariant.bus_is c.self.view_is
    c.in_ok-reply.ensures.log c.in_ok-reply.ensures.spare c.hand.ensures.origin (legal-fed bus c.args.input c.in_ok-reply.reply c.requires c.in_ok-reply.ensures.reply))

pub returns-clause-room : goal.returns-clause-room
returns-clause-room g c =
    let core = c.self.inside in
    let bus = bus_of g.W.Walker.view core.bus in
    let same = bus-seen bus core.bus.origin core.log core.stopped c.args.self.now c.self.invariant.bus_is c.self.view_is in
    full-seen core.bus.origin core.log core.stopped c.args.self.now (HandIn c.args.input) (Fed c.args.input (fed bus c.args.input).reply) true c.self.view_is c.self.invariant.limit
    (fed-on c.args.self.now bus c.args.input same) c.in_ok-reply.ensures.room

pub returns-in_err-reply-clause-full : goal.returns-in_err-reply-clause-full
returns-in_err-reply-clause-full g c is =
    let core = c.self.inside in
    let bus = bus_of g.W.Walker.view core.bus in
    let same = bus-seen bus core.bus.origin core.log core.stopped c.args.self.now c.self.invariant.bus_is c.self.view_is in
    full-seen core.bus.origin core.log core.stopped c.args.self.now (HandIn c.args.input) (Fed c.args.input (fed bus c.args.input).reply) false c.self.view_is c.self.invariant.limit
    (fed-on c.args.self.now bus c.args.input same) (c.hand.ensures.full (search rules))
