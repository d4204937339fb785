use Rattle.std.proofs.Common.{◌≡◌, ◌∙◌, ◌∷◌, [], Some, None, ap, sym, refl, append-nil, true, false, option_to_list, rules, arith}
use Rattle.std.specs.Option.{option_copied}
use Rattle.tb_log.specs.declared.entry.Entry.TheVariants.{Gave}
use Rattle.tb_tools.specs.Finding.{next_out}
use Rattle.tb_bus.specs.Buses.{Bus}
use Rattle.tb_bus.proofs.TraceLemmas.{legal-gave}
use Rattle.tb_core.specs.Cores.{HandOut, entries_of, lacks_room}
use Rattle.tb_core.specs.Helpers.LiveBuses.{bus_of}
use Rattle.tb_core.proofs.CoreLemmas.{bus-seen, full-seen, logs-on, represents-on, room-long, still-next, still-within}
use Rattle.tb_core.proofs.OutLemmas.{gave-on, left-on, nothing-on}
use Rattle.tb_core.proofs.ToolLemmas.{still-tools}
use Rattle.tb_core.proofs.machine.Core.take_out.Goals as goal

pub invariant_of-self-in-Some : goal.invariant_of-self-in-Some
invariant_of-self-in-Some g c =
    let old = c.self.inside.bus in
    let bus = bus_of g.W.Walker.view old in
    let new = bus_of g.W.Walker.view c.take.new.bus in
    let entries = Gave c.args.lane c.in_ok-take-in-Some.field-0 ∷ [] in
    represents-on g.W.Walker.view old c.take.new.bus c.self.inside.log c.take.new.log entries c.self.invariant c.take.ensures.sound c.take.ensures.origin c.take.ensures.limit
    c.in_ok-take-in-Some.ensures.log c.in_ok-take-in-Some.ensures.bus (legal-gave bus c.args.lane c.in_ok-take-in-Some.field-0 c.requires c.in_ok-take-in-Some.ensures.out)
    (still-within bus new entries (ap (λ (b : Bus). b.now) c.in_ok-take-in-Some.ensures.bus)) (still-next bus new entries (ap (λ (b : Bus). b.next_number) c.in_ok-take-in-Some.ensures.bus))
    (still-tools bus new entries (ap (λ (b : Bus). b.bench.next_tool) c.in_ok-take-in-Some.ensures.bus))
    (room-long c.self.inside.log.limit c.self.inside.log.entries (Gave c.args.lane c.in_ok-take-in-Some.field-0) c.in_ok-take-in-Some.ensures.room)

pub returns-in-None-clause-found : goal.returns-in-None-clause-found
returns-in-None-clause-found g c =
    let core = c.self.inside in
    let bus = bus_of g.W.Walker.view core.bus in
    let none : next_out c.args.lane bus.bench ≡ None = sym c.next_out.ensures ∙ ap option_copied c.in-None.is in
    let same = bus-seen bus core.bus.origin core.log core.stopped c.args.self.now c.self.invariant.bus_is c.self.view_is in
    left-on c.args.self.now bus c.args.lane bus.down c.nothing_left.result same none refl c.nothing_left.ensures

pub returns-in-None-clause-logs : goal.returns-in-None-clause-logs
returns-in-None-clause-logs g c =
    let core = c.self.inside in
    let bus = bus_of g.W.Walker.view core.bus in
    let none : next_out c.args.lane bus.bench ≡ None = sym c.next_out.ensures ∙ ap option_copied c.in-None.is in
    let same = bus-seen bus core.bus.origin core.log core.stopped c.args.self.now c.self.invariant.bus_is c.self.view_is in
    let entries : entries_of c.args.self.now (HandOut c.args.lane) ≡ [] = ap option_to_list (nothing-on c.args.self.now bus c.args.lane same none) in
    rw entries
    (record { origin = refl; log = sym (append-nil c.args.self.now.log); stopped = refl; trace = tt; spare = omega arith })

pub returns-in-None-clause-room : goal.returns-in-None-clause-room
returns-in-None-clause-room g c =
    let core = c.self.inside in
    let bus = bus_of g.W.Walker.view core.bus in
    let none : next_out c.args.lane bus.bench ≡ None = sym c.next_out.ensures ∙ ap option_copied c.in-None.is in
    let same = bus-seen bus core.bus.origin core.log core.stopped c.args.self.now c.self.invariant.bus_is c.self.view_is in
    ap (lacks_room c.args.self.now) (nothing-on c.args.self.now bus c.args.lane same none)

pub returns-in_ok-take-in-Some-clause-found : goal.returns-in_ok-take-in-Some-clause-found
returns-in_ok-take-in-Some-clause-found g c =
    let core = c.self.inside in
    let same = bus-seen (bus_of g.W.Walker.view core.bus) core.bus.origin core.log core.stopped c.args.self.now c.self.invariant.bus_is c.self.view_is in
    ap (λ (b : Bus). next_out c.args.lane b.bench) same ∙ c.in_ok-take-in-Some.ensures.out

pub returns-in_ok-take-in-Some-clause-logs : goal.returns-in_ok-take-in-Some-clause-logs
returns-in_ok-take-in-Some-clause-logs g c =
    let core = c.self.inside in
    let bus = bus_of g.W.Walker.view core.bus in
    let out = c.in_ok-take-in-Some.field-0 in
    let same = bus-seen bus core.bus.origin core.log core.stopped c.args.self.now c.self.invariant.bus_is c.self.view_is in
    let entries : entries_of c.args.self.now (HandOut c.args.lane) ≡ Gave c.args.lane out ∷ [] = ap option_to_list (gave-on c.args.self.now bus c.args.lane out same c.in_ok-take-in-Some.ensures.out) in
    rw entries
    (logs-on bus core.bus.origin (c.take.new.bus).origin core.log c.take.new.log (Gave c.args.lane out ∷ []) core.stopped c.args.self.now c.self.invariant.bus_is c.self.view_is
    c.in_ok-take-in-Some.ensures.log c.in_ok-take-in-Some.ensures.spare c.take.ensures.origin (legal-gave bus c.args.lane out c.requires c.in_ok-take-in-Some.ensures.out))

pub returns-in_ok-take-in-Some-clause-room : goal.returns-in_ok-take-in-Some-clause-room
returns-in_ok-take-in-Some-clause-room g c =
    let core = c.self.inside in
    let bus = bus_of g.W.Walker.view core.bus in
    let out = c.in_ok-take-in-Some.field-0 in
    let same = bus-seen bus core.bus.origin core.log core.stopped c.args.self.now c.self.invariant.bus_is c.self.view_is in
    full-seen core.bus.origin core.log core.stopped c.args.self.now (HandOut c.args.lane) (Gave c.args.lane out) true c.self.view_is c.self.invariant.limit
    (gave-on c.args.self.now bus c.args.lane out same c.in_ok-take-in-Some.ensures.out) c.in_ok-take-in-Some.ensures.room

pub returns-in_err-take-in-Some-clause-full : goal.returns-in_err-take-in-Some-clause-full
returns-in_err-take-in-Some-clause-full g c is =
    let core = c.self.inside in
    let bus = bus_of g.W.Walker.view core.bus in
    let out = c.in-Some.out.now in
    let found : next_out c.args.lane bus.bench ≡ Some out = sym c.next_out.ensures ∙ ap option_copied c.in-Some.is in
    let same = bus-seen bus core.bus.origin core.log core.stopped c.args.self.now c.self.invariant.bus_is c.self.view_is in
    full-seen core.bus.origin core.log core.stopped c.args.self.now (HandOut c.args.lane) (Gave c.args.lane out) false c.self.view_is c.self.invariant.limit
    (gave-on c.args.self.now bus c.args.lane out same found) (c.take.ensures.full (search rules) out found)
