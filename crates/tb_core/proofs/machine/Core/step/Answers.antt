use Rattle.std.proofs.Common.{◌≡◌, ◌∙◌, ◌∷◌, [], Some, None, ap, sym, refl, option_map, if◌then◌else◌, append-nil, true, false, option_to_list, rules, arith}
use Rattle.tb_log.specs.declared.entry.Entry.TheVariants.{Did, Quiet}
use Rattle.tb_log.specs.Limits.{has_room}
use Rattle.tb_bus.specs.Buses.{Bus}
use Rattle.tb_bus.specs.Steps.{moves, steps, step_of, label_of, first}
use Rattle.tb_search.specs.Candidates.{rows_of}
use Rattle.tb_bus.proofs.TraceLemmas.{steps-first, steps-none}
use Rattle.tb_core.specs.Helpers.LiveBuses.{bus_of, move_in}
use Rattle.tb_core.specs.Cores.{CoreState, MakeStep, ends_quiet, entries_of, lacks_room}
use Rattle.tb_core.proofs.CoreLemmas.{apply-now, bus-seen, full-seen, logs-on, one-next, represents-on, represents-same, room-long, room-seen, still-next, still-within, would-on}
use Rattle.tb_core.proofs.GoLemmas.{did-entry, did-trace, did-replay, down-entry, quiet_if, quiet-entry, quiet-listed, quiet-long, quiet-room, quiet-trace, quiet-replay}
use Rattle.tb_core.proofs.ToolLemmas.{one-tools, still-tools}
use Rattle.tb_core.proofs.machine.Core.step.Goals as goal

pub invariant_of-self-in-Some : goal.invariant_of-self-in-Some
invariant_of-self-in-Some g c =
    let now = c.freshen.new.self in
    let bus = bus_of g.W.Walker.view now in
    let to = move_in g.W.Walker.view now in
    let move = to c.in-Some.candidate in
    let found : first (moves bus) ≡ Some move = sym c.in_ok-candidate.ensures.found ∙ ap (option_map to) c.in-Some.is in
    represents-on g.W.Walker.view now c.make.new.bus c.self.inside.log c.make.new.log (Did (label_of move) ∷ [])
    (represents-same g.W.Walker.view c.self.inside.bus now c.self.inside.log c.self.invariant c.freshen.ensures.same)
    c.make.ensures.sound c.make.ensures.origin c.make.ensures.limit c.in_ok-make-in-Some.ensures.log (c.in_ok-make-in-Some.ensures.bus ∙ did-replay bus move found) (did-trace bus move found)
    (still-within bus (bus_of g.W.Walker.view c.make.new.bus) (Did (label_of move) ∷ []) (ap (λ (b : Bus). b.now) c.in_ok-make-in-Some.ensures.bus ∙ apply-now bus move))
    (one-next bus (bus_of g.W.Walker.view c.make.new.bus) move (Did (label_of move)) c.in_ok-make-in-Some.ensures.bus)
    (one-tools bus (bus_of g.W.Walker.view c.make.new.bus) (rows_of now.living.items) c.in-Some.candidate (Did (label_of move)) c.in_ok-make-in-Some.ensures.bus)
    (room-long c.self.inside.log.limit c.self.inside.log.entries (Did (label_of move)) c.in_ok-make-in-Some.ensures.room)

pub invariant_of-self-in-None-2 : goal.invariant_of-self-in-None-2
invariant_of-self-in-None-2 g c =
    let now = c.freshen.new.self in
    let bus = bus_of g.W.Walker.view now in
    let log = c.self.inside.log in
    let entries = if ends_quiet log.entries then [] else Quiet ∷ [] in
    let nothing : first (moves bus) ≡ None = sym c.in_ok-candidate.ensures.found ∙ ap (option_map (move_in g.W.Walker.view now)) c.in-None.is in
    represents-on g.W.Walker.view now now log c.say_quiet.new.log entries
    (represents-same g.W.Walker.view c.self.inside.bus now log c.self.invariant c.freshen.ensures.same)
    c.freshen.ensures.same.sound refl c.say_quiet.ensures.limit c.in_ok-say_quiet-in-None-2.ensures.ok (quiet-replay bus (ends_quiet log.entries)) (quiet-trace bus (ends_quiet log.entries) (steps-none bus nothing) c.if-self-2.false)
    (still-within bus bus entries refl) (still-next bus bus entries refl) (still-tools bus bus entries refl)
    (quiet-long log.limit log.entries (ends_quiet log.entries) c.self.invariant.within c.in_ok-say_quiet-in-None-2.ensures.room)

pub returns-in_ok-make-in-Some-clause-found : goal.returns-in_ok-make-in-Some-clause-found
returns-in_ok-make-in-Some-clause-found g c =
    let core = c.self.inside in
    let now = c.freshen.new.self in
    let bus = bus_of g.W.Walker.view now in
    let to = move_in g.W.Walker.view now in
    let move = to c.in-Some.candidate in
    let found : first (moves bus) ≡ Some move = sym c.in_ok-candidate.ensures.found ∙ ap (option_map to) c.in-Some.is in
    let same = bus-seen (bus_of g.W.Walker.view core.bus) core.bus.origin core.log core.stopped c.args.self.now c.self.invariant.bus_is c.self.view_is ∙ sym c.freshen.ensures.same.bus in
    let first_step = steps-first bus move found in
    (step_of bus move, first_step.0, ap steps same ∙ first_step.1)

pub returns-in_ok-make-in-Some-clause-logs : goal.returns-in_ok-make-in-Some-clause-logs
returns-in_ok-make-in-Some-clause-logs g c =
    let core = c.self.inside in
    let now = c.freshen.new.self in
    let bus = bus_of g.W.Walker.view now in
    let to = move_in g.W.Walker.view now in
    let move = to c.in-Some.candidate in
    let found : first (moves bus) ≡ Some move = sym c.in_ok-candidate.ensures.found ∙ ap (option_map to) c.in-Some.is in
    let is = c.freshen.ensures.same.bus ∙ c.self.invariant.bus_is in
    let same = bus-seen bus core.bus.origin core.log core.stopped c.args.self.now is c.self.view_is in
    let entries : entries_of c.args.self.now MakeStep ≡ Did (label_of move) ∷ [] = ap option_to_list (would-on c.args.self.now bus same ∙ did-entry bus (ends_quiet c.args.self.now.log) move found) in
    rw entries
    (logs-on bus core.bus.origin (c.make.new.bus).origin core.log c.make.new.log (Did (label_of move) ∷ []) core.stopped c.args.self.now is c.self.view_is
    c.in_ok-make-in-Some.ensures.log c.in_ok-make-in-Some.ensures.spare (c.make.ensures.origin ∙ c.freshen.ensures.same.origin) (did-trace bus move found))

pub returns-in-None-clause-found : goal.returns-in-None-clause-found
returns-in-None-clause-found g c =
    let core = c.self.inside in
    let bus = bus_of g.W.Walker.view c.freshen.new.self in
    ap (λ (b : Bus). b.down) (bus-seen bus core.bus.origin core.log core.stopped c.args.self.now (c.freshen.ensures.same.bus ∙ c.self.invariant.bus_is) c.self.view_is) ∙ c.if-self-2.true

pub returns-in-None-clause-logs : goal.returns-in-None-clause-logs
returns-in-None-clause-logs g c =
    let core = c.self.inside in
    let bus = bus_of g.W.Walker.view c.freshen.new.self in
    let is = c.freshen.ensures.same.bus ∙ c.self.invariant.bus_is in
    let same = bus-seen bus core.bus.origin core.log core.stopped c.args.self.now is c.self.view_is in
    let entries : entries_of c.args.self.now MakeStep ≡ [] = ap option_to_list (would-on c.args.self.now bus same ∙ down-entry bus (ends_quiet c.args.self.now.log) c.if-self-2.true) in
    rw entries
    (logs-on bus core.bus.origin (c.freshen.new.self).origin core.log core.log [] core.stopped c.args.self.now is c.self.view_is
    (sym (append-nil core.log.entries)) (omega arith) c.freshen.ensures.same.origin tt)

pub returns-in_ok-say_quiet-in-None-2-clause-found : goal.returns-in_ok-say_quiet-in-None-2-clause-found
returns-in_ok-say_quiet-in-None-2-clause-found g c =
    let core = c.self.inside in
    let now = c.freshen.new.self in
    let bus = bus_of g.W.Walker.view now in
    let nothing : first (moves bus) ≡ None = sym c.in_ok-candidate.ensures.found ∙ ap (option_map (move_in g.W.Walker.view now)) c.in-None.is in
    let same = bus-seen bus core.bus.origin core.log core.stopped c.args.self.now (c.freshen.ensures.same.bus ∙ c.self.invariant.bus_is) c.self.view_is in
    (ap steps same ∙ steps-none bus nothing, ap (λ (b : Bus). b.down) same ∙ c.if-self-2.false)

pub returns-in_ok-say_quiet-in-None-2-clause-logs : goal.returns-in_ok-say_quiet-in-None-2-clause-logs
returns-in_ok-say_quiet-in-None-2-clause-logs g c =
    let core = c.self.inside in
    let now = c.freshen.new.self in
    let bus = bus_of g.W.Walker.view now in
    let nothing : first (moves bus) ≡ None = sym c.in_ok-candidate.ensures.found ∙ ap (option_map (move_in g.W.Walker.view now)) c.in-None.is in
    let is = c.freshen.ensures.same.bus ∙ c.self.invariant.bus_is in
    let same = bus-seen bus core.bus.origin core.log core.stopped c.args.self.now is c.self.view_is in
    let said : ends_quiet c.args.self.now.log ≡ ends_quiet core.log.entries = ap (λ (s : CoreState). ends_quiet s.log) (sym c.self.view_is) in
    let quiet = if ends_quiet core.log.entries then [] else Quiet ∷ [] in
    let entries : entries_of c.args.self.now MakeStep ≡ quiet =
    ap option_to_list (would-on c.args.self.now bus same ∙ quiet-entry bus (ends_quiet c.args.self.now.log) (steps-none bus nothing) c.if-self-2.false)
    ∙ quiet-listed (ends_quiet c.args.self.now.log) ∙ ap (λ b. if b then [] else Quiet ∷ []) said in
    rw entries
    (logs-on bus core.bus.origin (c.freshen.new.self).origin core.log c.say_quiet.new.log quiet core.stopped c.args.self.now is c.self.view_is
    c.in_ok-say_quiet-in-None-2.ensures.ok c.in_ok-say_quiet-in-None-2.ensures.spare c.freshen.ensures.same.origin
    (quiet-trace bus (ends_quiet core.log.entries) (steps-none bus nothing) c.if-self-2.false))

pub returns-in_ok-make-in-Some-clause-room : goal.returns-in_ok-make-in-Some-clause-room
returns-in_ok-make-in-Some-clause-room g c =
    let core = c.self.inside in
    let now = c.freshen.new.self in
    let bus = bus_of g.W.Walker.view now in
    let to = move_in g.W.Walker.view now in
    let move = to c.in-Some.candidate in
    let found : first (moves bus) ≡ Some move = sym c.in_ok-candidate.ensures.found ∙ ap (option_map to) c.in-Some.is in
    let same = bus-seen bus core.bus.origin core.log core.stopped c.args.self.now (c.freshen.ensures.same.bus ∙ c.self.invariant.bus_is) c.self.view_is in
    full-seen core.bus.origin core.log core.stopped c.args.self.now MakeStep (Did (label_of move)) true c.self.view_is c.self.invariant.limit
    (would-on c.args.self.now bus same ∙ did-entry bus (ends_quiet c.args.self.now.log) move found) c.in_ok-make-in-Some.ensures.room

pub returns-in-None-clause-room : goal.returns-in-None-clause-room
returns-in-None-clause-room g c =
    let core = c.self.inside in
    let bus = bus_of g.W.Walker.view c.freshen.new.self in
    let same = bus-seen bus core.bus.origin core.log core.stopped c.args.self.now (c.freshen.ensures.same.bus ∙ c.self.invariant.bus_is) c.self.view_is in
    ap (lacks_room c.args.self.now) (would-on c.args.self.now bus same ∙ down-entry bus (ends_quiet c.args.self.now.log) c.if-self-2.true)

pub returns-in_ok-say_quiet-in-None-2-clause-room : goal.returns-in_ok-say_quiet-in-None-2-clause-room
returns-in_ok-say_quiet-in-None-2-clause-room g c =
    let core = c.self.inside in
    let now = c.freshen.new.self in
    let bus = bus_of g.W.Walker.view now in
    let nothing : first (moves bus) ≡ None = sym c.in_ok-candidate.ensures.found ∙ ap (option_map (move_in g.W.Walker.view now)) c.in-None.is in
    let same = bus-seen bus core.bus.origin core.log core.stopped c.args.self.now (c.freshen.ensures.same.bus ∙ c.self.invariant.bus_is) c.self.view_is in
    let said : ends_quiet c.args.self.now.log ≡ ends_quiet core.log.entries = ap (λ (s : CoreState). ends_quiet s.log) (sym c.self.view_is) in
    ap (lacks_room c.args.self.now) (would-on c.args.self.now bus same ∙ quiet-entry bus (ends_quiet c.args.self.now.log) (steps-none bus nothing) c.if-self-2.false)
    ∙ quiet-room c.args.self.now (ends_quiet c.args.self.now.log)
    (λ e. room-seen core.bus.origin core.log core.stopped c.args.self.now Quiet c.self.view_is c.self.invariant.limit ∙ c.in_ok-say_quiet-in-None-2.ensures.room (sym said ∙ e))

pub returns-in_err-make-in-Some-clause-full : goal.returns-in_err-make-in-Some-clause-full
returns-in_err-make-in-Some-clause-full g c is =
    let core = c.self.inside in
    let now = c.freshen.new.self in
    let bus = bus_of g.W.Walker.view now in
    let to = move_in g.W.Walker.view now in
    let move = to c.in-Some.candidate in
    let found : first (moves bus) ≡ Some move = sym c.in_ok-candidate.ensures.found ∙ ap (option_map to) c.in-Some.is in
    let same = bus-seen bus core.bus.origin core.log core.stopped c.args.self.now (c.freshen.ensures.same.bus ∙ c.self.invariant.bus_is) c.self.view_is in
    full-seen core.bus.origin core.log core.stopped c.args.self.now MakeStep (Did (label_of move)) false c.self.view_is c.self.invariant.limit
    (would-on c.args.self.now bus same ∙ did-entry bus (ends_quiet c.args.self.now.log) move found) (c.make.ensures.full (search rules))

pub returns-in_err-say_quiet-in-None-2-clause-full : goal.returns-in_err-say_quiet-in-None-2-clause-full
returns-in_err-say_quiet-in-None-2-clause-full g c is =
    let core = c.self.inside in
    let now = c.freshen.new.self in
    let bus = bus_of g.W.Walker.view now in
    let nothing : first (moves bus) ≡ None = sym c.in_ok-candidate.ensures.found ∙ ap (option_map (move_in g.W.Walker.view now)) c.in-None.is in
    let same = bus-seen bus core.bus.origin core.log core.stopped c.args.self.now (c.freshen.ensures.same.bus ∙ c.self.invariant.bus_is) c.self.view_is in
    let said : ends_quiet c.args.self.now.log ≡ ends_quiet core.log.entries = ap (λ (s : CoreState). ends_quiet s.log) (sym c.self.view_is) in
    let refused : (ends_quiet core.log.entries ≡ false) × (has_room core.log.limit core.log.entries Quiet ≡ false) = c.say_quiet.ensures.full (search rules) in
    full-seen core.bus.origin core.log core.stopped c.args.self.now MakeStep Quiet false c.self.view_is c.self.invariant.limit
    (would-on c.args.self.now bus same ∙ quiet-entry bus (ends_quiet c.args.self.now.log) (steps-none bus nothing) c.if-self-2.false ∙ ap quiet_if (said ∙ refused.0)) refused.1
