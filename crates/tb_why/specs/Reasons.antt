-- The reason why an offered atom can't happen on a bus: the first of its conditions that fails, with a case for each kind of atom. If all
-- conditions hold, there is no reason.
use Rattle.std.specs.Prelude.{ℕ, ◌==◌, ◌&&◌, nat_lt, Bool, true, false, not, List, [], ◌∷◌, map, length, Option, Some, None, is_some, slice_get, if◌then◌else◌}
use Rattle.std.specs.List.{list_any}
use Rattle.tb_terms.specs.declared.term.Term.{Term}
use Rattle.tb_terms.specs.declared.pattern.Pattern.{Pattern}
use Rattle.tb_terms.specs.declared.sort.Sort.{Sort}
use Rattle.tb_match.specs.Matches.{match_list}
use Rattle.tb_func.specs.Printing.{printf_of}
use Rattle.tb_body.specs.declared.act.Act.{Act}
use Rattle.tb_body.specs.declared.act.Act.TheVariants.{Delta, Tau, SndMsg, RecMsg, SndNote, RecNote, NoNote, Subscribe, Unsubscribe, Create, Set, Printf, Execute, RecConnect, RecDisconnectAny, RecDisconnect, SndEval, RecValue, SndDo, RecEvent, SndAckEvent, SndTerminate, Shutdown}
use Rattle.tb_body.specs.declared.atom.Atom.{Atom}
use Rattle.tb_body.specs.declared.body.Body.{Body}
use Rattle.tb_process_steps.specs.Atoms.{act_of}
use Rattle.tb_process_steps.specs.Binds.{has_slot_sort}
use Rattle.tb_notes.specs.Inboxes.{Held, oldest_match}
use Rattle.tb_notes.specs.declared.queue.Found.{Found}
use Rattle.tb_tools.specs.declared.stage.Stage.TheVariants as stage
use Rattle.tb_bus.specs.Buses.{Bus, Proc, atoms_of}
use Rattle.tb_bus.specs.Effects.{most_alive, number_term, takes_note}
use Rattle.tb_bus.specs.Exchanges.{Setting, setting_by}
use Rattle.tb_bus.specs.Slots.{fits_formals, fits_slot}
use Rattle.tb_why.specs.declared.reason.Partner.{Partner}
use Rattle.tb_why.specs.declared.reason.Reason.{Reason}
use Rattle.tb_why.specs.declared.reason.Reason.TheVariants as reason
use Rattle.tb_why.specs.declared.stall.Stall.{Stall}
use Rattle.tb_why.specs.declared.stall.Waiter.{Waiter}
use Rattle.tb_why.specs.declared.standing.Offering.{Offering}
use Rattle.tb_why.specs.declared.standing.Standing.{Standing}
use Rattle.tb_why.specs.Formats.{format_fault}
use Rattle.tb_why.specs.Standing.{standing_of, standings}
use Rattle.tb_why.specs.Tools.{execute_reason, event_reason, idle_reason, kind_reason, lane_named, leaving_reason, live_reason, received_reason, tool_reason, unless, value_reason}

-- whether an atom sends a message, and whether it receives one
abbrev pub sends : Act → Bool
sends (SndMsg exprs) = true
sends act = false

abbrev pub receives : Act → Bool
receives (RecMsg exprs) = true
receives act = false

-- whether terms match patterns; no if either doesn't exist
abbrev pub matches : Option (List Pattern) → Option (List Term) → Bool
matches None terms = false
matches (Some patterns) None = false
matches (Some patterns) (Some terms) = is_some (match_list patterns terms)

-- the message that an offer sends, and the patterns of the message that it receives, if its times hold
abbrev pub if_so : {A : Type 0} → Bool → Option A → Option A
if_so so found = if so then found else None

abbrev pub sent_now : List Atom → Offering → Option (List Term)
sent_now atoms offer = if_so (offer.ready && sends (act_of atoms offer.atom)) offer.sent

abbrev pub received_now : List Atom → Offering → Option (List Pattern)
received_now atoms offer = if_so (offer.ready && receives (act_of atoms offer.atom)) offer.patterns

-- whether this process receives these terms, and isn't the process with this number; then, whether one of these processes does
abbrev pub receives_from : List Body → ℕ → Option (List Term) → Standing → Bool
receives_from bodies number terms other =
    not (other.number == number) && list_any (λ (offer : Offering). matches (received_now (atoms_of bodies other.body) offer) terms) other.offers

abbrev pub has_receiver : List Body → ℕ → Option (List Term) → List Standing → Bool
has_receiver bodies number terms others = list_any (receives_from bodies number terms) others

-- whether this process sends terms that match these patterns, and isn't the process with this number; then, whether one of these does
abbrev pub sends_to : List Body → ℕ → Option (List Pattern) → Standing → Bool
sends_to bodies number patterns other =
    not (other.number == number) && list_any (λ (offer : Offering). matches patterns (sent_now (atoms_of bodies other.body) offer)) other.offers

abbrev pub has_sender : List Body → ℕ → Option (List Pattern) → List Standing → Bool
has_sender bodies number patterns others = list_any (sends_to bodies number patterns) others

-- the message that an offer would send, and the patterns of the message that it would receive, if its times don't all hold
abbrev pub sent_later : List Atom → Offering → Option (List Term)
sent_later atoms offer = if_so (not offer.ready && sends (act_of atoms offer.atom)) offer.sent

abbrev pub received_later : List Atom → Offering → Option (List Pattern)
received_later atoms offer = if_so (not offer.ready && receives (act_of atoms offer.atom)) offer.patterns

-- the atom of the first offer that passes the test
abbrev pub first_offer : (Offering → Bool) → List Offering → Option ℕ
first_offer test [] = None
first_offer test (offer ∷ offers) = if test offer then Some offer.atom else first_offer test offers

-- the offer of this process with the given atom; if there is no atom, the later partner
abbrev pub partner_or : Standing → Option ℕ → Option Partner → Option Partner
partner_or other None later = later
partner_or other (Some atom) later = Some (record { process = other.number; body = other.body; atom = atom })

-- the atom of the first offer of this process that passes the test, unless it is the process with this number; then, the first such offer
-- of these processes
abbrev pub later_in : List Body → ℕ → (List Atom → Offering → Bool) → Standing → Option ℕ
later_in bodies number test other = if other.number == number then None else first_offer (test (atoms_of bodies other.body)) other.offers

abbrev pub first_later : List Body → ℕ → (List Atom → Offering → Bool) → List Standing → Option Partner
first_later bodies number test [] = None
first_later bodies number test (other ∷ others) = partner_or other (later_in bodies number test other) (first_later bodies number test others)

-- the tests: the times of the offer don't all hold, and it would receive these terms, or send terms that match these patterns
abbrev pub takes_later : List Term → List Atom → Offering → Bool
takes_later terms atoms offer = matches (received_later atoms offer) (Some terms)

abbrev pub gives_later : List Pattern → List Atom → Offering → Bool
gives_later patterns atoms offer = matches (Some patterns) (sent_later atoms offer)

-- the reason if no other process is ready: a partner whose times don't all hold, or that there is no partner
abbrev pub partner_reason : Option Partner → Reason → Reason
partner_reason None nobody = nobody
partner_reason (Some partner) nobody = reason.PartnerWaits partner

-- the queue of a process: the process's number, and the contents of the queue
pub record Queue : Type 0 where
  pub number : ℕ
  pub held : Held

abbrev pub queue_of : Proc → Queue
queue_of proc = record { number = proc.number; held = proc.inbox }

-- the first process that wants the note and has no capacity for it
abbrev pub full_queue : List Term → List Queue → Option ℕ
full_queue terms [] = None
full_queue terms (queue ∷ queues) = if takes_note terms queue.held then full_queue terms queues else Some queue.number

-- The parts of a bus on which reasons depend: the bodies, the declared tools and the lanes, the number of the next process, and the
-- processes with their offers and their queues.
pub record Scene : Type 0 where
  pub setting : ℕ → Setting
  pub bodies : List Body
  pub next_number : ℕ
  pub standings : List Standing
  pub queues : List Queue

abbrev pub scene_of : Bus → Scene
scene_of bus = record {
  setting = setting_by bus.program.bodies bus.program.tools bus.bench;
  bodies = bus.program.bodies;
  next_number = bus.next_number;
  standings = standings bus;
  queues = map queue_of bus.procs;
}

-- conditions: the values exist, or the patterns exist; then the conditions on them
abbrev pub with_terms : (List Term → Option Reason) → Option (List Term) → Option Reason
with_terms by None = Some reason.NoValue
with_terms by (Some terms) = by terms

abbrev pub with_patterns : (List Pattern → Option Reason) → Option (List Pattern) → Option Reason
with_patterns by None = Some reason.NoPattern
with_patterns by (Some patterns) = by patterns

-- condition of `snd-msg`: another process receives the terms
abbrev pub receiver_reason : List Body → ℕ → List Standing → List Term → Option Reason
receiver_reason bodies number others terms =
    unless (has_receiver bodies number (Some terms) others) (partner_reason (first_later bodies number (takes_later terms) others) reason.NobodyReceives)

-- condition of `rec-msg`: another process sends terms that match the patterns
abbrev pub sender_reason : List Body → ℕ → List Standing → List Pattern → Option Reason
sender_reason bodies number others patterns =
    unless (has_sender bodies number (Some patterns) others) (partner_reason (first_later bodies number (gives_later patterns) others) reason.NobodySends)

-- condition of `:=`: the slot takes the value; there is always exactly one value
abbrev pub set_reason : Option Sort → List Term → Option Reason
set_reason sort [] = Some reason.NoValue
set_reason sort (value ∷ []) = unless (has_slot_sort sort value) reason.WrongSort
set_reason sort (value ∷ other ∷ values) = Some reason.NoValue

-- condition of `shutdown`: the value exists; there is always exactly one value
abbrev pub end_reason : List Term → Option Reason
end_reason [] = Some reason.NoValue
end_reason (value ∷ []) = None
end_reason (value ∷ other ∷ values) = Some reason.NoValue

-- condition of `printf`: the values give a text
abbrev pub print_reason : List Term → Option Reason
print_reason terms = unless (is_some (printf_of terms)) (reason.NoText (format_fault terms))

-- the reason if a process has no capacity for the note
abbrev pub full_reason : Option ℕ → Option Reason
full_reason None = None
full_reason (Some number) = Some (reason.QueueFull number)

-- condition of `no-note`: no note matches
abbrev pub waits_reason : Option Found → Option Reason
waits_reason None = None
waits_reason (Some found) = Some (reason.NoteWaits found.place)

-- conditions of `create`: the arguments have the types of the parameters, and the slot takes the number of the new process
abbrev pub created_reason : Scene → ℕ → ℕ → ℕ → List Term → Option Reason
created_reason scene creator process slot actuals =
    if fits_formals (slice_get scene.bodies process) actuals
    then unless (fits_slot (slice_get scene.bodies creator) slot (number_term scene.next_number)) reason.NoNumber
    else Some reason.WrongActuals

-- conditions of `create`: another process may live, and the conditions above
abbrev pub create_reason : Scene → ℕ → ℕ → ℕ → List Term → Option Reason
create_reason scene creator process slot actuals =
    if nat_lt (length scene.standings) most_alive then created_reason scene creator process slot actuals else Some reason.TooMany

-- the type of a slot of a body
abbrev pub sorts_in : Option Body → ℕ → Option Sort
sorts_in None slot = None
sorts_in (Some body) slot = slice_get body.sorts slot

-- The reason of an offer whose times hold, by its atom: one equation for each kind of atom.
abbrev pub reason_by : Scene → ℕ → ℕ → Held → Offering → Act → Option Reason
reason_by scene number body held offer Delta = Some reason.Never
reason_by scene number body held offer Tau = None
reason_by scene number body held offer (Set slot value) = with_terms (set_reason (sorts_in (slice_get scene.bodies body) slot)) offer.sent
reason_by scene number body held offer (Printf exprs) = with_terms print_reason offer.sent
-- another process receives the values (`snd-msg`)
reason_by scene number body held offer (SndMsg exprs) = with_terms (receiver_reason scene.bodies number scene.standings) offer.sent
-- another process sends a message that matches (`rec-msg`)
reason_by scene number body held offer (RecMsg exprs) = with_patterns (sender_reason scene.bodies number scene.standings) offer.patterns
-- every queue that wants the note has capacity for it
reason_by scene number body held offer (SndNote exprs) = with_terms (λ terms. full_reason (full_queue terms scene.queues)) offer.sent
-- a note in the process's own queue matches (`rec-note`), or none matches (`no-note`)
reason_by scene number body held offer (RecNote exprs) = with_patterns (λ patterns. unless (is_some (oldest_match patterns held)) reason.NoNote) offer.patterns
reason_by scene number body held offer (NoNote exprs) = with_patterns (λ patterns. waits_reason (oldest_match patterns held)) offer.patterns
reason_by scene number body held offer (Subscribe exprs) = with_patterns (λ patterns. None) offer.patterns
reason_by scene number body held offer (Unsubscribe exprs) = with_patterns (λ patterns. None) offer.patterns
reason_by scene number body held offer (Create process actuals slot) = with_terms (create_reason scene body process slot) offer.sent
reason_by scene number body held offer (Execute tool slot) = execute_reason (scene.setting body) slot (slice_get (scene.setting body).kinds tool)
reason_by scene number body held offer (RecConnect tool slot) = kind_reason (scene.setting body) stage.Waiting slot (slice_get (scene.setting body).kinds tool)
reason_by scene number body held offer (RecDisconnectAny tool slot) = kind_reason (scene.setting body) stage.Leaving slot (slice_get (scene.setting body).kinds tool)
reason_by scene number body held offer (RecDisconnect tool) = with_terms (λ terms. tool_reason (leaving_reason (scene.setting body).bench) (lane_named (scene.setting body).bench terms)) offer.sent
reason_by scene number body held offer (SndEval tool expr) = with_terms (λ terms. tool_reason (idle_reason (scene.setting body).bench) (lane_named (scene.setting body).bench terms)) offer.sent
reason_by scene number body held offer (RecValue tool expr) =
    with_terms (λ terms. with_patterns (λ patterns. tool_reason (value_reason (scene.setting body).bench patterns) (lane_named (scene.setting body).bench terms)) offer.patterns) offer.sent
reason_by scene number body held offer (SndDo tool expr) = with_terms (λ terms. tool_reason (idle_reason (scene.setting body).bench) (lane_named (scene.setting body).bench terms)) offer.sent
reason_by scene number body held offer (RecEvent tool exprs) =
    with_terms (λ terms. with_patterns (λ patterns. tool_reason (event_reason (scene.setting body).bench patterns) (lane_named (scene.setting body).bench terms)) offer.patterns) offer.sent
reason_by scene number body held offer (SndAckEvent tool exprs) = with_terms (λ terms. tool_reason (received_reason (scene.setting body).bench terms) (lane_named (scene.setting body).bench terms)) offer.sent
reason_by scene number body held offer (SndTerminate tool expr) = with_terms (λ terms. tool_reason (live_reason (scene.setting body).bench) (lane_named (scene.setting body).bench terms)) offer.sent
reason_by scene number body held offer (Shutdown expr) = with_terms end_reason offer.sent

-- The reason of an offer: `Down` if the bus has shut down, `Times` if the times don't all hold, and otherwise the reason by its atom.
abbrev pub reason_now : Bool → Scene → ℕ → ℕ → Held → Offering → Option Reason
reason_now down scene number body held offer =
    if down then Some reason.Down
    else (if offer.ready then reason_by scene number body held offer (act_of (atoms_of scene.bodies body) offer.atom) else Some reason.Times)

-- the entry of an offer: its atom, and its reason if there is one
abbrev pub stall_of : Bool → Scene → ℕ → ℕ → Held → Offering → Stall
stall_of down scene number body held offer = record { atom = offer.atom; reason = reason_now down scene number body held offer }

-- the entry of a process, with an entry for each of its offers, in order
abbrev pub waiter_of : Bus → Proc → Waiter
waiter_of bus proc = record {
  number = proc.number;
  body = proc.body;
  stalls = map (stall_of bus.down (scene_of bus) proc.number proc.body proc.inbox) (standing_of bus.program.bodies bus.now proc).offers;
}

-- The entries of all living processes: what each of them waits for.
abbrev pub waiters : Bus → List Waiter
waiters bus = map (waiter_of bus) bus.procs
