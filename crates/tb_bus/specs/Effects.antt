-- The effect of an action on a bus, when the action is possible, and the changed bus.
use Rattle.std.specs.Prelude.{ℕ, ◌+◌, ◌==◌, ◌&&◌, ◌||◌, nat_lt, pos, List, [], ◌∷◌, ◌++◌, map, length, Bool, true, not, if◌then◌else◌, Option, Some, None, option_map, is_some, slice_get, slice_index_or}
use Rattle.std.specs.List.{list_all}
use Rattle.tb_terms.specs.declared.term.Term.{Term}
use Rattle.tb_terms.specs.declared.term.Term.TheVariants.{Int}
use Rattle.tb_terms.specs.declared.pattern.Pattern.{Pattern}
use Rattle.tb_match.specs.declared.bind.Bind.{Bind}
use Rattle.tb_body.specs.declared.body.Body.{Body}
use Rattle.tb_notes.specs.Inboxes.{Held, most_notes, subscribed, unsubscribed, wants, with_note, oldest_match, without_note}
use Rattle.tb_notes.specs.declared.queue.Found.{Found}
use Rattle.tb_log.specs.declared.entry.LabelKind.{LabelKind}
use Rattle.tb_log.specs.declared.entry.LabelKind.TheVariants as kind
use Rattle.tb_tools.specs.Lanes.{BenchState}
use Rattle.tb_tools.specs.Acts.{gone_down}
use Rattle.tb_bus.specs.Buses.{Bus, Proc, created}
use Rattle.tb_bus.specs.Slots.{fits_formals, fits_slot}
use Rattle.tb_bus.specs.Exchanges.{Setting, setting_by, exchange_for, kind_of, terms_seen, bench_after}
use Rattle.tb_bus.specs.declared.action.Action.{Action}
use Rattle.tb_bus.specs.declared.action.Action.TheVariants.{Own, Send, Receive}
use Rattle.tb_bus.specs.declared.action.OwnAction.{OwnAction}
use Rattle.tb_bus.specs.declared.action.OwnAction.TheVariants.{Tau, Set, Print, Notify, TakeNote, NoNote, Subscribe, Unsubscribe, Create, Speak, Shutdown}
use Rattle.tb_bus.specs.declared.action.ToolAction.{ToolAction}
use Rattle.tb_bus.specs.declared.exchange.Exchange.{Exchange}

-- The change that a step makes on the bus, in addition to the continuation of the process that makes the step.
pub data Change : Type 0 where
  Nothing : Change
  -- these terms are a note for each process that has a matching subscription
  PutsNote : List Term → Change
  -- the process removes the note at this position from its own queue
  TakesNote : ℕ → Change
  -- the process adds the subscription with these patterns, or removes it
  Subscribes : List Pattern → Change
  Unsubscribes : List Pattern → Change
  -- a process of this body begins with these arguments
  Creates : ℕ → List Term → Change
  -- the new state of the lanes and their tools
  SetsBench : BenchState → Change
  -- the bus shuts down for this reason
  GoesDown : Term → Change

-- the kind and the terms of the label, the binds of the process that acts, and the other change of the bus
pub record Effect : Type 0 where
  pub kind : LabelKind
  pub shown : List Term
  pub binds : List Bind
  pub change : Change

-- a note can be sent as far as this inbox is concerned: no subscription matches the note, or the queue has capacity
abbrev pub takes_note : List Term → Held → Bool
takes_note terms held = not (wants held terms) || nat_lt (length held.notes) most_notes

-- the note at this position of the queue
abbrev pub note_at : Held → ℕ → List Term
note_at held place = slice_index_or held.notes place []

abbrev pub number_term : ℕ → Term
number_term number = Int (pos number)

-- the greatest number of running processes
abbrev pub most_alive : ℕ
most_alive = 10000

-- A process of one body can create a process of another with these arguments, and set the slot to its number. Fewer processes run than
-- can run, the arguments have the types of the parameters, and the slot takes a number.
abbrev pub may_create : List Body → ℕ → ℕ → ℕ → ℕ → List Term → ℕ → Bool
may_create bodies alive number creator process actuals slot =
    nat_lt alive most_alive && fits_formals (slice_get bodies process) actuals && fits_slot (slice_get bodies creator) slot (number_term number)

abbrev pub creation : ℕ → ℕ → List Term → ℕ → Effect
creation number process actuals slot = record {
  kind = kind.Create;
  shown = number_term number ∷ [];
  binds = record { slot = slot; value = number_term number } ∷ [];
  change = Creates process actuals;
}

abbrev pub taking : Held → Found → Effect
taking held found = record { kind = kind.RecNote; shown = note_at held found.place; binds = found.binds; change = TakesNote found.place }

-- the setting in which this process speaks with tools
abbrev pub setting_of : Bus → Proc → Setting
setting_of bus proc = setting_by bus.program.bodies bus.program.tools bus.bench proc.body

abbrev pub speaking : Setting → ToolAction → Exchange → Effect
speaking setting does exchange = record {
  kind = kind_of does;
  shown = terms_seen setting does exchange;
  binds = exchange.binds;
  change = SetsBench (bench_after setting does exchange);
}

-- The effect of an action that a process takes by itself, if the action is possible: one line for each atom, and one for all atoms that
-- speak with a tool.
abbrev pub own_effect : Bus → Proc → OwnAction → Option Effect
own_effect bus proc Tau = Some (record { kind = kind.Tau; shown = []; binds = []; change = Nothing })
own_effect bus proc (Set values binds) = Some (record { kind = kind.Set; shown = values; binds = binds; change = Nothing })
own_effect bus proc (Print text) = Some (record { kind = kind.Printf; shown = text ∷ []; binds = []; change = Nothing })
-- possible if and only if each process with a matching subscription has capacity in its queue
own_effect bus proc (Notify terms) =
    if list_all (λ (other : Proc). takes_note terms other.inbox) bus.procs
    then Some (record { kind = kind.SndNote; shown = terms; binds = []; change = PutsNote terms }) else None
-- takes the oldest note in the own queue that matches, if there is one
own_effect bus proc (TakeNote patterns) = option_map (taking proc.inbox) (oldest_match patterns proc.inbox)
-- possible if and only if no note in the own queue matches
own_effect bus proc (NoNote patterns) =
    if is_some (oldest_match patterns proc.inbox) then None else Some (record { kind = kind.NoNote; shown = []; binds = []; change = Nothing })
own_effect bus proc (Subscribe patterns) = Some (record { kind = kind.Subscribe; shown = []; binds = []; change = Subscribes patterns })
own_effect bus proc (Unsubscribe patterns) = Some (record { kind = kind.Unsubscribe; shown = []; binds = []; change = Unsubscribes patterns })
-- the new process has the next number
own_effect bus proc (Create process actuals slot) =
    if may_create bus.program.bodies (length bus.procs) bus.next_number proc.body process actuals slot
    then Some (creation bus.next_number process actuals slot) else None
-- speaks with a tool, if the exchange is possible
own_effect bus proc (Speak does) = option_map (speaking (setting_of bus proc) does) (exchange_for (setting_of bus proc) does)
-- shuts down the bus
own_effect bus proc (Shutdown reason) = Some (record { kind = kind.Shutdown; shown = reason ∷ []; binds = []; change = GoesDown reason })

-- The effect of an action: none if the action isn't possible, or needs another process.
abbrev pub effect_of : Bus → Proc → Action → Option Effect
effect_of bus proc (Own own) = own_effect bus proc own
effect_of bus proc (Send terms) = None
effect_of bus proc (Receive patterns) = None

-- the process after these terms are sent as a note: it gets a copy if it has a matching subscription
abbrev pub given : List Term → Proc → Proc
given terms proc = if wants proc.inbox terms then record proc { inbox = with_note terms proc.inbox } else proc

-- the process, with its inbox changed if it has this number
abbrev pub with_inbox : ℕ → (Held → Held) → Proc → Proc
with_inbox number change proc = if proc.number == number then record proc { inbox = change proc.inbox } else proc

-- the bus after it shuts down for this reason: each lane that is up and hasn't ended gets the last line to its tool, and ends
abbrev pub went_down : Term → Bus → Bus
went_down reason bus = record bus { down = true; bench = gone_down reason bus.bench }

-- The bus after a change that the process with this number makes: one line for each kind of change.
abbrev pub changed : Change → ℕ → Bus → Bus
changed Nothing number bus = bus
changed (PutsNote terms) number bus = record bus { procs = map (given terms) bus.procs }
changed (TakesNote place) number bus = record bus { procs = map (with_inbox number (without_note place)) bus.procs }
changed (Subscribes patterns) number bus = record bus { procs = map (with_inbox number (subscribed patterns)) bus.procs }
changed (Unsubscribes patterns) number bus = record bus { procs = map (with_inbox number (unsubscribed patterns)) bus.procs }
changed (Creates process actuals) number bus = record bus { procs = bus.procs ++ created bus process actuals; next_number = bus.next_number + 1 }
changed (SetsBench bench) number bus = record bus { bench = bench }
changed (GoesDown reason) number bus = went_down reason bus
