-- The steps that a bus can make next, in order: the label of each step, and the bus after it.
use Rattle.std.specs.Prelude.{ℕ, codes, ◌==◌, nat_lt, nat_le, List, [], ◌∷◌, ◌++◌, map, filter, Bool, not, if◌then◌else◌, Option, Some, None}
use Rattle.std.specs.List.{flat_map}
use Rattle.tb_terms.specs.declared.term.Term.{Term}
use Rattle.tb_terms.specs.declared.term.Term.TheVariants.{Appl}
use Rattle.tb_match.specs.declared.bind.Bind.{Bind}
use Rattle.tb_match.specs.Matches.{match_list}
use Rattle.tb_process_steps.specs.Binds.{with_binds}
use Rattle.tb_process_steps.specs.Offers.{Offered, offers}
use Rattle.tb_bus.specs.Buses.{Bus, Proc, atoms_of, proc_left}
use Rattle.tb_bus.specs.Actions.{action_of}
use Rattle.tb_bus.specs.Effects.{Effect, effect_of, changed, went_down}
use Rattle.tb_bus.specs.declared.action.Action.{Action}
use Rattle.tb_bus.specs.declared.action.Action.TheVariants as action
use Rattle.tb_log.specs.declared.entry.Place.{Place}
use Rattle.tb_log.specs.declared.entry.Label.{Label}
use Rattle.tb_log.specs.declared.entry.LabelKind.TheVariants as kind

-- A step before it is made: the process that makes it, the offer that it takes, and in a message the other process with its offer.
pub data Move : Type 0 where
  -- a step of a process by itself, with this effect
  Own : Proc → Offered → Effect → Move
  -- a message: one process sends these terms to another process, which sets these binds
  Handshake : Proc → Offered → Proc → Offered → List Term → List Bind → Move
  -- no process is left
  Finish : Move
  -- no process can do anything, and no more ticks come
  Halt : Move

-- the action of an offer of this process
abbrev pub action_by : Bus → Proc → Offered → Option Action
action_by bus proc offered = action_of (atoms_of bus.program.bodies proc.body) bus.now offered

-- the processes in turn: first those with a greater number than the process that took the last step, and then the others
abbrev pub in_turn : Bus → List Proc
in_turn bus = filter (λ proc. nat_lt bus.last_starter proc.number) bus.procs ++ filter (λ proc. nat_le proc.number bus.last_starter) bus.procs

-- the processes with another number than this one
abbrev pub others : Bus → Proc → List Proc
others bus proc = filter (λ other. not (other.number == proc.number)) bus.procs

-- the message from one offer to the other, if the terms match with these binds
abbrev pub handshake_if : Proc → Offered → List Term → Proc → Offered → Option (List Bind) → List Move
handshake_if sender sent terms receiver received None = []
handshake_if sender sent terms receiver received (Some binds) = Handshake sender sent receiver received terms binds ∷ []

-- The message from an offer that sends these terms to another offer, if the action of the other offer receives patterns that match the
-- terms.
abbrev pub handshake_of : Proc → Offered → List Term → Proc → Offered → Option Action → List Move
handshake_of sender sent terms receiver received None = []
handshake_of sender sent terms receiver received (Some (action.Own own)) = []
handshake_of sender sent terms receiver received (Some (action.Send other)) = []
handshake_of sender sent terms receiver received (Some (action.Receive patterns)) = handshake_if sender sent terms receiver received (match_list patterns terms)

-- the messages to one other process, in the order of its offers
unfoldable pub handshakes_with : Bus → Proc → Offered → List Term → Proc → List Move
handshakes_with bus sender sent terms receiver = flat_map (λ received. handshake_of sender sent terms receiver received (action_by bus receiver received)) (offers receiver.term receiver.store)

-- the messages to all other processes, in the order of the processes
unfoldable pub handshakes : Bus → Proc → Offered → List Term → List Move
handshakes bus sender sent terms = flat_map (handshakes_with bus sender sent terms) (others bus sender)

-- the step of a process by itself, if its action has an effect
abbrev pub own_if : Proc → Offered → Option Effect → List Move
own_if proc offered None = []
own_if proc offered (Some effect) = Own proc offered effect ∷ []

-- The moves that begin with one offer, determined by its action.
abbrev pub moves_by : Bus → Proc → Offered → Option Action → List Move
moves_by bus proc offered None = []
moves_by bus proc offered (Some (action.Own own)) = own_if proc offered (effect_of bus proc (action.Own own))
moves_by bus proc offered (Some (action.Send terms)) = handshakes bus proc offered terms
-- the sender begins a message
moves_by bus proc offered (Some (action.Receive patterns)) = []

-- the moves that this process begins, in the order of its offers
unfoldable pub moves_of : Bus → Proc → List Move
moves_of bus proc = flat_map (λ offered. moves_by bus proc offered (action_by bus proc offered)) (offers proc.term proc.store)

-- the moves of all processes, in turn
unfoldable pub moves_of_all : Bus → List Move
moves_of_all bus = flat_map (moves_of bus) (in_turn bus)

-- the moves of the processes; if there are none and no more ticks come, the bus halts
abbrev pub moves_or_halt : Bool → List Move → List Move
moves_or_halt no_ticks [] = if no_ticks then Halt ∷ [] else []
moves_or_halt no_ticks (move ∷ moves) = move ∷ moves

-- the moves of a bus that is up; if no process is left, the bus finishes
abbrev pub moves_while_up : Bus → List Proc → List Move
moves_while_up bus [] = Finish ∷ []
moves_while_up bus (proc ∷ procs) = moves_or_halt bus.no_ticks (moves_of_all bus)

-- All moves, in order. A bus that has shut down makes none.
unfoldable pub moves : Bus → List Move
moves bus = if bus.down then [] else moves_while_up bus bus.procs

-- The processes after the process with this number takes the offer. It continues with the remaining term, in the offer's store with the
-- binds set. If no term remains, the process is removed.
unfoldable pub advance : ℕ → Offered → List Bind → List Proc → List Proc
advance number offered binds procs = flat_map (λ proc. if proc.number == number then proc_left proc (with_binds offered.store binds) offered.residual else proc ∷ []) procs

abbrev pub place_of : Proc → Offered → Place
place_of proc offered = record { proc = proc.number; atom = offered.atom }

abbrev pub nowhere : Place
nowhere = record { proc = 0; atom = 0 }

-- the label of a move
abbrev pub label_of : Move → Label
label_of (Own proc offered effect) = record { kind = effect.kind; from = place_of proc offered; to = nowhere; terms = effect.shown }
label_of (Handshake sender sent receiver received terms binds) = record { kind = kind.Msg; from = place_of sender sent; to = place_of receiver received; terms = terms }
label_of Finish = record { kind = kind.Finish; from = nowhere; to = nowhere; terms = [] }
label_of Halt = record { kind = kind.Halt; from = nowhere; to = nowhere; terms = [] }

-- the bus after this process takes the offer with these binds; it is the process that took the last step
abbrev pub went_on : Proc → Offered → List Bind → Bus → Bus
went_on proc offered binds bus = record bus { procs = advance proc.number offered binds bus.procs; last_starter = proc.number }

-- the reasons for which a bus shuts down: no process is left, or no process can make a step any more
abbrev pub finish_reason : Term
finish_reason = Appl (codes "finish") []

abbrev pub halt_reason : Term
halt_reason = Appl (codes "halt") []

-- The bus after a move.
abbrev pub apply : Bus → Move → Bus
-- the change of the effect is made; the process continues with its binds, and is the process that took the last step
apply bus (Own proc offered effect) = went_on proc offered effect.binds (changed effect.change proc.number bus)
-- both processes continue, the receiver with the binds; the sender is the process that took the last step
apply bus (Handshake sender sent receiver received terms binds) = record bus { procs = advance receiver.number received binds (advance sender.number sent [] bus.procs); last_starter = sender.number }
-- the bus shuts down, and the process that took the last step remains the same
apply bus Finish = went_down finish_reason bus
apply bus Halt = went_down halt_reason bus

-- a step: its label, and the bus after it
pub record Step : Type 0 where
  pub label : Label
  pub bus : Bus

abbrev pub step_of : Bus → Move → Step
step_of bus move = record { label = label_of move; bus = apply bus move }

-- All steps of a bus, in order.
unfoldable pub steps : Bus → List Step
steps bus = map (step_of bus) (moves bus)

-- the first element of a list, if there is one
abbrev pub first : {A : Type 0} → List A → Option A
first [] = None
first (x ∷ xs) = Some x
