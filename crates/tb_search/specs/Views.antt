-- How the rows of a search represent the processes of a bus, and which move of the bus a candidate is.
use Rattle.std.specs.Prelude.{◌≡◌, ℕ, ◌<◌, ◌≢◌, List, [], ◌∷◌, length, Option, Some, None, slice_index_or, ⊤}
use Rattle.tb_terms.specs.declared.term.Term.{Term}
use Rattle.tb_match.specs.declared.bind.Bind.{Bind}
use Rattle.tb_match.specs.Matches.{match_list}
use Rattle.tb_body.specs.declared.body.Body.{Body}
use Rattle.tb_process_steps.specs.Processes.{At}
use Rattle.tb_process_steps.specs.Offers.{Offered, offers}
use Rattle.tb_bus.specs.Buses.{Bus, Proc, atoms_of}
use Rattle.tb_bus.specs.Steps.{Move, Own, Handshake, Finish, Halt}
use Rattle.tb_notes.specs.Inboxes.{nothing}
use Rattle.tb_bus.specs.Effects.{Effect, effect_of}
use Rattle.tb_search.specs.Candidates.{Row, Scene, row_at, readies, finding_of}
use Rattle.tb_search.specs.declared.marks.Marks.{Marks}
use Rattle.tb_bus.specs.declared.action.Action.{Action}
use Rattle.tb_bus.specs.declared.action.Action.TheVariants as action
use Rattle.tb_bus.specs.declared.action.OwnAction.{OwnAction}
use Rattle.tb_bus.specs.declared.action.OwnAction.TheVariants as own
use Rattle.tb_search.specs.declared.living.Ready.{Ready}
use Rattle.tb_search.specs.declared.candidate.Finding.{Finding}
use Rattle.tb_search.specs.declared.candidate.Candidate.{Candidate}
use Rattle.tb_search.specs.declared.candidate.Candidate.TheVariants as candidate

-- a row represents a process: its number, body, and inbox, and its offers that are ready for an action
pub record IsRowOf (bodies : List Body) (now : ℕ) (row : Row) (proc : Proc) : Type 0 where
  pub number : row.number ≡ proc.number
  pub body : row.body ≡ proc.body
  pub inbox : row.inbox ≡ proc.inbox
  pub ready : row.ready ≡ readies (atoms_of bodies proc.body) now 0 (offers proc.term proc.store)

-- there are as many rows as processes, and each row represents the process at its position
abbrev pub AreRowsOf : List Body → ℕ → List Row → List Proc → Type 0
AreRowsOf bodies now [] [] = ⊤
AreRowsOf bodies now [] (proc ∷ procs) = ⊥
AreRowsOf bodies now (row ∷ rows) [] = ⊥
AreRowsOf bodies now (row ∷ rows) (proc ∷ procs) = IsRowOf bodies now row proc × AreRowsOf bodies now rows procs

-- values for indices at which there is no process, offer, or action; no search finds such an index
abbrev pub no_proc : Proc
no_proc = record { number = 0; body = 0; term = At 0 0; store = []; inbox = nothing }

abbrev pub no_offer : Offered
no_offer = record { atom = 0; age = 0; store = []; residual = None }

abbrev pub no_ready : Ready
no_ready = record { offer = 0; atom = 0; action = action.Send [] }

abbrev pub proc_at : List Proc → ℕ → Proc
proc_at procs at = slice_index_or procs at no_proc

abbrev pub ready_at : List Row → ℕ → ℕ → Ready
ready_at rows at index = slice_index_or (row_at rows at).ready index no_ready

abbrev pub offer_at : Proc → ℕ → Offered
offer_at proc at = slice_index_or (offers proc.term proc.store) at no_offer

-- the offer of one of the actions of a process
abbrev pub offer_of : List Proc → List Row → ℕ → ℕ → Offered
offer_of procs rows at index = offer_at (proc_at procs at) (ready_at rows at index).offer

-- the terms that an action sends
abbrev pub sent_in : Action → List Term
sent_in (action.Own own) = []
sent_in (action.Send terms) = terms
sent_in (action.Receive patterns) = []

-- the action that a process does by itself; a tau for an action that needs another process
abbrev pub own_in : Action → OwnAction
own_in (action.Own does) = does
own_in (action.Send terms) = own.Tau
own_in (action.Receive patterns) = own.Tau

-- the move of a process by itself with this effect; `Halt` is only a placeholder if there is no effect
abbrev pub own_move : Proc → Offered → Option Effect → Move
own_move proc offered None = Halt
own_move proc offered (Some effect) = Own proc offered effect

-- the move of one of the actions of a process
abbrev pub move_by : Bus → List Row → ℕ → ℕ → Move
move_by bus rows at index = own_move (proc_at bus.procs at) (offer_of bus.procs rows at index) (effect_of bus (proc_at bus.procs at) (ready_at rows at index).action)

-- the move that a candidate is
abbrev pub move_of : Bus → List Row → Candidate → Move
move_of bus rows (candidate.Own at index found) = move_by bus rows at index
move_of bus rows (candidate.Handshake at index partner) =
    Handshake (proc_at bus.procs at) (offer_of bus.procs rows at index)
    (proc_at bus.procs partner.living) (offer_of bus.procs rows partner.living partner.received.action)
    (sent_in (ready_at rows at index).action) partner.received.binds
move_of bus rows candidate.Finish = Finish
move_of bus rows candidate.Halt = Halt

-- the process does the action by itself, and the action may happen with this finding
abbrev pub HappensIn : Scene → Row → Action → Finding → Type 0
HappensIn scene row does found = (own : OwnAction) × (does ≡ action.Own own) × (finding_of scene row own ≡ Some found)

-- the action receives the terms, with these binds
abbrev pub Receives : List Term → Action → List Bind → Type 0
Receives terms (action.Own own) binds = ⊥
Receives terms (action.Send other) binds = ⊥
Receives terms (action.Receive patterns) binds = match_list patterns terms ≡ Some binds

-- there is a process at the first index, and it has an action at the second one
abbrev pub IsThere : List Row → ℕ → ℕ → Type 0
IsThere rows at index = (at < length rows) × (index < length (row_at rows at).ready)

-- the candidate names processes that are alive, and actions of these that may happen as found; the two processes of a handshake differ
abbrev pub IsCandidateIn : Scene → Candidate → Type 0
IsCandidateIn scene (candidate.Own at index found) =
    IsThere scene.rows at index × HappensIn scene (row_at scene.rows at) (ready_at scene.rows at index).action found
IsCandidateIn scene (candidate.Handshake at index partner) =
    IsThere scene.rows at index × IsThere scene.rows partner.living partner.received.action
    × ((row_at scene.rows at).number ≢ (row_at scene.rows partner.living).number)
    × ((ready_at scene.rows at index).action ≡ action.Send (sent_in (ready_at scene.rows at index).action))
    × Receives (sent_in (ready_at scene.rows at index).action) (ready_at scene.rows partner.living partner.received.action).action partner.received.binds
IsCandidateIn scene candidate.Finish = ⊤
IsCandidateIn scene candidate.Halt = ⊤

-- The scene and the marks represent the bus.
pub record IsSearchedFor (bus : Bus) (scene : Scene) (marks : Marks) : Type 0 where
  pub bodies_are : bus.program.bodies ≡ scene.bodies
  pub kinds_are : bus.program.tools ≡ scene.kinds
  pub bench_is : bus.bench ≡ scene.bench
  pub rows_are : AreRowsOf scene.bodies bus.now scene.rows bus.procs
  pub last_is : bus.last_starter ≡ marks.last_starter
  pub next_is : bus.next_number ≡ scene.next_number
  pub no_ticks_is : bus.no_ticks ≡ marks.no_ticks
  pub down_is : bus.down ≡ marks.down
