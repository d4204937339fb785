-- The whole state of a bus, the initial bus of an origin, and the process that a bus creates next.
use Rattle.std.specs.Prelude.{ℕ, ◌+◌, List, [], ◌∷◌, ◌++◌, map, length, Bool, false, Option, Some, None, slice_get}
use Rattle.tb_terms.specs.declared.term.Term.{Term}
use Rattle.tb_func.specs.declared.slot.Slot.{Slot}
use Rattle.tb_func.specs.Stores.{fresh_slot, with_value}
use Rattle.tb_body.specs.declared.atom.Atom.{Atom}
use Rattle.tb_body.specs.declared.body.Body.{Body}
use Rattle.tb_body.specs.declared.program.Program.{Program}
use Rattle.tb_body.specs.declared.program.Root.{Root}
use Rattle.tb_process_steps.specs.Processes.{Process, fresh}
use Rattle.tb_notes.specs.Inboxes.{Held, nothing}
use Rattle.tb_tools.specs.Lanes.{BenchState, opening}
use Rattle.tb_bus.specs.declared.origin.Origin.{Origin}

-- a running process: its number, the index of its body, its term, its store, and its inbox (its subscriptions and waiting notes)
pub record Proc : Type 0 where
  pub number : ℕ
  pub body : ℕ
  pub term : Process
  pub store : List Slot
  pub inbox : Held

-- The state of a bus. On the initial bus, the processes are in ascending order of their numbers, and steps keep this order.
pub record Bus : Type 0 where
  pub program : Program
  pub procs : List Proc
  -- the number of ticks so far
  pub now : ℕ
  -- the number of the process that took the last step (the sender, if the step was a message); 0 before the first step of a process
  pub last_starter : ℕ
  -- the number of the next process that is created
  pub next_number : ℕ
  -- whether no more ticks come
  pub no_ticks : Bool
  -- whether the bus has shut down
  pub down : Bool
  -- the lanes with their tools
  pub bench : BenchState

abbrev pub atoms_in : Option Body → List Atom
atoms_in None = []
atoms_in (Some body) = body.atoms

-- the atoms of the body with this index, from 0
abbrev pub atoms_of : List Body → ℕ → List Atom
atoms_of bodies number = atoms_in (slice_get bodies number)

-- the process with this store and the remaining term; none if no term remains
abbrev pub proc_left : Proc → List Slot → Option Process → List Proc
proc_left proc store None = []
proc_left proc store (Some term) = record proc { term = term; store = store } ∷ []

-- the slots after these values are set, the first in this slot and each other in the next slot
abbrev pub with_values : List Slot → ℕ → List Term → List Slot
with_values slots slot [] = slots
with_values slots slot (term ∷ terms) = with_values (with_value slots slot term) (slot + 1) terms

-- the store of a new process: its arguments in the first slots, and in the other slots the initial values of their types
abbrev pub opening_store : Body → List Term → List Slot
opening_store body actuals = with_values (map fresh_slot body.sorts) 0 actuals

-- a new process with this number, of a body with this index: it has no subscriptions and no waiting notes; none without a body
abbrev pub opened_one : ℕ → ℕ → List Term → Option Body → List Proc
opened_one number process actuals None = []
opened_one number process actuals (Some body) =
    record { number = number; body = process; term = fresh body.tree; store = opening_store body actuals; inbox = nothing } ∷ []

-- the new processes of the roots, numbered from this number on
abbrev pub opened : List Body → ℕ → List Root → List Proc
opened bodies number [] = []
opened bodies number (root ∷ roots) = opened_one number root.process root.actuals (slice_get bodies root.process) ++ opened bodies (number + 1) roots

-- the origin of a bus: its program, the commands that start the first lanes, and the greatest number of entries in its log
abbrev pub origin_of : Program → List (List ℕ) → ℕ → Origin
origin_of program connects limit = record { program = program; connects = connects; limit = limit }

-- the initial bus: the processes of the roots, and the first lanes started with the commands
abbrev pub start : Origin → Bus
start origin = record {
  program = origin.program;
  procs = opened origin.program.bodies 1 origin.program.roots;
  now = 0;
  last_starter = 0;
  next_number = length origin.program.roots + 1;
  no_ticks = false;
  down = false;
  bench = opening origin.connects;
}

-- the process that a bus creates next, of this body and with these arguments
abbrev pub created : Bus → ℕ → List Term → List Proc
created bus process actuals = opened_one bus.next_number process actuals (slice_get bus.program.bodies process)
